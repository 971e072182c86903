use Rattle.std.proofs.Common.{◌≡◌}
use Rattle.sst_sources.specs.Stored.{all_keys}
use Rattle.sst_parts.specs.KnownLaws.{listed_parted, parted_listed}
use Rattle.sst_parts.proofs.laws.parted_is_known.Goals as goal

pub returns-clause-known : goal.returns-clause-known
returns-clause-known c = λ hs parts bytes top tops sums are parted at.
    parted_listed hs top tops (λ ps all is k. c.parted_is_scanned.ensures hs ps all top tops all_keys sums is k) parts bytes are parted at (c.parted_is_accepted.ensures hs parts bytes top sums parted)

pub returns-clause-parted : goal.returns-clause-parted
returns-clause-parted c = λ hs bytes top tops xs sums at known.
    listed_parted hs top tops (λ ps all is k. c.parted_is_scanned.ensures hs ps all top tops all_keys sums is k) bytes xs (λ s are size e. (let k = c.accepted_parted_is_sound.ensures hs bytes top s are size e in (k.0, k.1))) at known
