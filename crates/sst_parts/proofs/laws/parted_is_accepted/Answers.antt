use Rattle.sst_parts.proofs.Checks.PartCheckLaws.{parted_is_accepted}
use Rattle.sst_parts.proofs.laws.parted_is_accepted.Goals as goal

pub returns : goal.returns
returns c = λ hs parts bytes top sums parted. parted_is_accepted hs sums
    c.index_check_is_by_stages.ensures
    (λ r p items short is. c.index_block_is_read.ensures r p items short is)
    (λ blocks file h sound. c.sound_run_is_accepted.ensures hs blocks file h sums sound)
    bytes parts top parted
