use Rattle.std.proofs.Common.{ap, sym, ◌∙◌}
use Rattle.sstable_blocks.specs.BlockReading.{seen_from}
use Rattle.sst_parts.proofs.Scanning.RefSteps.{end_taken, none_unreached}
use Rattle.sst_parts.specs.RefScans.{UnreachedRefParts, opened_left, unreached_entries}
use Rattle.sstable_blocks.specs.RunReading.{hashes}
use Rattle.sst_parts.proofs.ref_scan.turn.Goals as goal

pub returns-clause-first : goal.returns-clause-first
returns-clause-first g c =
    let k = hashes g.H.BlockHash.hash64 g.H.BlockHash.hash128 in
    let u = c.keep_steps.new.self in
    let rest = c.keep_steps.ensures.rest in
    let same = ap (λ (x : UnreachedRefParts). seen_from c.args.back (unreached_entries k x)) rest ∙ c.open.invariant.left in
    let none = ap (λ (x : UnreachedRefParts). unreached_entries k x) rest ∙ none_unreached k c.open.unreached (sym c.has_part.ensures ∙ c.open-test.false) in
    end_taken c.args.back c.take_of-2.result (opened_left c.args.near.now) (unreached_entries k c.args.unreached.now) (unreached_entries k u) (opened_left c.args.far.now) (opened_left c.take_of-2.new.opened)
    c.requires same none c.take_of-2.ensures.first
