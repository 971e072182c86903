use Rattle.std.proofs.Common.{false}
use Rattle.sstable_blocks.specs.Ends.{ends}
use Rattle.sstable_blocks.specs.Tallies.{tally_of}
use Rattle.sstable_blocks.proofs.Scans.EndCounts.{pays_taken}
use Rattle.sstable_blocks.proofs.Scans.EndSteps.{taken}
use Rattle.sstable_blocks.proofs.run.ends.step_front.Goals as goal

pub returns-clause-taken : goal.returns-clause-taken
returns-clause-taken g c =
    let n = c.ready-ready.new in
    taken g.S.Blocks.reading g.met.S.Blocks.laws false g.B.Ended.Lacks _ _ _ (ends g.B.Ended.items n.near n.between n.far) _ _ _ (rw c.in_ok-ready.was at c.ready-ready.ensures.ready) c.take_first.ensures.taken

pub returns-clause-counts : goal.returns-clause-counts
returns-clause-counts g c =
    let n = c.ready-ready.new in
    let t = tally_of g.B.Ended.tally in
    pays_taken g.S.Blocks.reading _ _ (g.S.Blocks.reading.tally n.blocks) (t n.near) (t c.take_first.new.block) (t n.far) n.between.lo n.between.hi _ _ c.ready-ready.ensures.counts c.take_first.ensures.counts c.take_first.ensures.once
