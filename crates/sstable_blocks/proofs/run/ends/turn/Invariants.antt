use Rattle.std.proofs.Common.{◌-◌, not, eqb}
use Rattle.sstable_blocks.specs.Ends.{PaysOnce, counts_of, ends}
use Rattle.sstable_blocks.proofs.Scans.EndSteps.{IsReached}
use Rattle.sstable_blocks.proofs.run.ends.turn.Given as goal

abbrev pub invariant-open : goal.invariant-open
invariant-open g l = record {
  reached : IsReached g.S.Blocks.reading g.met.S.Blocks.laws (not (eqb g.row.BACK 0)) l.fn.blocks (ends g.B.Ended.items l.fn.near l.fn.between l.fn.far) l.blocks (ends g.B.Ended.items l.near l.between l.far);
  pays : PaysOnce g.S.Blocks.reading l.fn.blocks (counts_of g.S.Blocks.reading g.B.Ended.tally l.fn.blocks l.fn.near l.fn.between l.fn.far) (counts_of g.S.Blocks.reading g.B.Ended.tally l.blocks l.near l.between l.far) 0 0;
}

abbrev pub decreases-open : goal.decreases-open
decreases-open g l = l.between.hi - l.between.lo
