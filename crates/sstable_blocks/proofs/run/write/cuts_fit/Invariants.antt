use Rattle.std.proofs.Common.{◌↔◌, drop}
use Rattle.sstable_blocks.specs.Blocks.{CutsFit}
use Rattle.sstable_blocks.proofs.run.write.cuts_fit.Given as goal

abbrev pub invariant-loop-cut : goal.invariant-loop-cut
invariant-loop-cut l = CutsFit 0 l.len l.cuts ↔ CutsFit l.start l.len (drop l.cut-index l.cuts)
