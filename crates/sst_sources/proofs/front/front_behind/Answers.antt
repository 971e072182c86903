use Rattle.std.proofs.Common.{arith, ◌∙◌, ap}
use Rattle.sstable_blocks.specs.Prelude.{front}
use Rattle.sst_sources.proofs.FrontNumbers.{behind_short, front_of_longer}
use Rattle.sst_sources.proofs.front.front_behind.Goals as goal

pub returns-then-left-ge16 : goal.returns-then-left-ge16
returns-then-left-ge16 c = front_of_longer c.args.left.now c.args.right.now _ _ c.if-left-ge16.true c.split_at.ensures.back c.front_of.ensures

pub returns : goal.returns
returns c = c.front_of-2.ensures ∙ ap front (behind_short c.args.left.now c.args.right.now _ _ (omega (arith, c.if-left-ge8.false)) c.min-passed.ensures c.split_at-2.ensures.back)
