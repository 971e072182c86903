use Rattle.std.proofs.Common.{◌≡◌, ◌*◌, ◌-◌, ◌<◌, ◌≤◌, [], ℕ}
use Rattle.sst_base.specs.declared.table.util.SliceIndexes.{SliceIndexes}
use Rattle.sst_block_core.specs.Passes.{GoesOn}
use Rattle.sst_block_core.proofs.table.block.check.pass.pass_over.Given as goal

abbrev pub invariant-loop-place : goal.invariant-loop-place
invariant-loop-place g l = record {
  upto : l.place ≤ l.count;
  row : l.place < l.count → l.place ≡ l.number * l.restart_interval;
  number : l.number ≤ l.place;
  goes : (base : SliceIndexes) × GoesOn g.Item.BlockItem.kind g.Item.Checkable.fits l.restart_interval l.body l.pointers l.place base l.at
      (λ ys. (b : ℕ) → g.Sink.KeySink.has_taken l.restart_interval b l.body l.fn.sink [] → g.Sink.KeySink.has_taken l.restart_interval b l.body l.sink ys);
}

abbrev pub decreases-loop-place : goal.decreases-loop-place
decreases-loop-place g l = l.count - l.place
