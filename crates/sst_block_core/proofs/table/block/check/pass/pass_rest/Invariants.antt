use Rattle.std.proofs.Common.{◌+◌, ◌<◌, ◌≤◌, length, List, ℕ}
use Rattle.sst_block_core.specs.KeyRanges.{IsKeyRanges}
use Rattle.sst_block_core.specs.Passes.{IsAlong, GoesOn, HasNoHead}
use Rattle.sst_block_core.proofs.table.block.check.pass.pass_rest.Given as goal

abbrev pub invariant-loop-step : goal.invariant-loop-step
invariant-loop-step g l = record {
  inside : l.at.offset ≤ length l.body;
  last : IsKeyRanges l.body l.at.last.key;
  goes : (r : ℕ) (pointers : List ℕ) (xs : List g.row.Item.Denot) → 0 < r → HasNoHead r (length xs) l.len
      → IsAlong g.Item.BlockItem.kind g.Item.Checkable.fits r l.body pointers xs l.base l.from
      → GoesOn g.Item.BlockItem.kind g.Item.Checkable.fits r l.body pointers (length xs + l.step) l.base l.at
      (λ ys. (b : ℕ) → g.Sink.KeySink.has_taken r b l.body l.fn.sink xs → g.Sink.KeySink.has_taken r b l.body l.sink ys);
}
