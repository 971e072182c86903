use Rattle.std.proofs.Common.{◌≡◌, drop}
use Rattle.sst_merge.specs.Levels.{is_outside}
use Rattle.sst_merge.proofs.bottom.OlderRangesBottom.is_bottom.Given as goal

abbrev pub invariant-loop-range : goal.invariant-loop-range
invariant-loop-range l = is_outside (drop l.range-index l.range-items) l.fn.user_key ≡ is_outside l.range-items l.fn.user_key
