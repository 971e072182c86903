use Rattle.std.proofs.Common.{◌-◌, true}
use Rattle.sst_calls.specs.Batches.{Passes}
use Rattle.sst_calls.specs.Windows.{blocks_in}
use Rattle.sst_calls.proofs.run_scan.scan_back.Given as goal

abbrev pub invariant-loop-window : goal.invariant-loop-window
invariant-loop-window l = Passes l.fn.bytes (blocks_in l.fn.bytes l.fn.handles) l.fn.below true l.fn.window l.window l.fn.places l.places l.fn.count l.count

abbrev pub decreases-loop-window : goal.decreases-loop-window
decreases-loop-window l = l.window.end_block - l.window.first_block
