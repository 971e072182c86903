-- What contracts see of the two ends of an iterator over a block, apart from the block.
use Rattle.std.specs.Prelude.{Bool, nat_lt, List}
use Rattle.sst_base.specs.Counted.{Counted}
use Rattle.sst_block_core.specs.Kind.{Kind}
use Rattle.sst_block_core.specs.Backs.{IsBack}
use Rattle.sst_block_core.specs.Intervals.{IntervalsParts}
use Rattle.sst_block_core.specs.Scan.{Listed, Scan, IsPlace}
use Rattle.sst_block_core.specs.Window.{Window}
use Rattle.sst_block_core.specs.declared.table.block.ends.Ends.{Ends}

-- two ends lie in a block: the front is a place of it, and the back an end with the offsets before it
pub record AreBlockEnds {X : Type 0} (kind : Kind X) (list : Listed X) (ends : Ends) : Type 0 where
  pub front : IsPlace kind list ends.front
  pub back : IsBack kind list ends.back.hi ends.back.stack.items ends.back.base

-- is an item left between two ends?
abbrev pub some_between : Ends → Bool
some_between ends = nat_lt ends.front.index ends.back.hi

-- the window over a list between two ends
abbrev pub window_between : {X : Type 0} → List X → Ends → Window X
window_between items ends = record { list = items; lo = ends.front.index; hi = ends.back.hi }

-- an iterator over a block: its intervals, and two ends
abbrev pub scan_between : {X : Type 0} → IntervalsParts X → Ends → Scan X
scan_between parts ends = record { payload = parts.list.payload; interval = parts.list.interval; window = window_between parts.list.items ends; steps = parts.steps }

-- an iterator over a list that counts by itself, between two ends
abbrev pub scan_over : {X : Type 0} → Listed X → Counted → Ends → Scan X
scan_over list steps ends = scan_between (record { list = list; steps = steps }) ends
