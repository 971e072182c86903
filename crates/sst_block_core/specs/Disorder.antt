-- The first entry out of order.
use Rattle.std.specs.Prelude.{ℕ, ◌+◌, List, [], ◌∷◌, Option, Some, None, if◌then◌else◌}
use Rattle.std.specs.Ordering.{is_lt}
use Rattle.sst_base.specs.Entry.{Entry}
use Rattle.sst_block_core.specs.Kind.{item_cmp}
use Rattle.sst_block_core.specs.Entries.{entries}

-- the index of the first entry that sorts before its predecessor, if the first entry of the list has this index
unfoldable pub disorder_from : ℕ → List Entry → Option ℕ
disorder_from i [] = None
disorder_from i (x ∷ []) = None
disorder_from i (x ∷ y ∷ items) = if is_lt (item_cmp entries y x) then Some (i + 1) else disorder_from (i + 1) (y ∷ items)
