-- Walks over what a window of a run has left.
use Rattle.std.specs.Prelude.{◌≡◌, ℕ, ◌<◌, length, drop, slice_get, Option, Some, None}
use Rattle.sstable_blocks.specs.Prelude.{DataBlockParsedItem, IsParsedEntry, entry_of, items_left}
use Rattle.sst_sources.specs.Sources.{Left, TakesFirst}
use Rattle.sst_calls.specs.Blocks.{IsPartAt}
use Rattle.sst_calls.specs.Placed.{PlacedEntry, placed_source}
use Rattle.sst_calls.specs.Runs.{IsSomeRun}
use Rattle.sst_calls.specs.Windows.{IsWindow, blocks_in}
use Rattle.sst_calls.specs.declared.walk.Walk.{Walk}

-- The iterator of a walk is at the first place of its window, in the block of that place, which begins there in the run; at
-- the end of the block it may be anywhere.
pub record IsAtWindow (walk : Walk) : Type 0 where
  pub sound : IsSomeRun walk.bytes.now walk.handles
  pub window : IsWindow (blocks_in walk.bytes.now walk.handles) walk.window
  pub part : IsPartAt walk.bytes.now walk.part.start walk.part.block.payload
  pub block : slice_get (blocks_in walk.bytes.now walk.handles) walk.window.first_block ≡ Some walk.part.block.items
  pub len_is : walk.len ≡ length walk.part.block.items
  pub payload_is : walk.items.payload ≡ walk.part.block.payload
  pub left : walk.window.first_index < length walk.part.block.items → items_left walk.items.window ≡ drop walk.window.first_index walk.part.block.items

-- what a walk over the run with an index has left
abbrev pub walk_left : ℕ → Walk → Left PlacedEntry
walk_left run walk = placed_source run walk.bytes.now (blocks_in walk.bytes.now walk.handles) walk.window

-- a step of a walk takes the first item that is left, one of its block, after which its window then begins
abbrev pub TakesItem : Walk → Option DataBlockParsedItem → Walk → Type 0
TakesItem old None new = (run : ℕ) → TakesFirst (walk_left run old) None (walk_left run new)
TakesItem old (Some item) new =
    IsParsedEntry new.part.block.payload item
    × ((run : ℕ) → TakesFirst (walk_left run old) (Some (record { run = run; bytes = new.bytes.now; block = new.window.first_block; next = new.window.first_index; entry = entry_of new.part.block.payload item })) (walk_left run new))
