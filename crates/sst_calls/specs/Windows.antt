-- Windows of runs: what is left of a run's entries between two of its places.
use Rattle.std.specs.Prelude.{◌≡◌, ◌⊎◌, ℕ, ◌+◌, ◌≤◌, ◌<◌, List, length, map, take, slice_get, Some}
use Rattle.sstable_blocks.specs.Prelude.{Entry, entries, plain, items_in, items_left}
use Rattle.sstable_blocks.specs.Blocks.{joined}
use Rattle.sstable_blocks.specs.Opened.{index_in, payload_in, range_of}
use Rattle.sstable_blocks.specs.declared.run.RunHandles.{RunHandles}
use Rattle.sst_calls.specs.declared.window.SstWindow.{SstWindow}

-- the entries of the blocks of a run, as they are in its bytes
abbrev pub blocks_in : List ℕ → RunHandles → List (List Entry)
blocks_in bytes h = map (λ g. items_in entries (payload_in bytes (range_of g))) (index_in bytes h.index)

-- blocks as they are stored: tombstones without values
abbrev pub stored : List (List Entry) → List (List Entry)
stored blocks = map (map plain) blocks

-- a place of a run: before the entry at this index of a block, or at the end of that block
pub record IsPlaceIn (blocks : List (List Entry)) (block index : ℕ) : Type 0 where
  pub items : List Entry
  pub there : slice_get blocks block ≡ Some items
  pub inside : index ≤ length items

-- a place is not after another
abbrev pub IsUpToPlace : ℕ → ℕ → ℕ → ℕ → Type 0
IsUpToPlace block index end_block end_index = (block < end_block) ⊎ ((block ≡ end_block) × (index ≤ end_index))

-- numbers are a window of a run: two of its places, the first not after the second
pub record IsWindow (blocks : List (List Entry)) (w : SstWindow) : Type 0 where
  pub first : IsPlaceIn blocks w.first_block w.first_index
  pub end : IsPlaceIn blocks w.end_block w.end_index
  pub uncrossed : IsUpToPlace w.first_block w.first_index w.end_block w.end_index

-- how many entries of a run are before a place
abbrev pub count_before : List (List Entry) → ℕ → ℕ → ℕ
count_before blocks block index = length (joined (take block blocks)) + index

-- the entries that a window of a run has left: those between its places
abbrev pub left_in : List (List Entry) → SstWindow → List Entry
left_in blocks w = items_left (record { list = joined blocks; lo = count_before blocks w.first_block w.first_index; hi = count_before blocks w.end_block w.end_index })

-- numbers are a window of one block of so many entries, as of a run that has no other
pub record IsWindowIn (len : ℕ) (w : SstWindow) : Type 0 where
  pub first : w.first_block ≡ 0
  pub end : w.end_block ≡ 0
  pub uncrossed : w.first_index ≤ w.end_index
  pub inside : w.end_index ≤ len
