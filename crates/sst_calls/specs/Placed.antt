-- The entries of runs with where they are, as a merge of runs has them.
use Rattle.std.specs.Prelude.{ℕ, suc, List, [], ◌∷◌, length, Some, None}
use Rattle.std.specs.declared.cmp.Ordering.{Ordering}
use Rattle.sstable_blocks.specs.Prelude.{Entry, items_left}
use Rattle.sstable_blocks.specs.Blocks.{joined}
use Rattle.sst_sources.specs.Merge.{entry_cmp}
use Rattle.sst_sources.specs.Sources.{Left}
use Rattle.sst_calls.specs.Runs.{handles_given}
use Rattle.sst_calls.specs.Windows.{blocks_in, count_before}
use Rattle.sst_calls.specs.declared.run.SstRun.{SstRun}
use Rattle.sst_calls.specs.declared.window.SstWindow.{SstWindow}

-- an entry with the index of its run, the run's bytes, the index of its block, and the index in the block of the entry after it
pub record PlacedEntry : Type 0 where
  pub run : ℕ
  pub bytes : List ℕ
  pub block : ℕ
  pub next : ℕ
  pub entry : Entry

-- entries of a block, the first of which is at an index
abbrev pub placed_items : ℕ → List ℕ → ℕ → ℕ → List Entry → List PlacedEntry
placed_items run bytes block index [] = []
placed_items run bytes block index (e ∷ es) = record { run = run; bytes = bytes; block = block; next = suc index; entry = e } ∷ placed_items run bytes block (suc index) es

-- the entries of blocks, the first of which is at an index
abbrev pub placed_blocks : ℕ → List ℕ → ℕ → List (List Entry) → List (List PlacedEntry)
placed_blocks run bytes block [] = []
placed_blocks run bytes block (xs ∷ xss) = placed_items run bytes block 0 xs ∷ placed_blocks run bytes (suc block) xss

-- what a window of a run has left
abbrev pub placed_left : ℕ → List ℕ → List (List Entry) → SstWindow → List PlacedEntry
placed_left run bytes blocks w = items_left (record { list = joined (placed_blocks run bytes 0 blocks); lo = count_before blocks w.first_block w.first_index; hi = count_before blocks w.end_block w.end_index })

-- the same as what is left of a source, which never fails
abbrev pub placed_source : ℕ → List ℕ → List (List Entry) → SstWindow → Left PlacedEntry
placed_source run bytes blocks w = record { list = Some (placed_left run bytes blocks w); most = length (placed_left run bytes blocks w); errors = Some []; ended = None }

-- the blocks of a run that is given, as they are in its bytes
abbrev pub run_blocks : SstRun → List (List Entry)
run_blocks run = blocks_in run.bytes.now (handles_given run.handles)

-- what windows of runs have left, the first of which is at an index
abbrev pub placed_lists : ℕ → List SstRun → List SstWindow → List (List PlacedEntry)
placed_lists index [] windows = []
placed_lists index (run ∷ runs) [] = []
placed_lists index (run ∷ runs) (w ∷ windows) = placed_left index run.bytes.now (run_blocks run) w ∷ placed_lists (suc index) runs windows

-- the order of the entries
abbrev pub placed_cmp : PlacedEntry → PlacedEntry → Ordering
placed_cmp x y = entry_cmp x.entry y.entry

-- a window after an entry
abbrev pub window_after : SstWindow → PlacedEntry → SstWindow
window_after w x = record { first_block = x.block; first_index = x.next; end_block = w.end_block; end_index = w.end_index }
