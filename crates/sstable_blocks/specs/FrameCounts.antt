-- How many frames a call asks for, by the bytes: those up to the first error.
use Rattle.std.specs.Prelude.{ℕ, ◌+◌, if◌then◌else◌, List, Option}
use Rattle.sst_base.specs.BlockHandle.{HandleParts}
use Rattle.sst_base.specs.Counted.{found_item}
use Rattle.sst_block_core.specs.Handles.{Handle, handles}
use Rattle.sstable_blocks.specs.Filter.{Filter}
use Rattle.sstable_blocks.specs.Footer.{table_handles}
use Rattle.sstable_blocks.specs.Lookup.{handle_for}
use Rattle.sstable_blocks.specs.RunChecks.{check_block, filter_in_run, none_passed}
use Rattle.sstable_blocks.specs.RunReading.{Hashes, filter_says, handles_at}
use Rattle.sstable_blocks.specs.Sources.{filter_frames}
use Rattle.sstable_blocks.specs.Tables.{filter_kept}
use Rattle.sstable_blocks.specs.Walks.{frames_after, place_frames, walk_frames}
use Rattle.sstable_blocks.specs.declared.run.RunHandles.{RunHandles}
use Rattle.sstable_blocks.specs.declared.run.checking.Passed.{Passed}

-- the frames of the blocks of handles, up to the first that is refused: one a block, unless it does not begin where the
-- block before ends
abbrev pub blocks_frames : Hashes → List ℕ → Option Filter → Passed → List Handle → ℕ
blocks_frames c bytes f s hs = walk_frames (check_block c bytes f) (λ t h. place_frames t.offset h) s hs

-- the frame of the index, then those of its blocks
abbrev pub frames_by_index : Hashes → List ℕ → Option Filter → HandleParts → ℕ
frames_by_index c bytes f h = 1 + frames_after (handles_at c bytes h) (λ hs. blocks_frames c bytes f none_passed hs)

-- the frames that a check of a run asks for
unfoldable pub check_frames : Hashes → List ℕ → RunHandles → ℕ
check_frames c bytes h = filter_frames h.filter + frames_after (filter_in_run c bytes h.filter) (λ f. frames_by_index c bytes f h.index)

-- the frames that are asked for to open a run: that of its filter, then that of its index
unfoldable pub open_frames : Hashes → List ℕ → RunHandles → ℕ
open_frames c bytes h = filter_frames h.filter + frames_after (filter_kept c bytes h.filter) (λ _. 1)

-- and to open a table file: its footer before these
unfoldable pub file_frames : Hashes → List ℕ → ℕ
file_frames c bytes = 1 + frames_after (table_handles bytes) (λ h. open_frames c bytes h)

-- the frame of the index, then that of the block that can hold the needle, if there is one
abbrev pub frames_to : Hashes → List ℕ → HandleParts → List ℕ → ℕ → ℕ
frames_to c bytes h needle seqno = 1 + frames_after (handles_at c bytes h) (λ hs. found_item (handle_for handles needle seqno hs))

-- the frames that a read of a key asks for: that of the filter, and where it allows the key those of index and block
unfoldable pub read_frames : Hashes → List ℕ → RunHandles → List ℕ → ℕ → ℕ
read_frames c bytes h needle seqno = filter_frames h.filter + frames_after (filter_says c bytes h.filter needle) (λ may. if may then frames_to c bytes h.index needle seqno else 0)
