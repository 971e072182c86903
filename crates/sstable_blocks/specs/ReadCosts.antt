-- How little a read of a run examines.
use Rattle.std.specs.Prelude.{ℕ, ◌+◌, ◌%◌, ◌==◌, ◌≤◌, if◌then◌else◌, List, length, slice_get, Option, Some, None}
use Rattle.sst_base.specs.BlockHandle.{HandleParts}
use Rattle.sst_base.specs.Counted.{Counted, CountsBetween, CountsExactly}
use Rattle.sst_base.specs.Entry.{Entry}
use Rattle.sst_block_core.specs.Entries.{entries}
use Rattle.sst_block_core.specs.Intervals.{digits}
use Rattle.sst_block_core.specs.Pointers.{head_count}
use Rattle.sst_block_core.specs.Stages.{items_in}
use Rattle.sst_block_core.specs.Trailer.{trailer_in}
use Rattle.sst_block_core.specs.Handles.{Handle, handles}
use Rattle.sstable_blocks.specs.Lookup.{handle_for, place_for}
use Rattle.sstable_blocks.specs.Opened.{range_of, payload_in, index_in}
use Rattle.sstable_blocks.specs.Run.{Form, handles_from}
use Rattle.sstable_blocks.specs.declared.run.RunHandles.{RunHandles}

-- counters are only added to
pub record CountsGrow (old new : Counted) : Type 0 where
  pub heads : old.heads ≤ new.heads
  pub entries : old.entries ≤ new.entries

-- The handle at an index was decoded, with those before it in its interval, in an index with an interval of q handles. At
-- most q handles are decoded.
pub record CountsHandle (old new : Counted) (q index : ℕ) : Type 0 where
  pub exact : CountsExactly old new 0 (index % q + 1)
  pub most : index % q + 1 ≤ q

-- the interval of the block in the range of a frame
abbrev pub interval_in : List ℕ → HandleParts → ℕ
interval_in bytes h = (trailer_in (payload_in bytes h)).interval

-- how many heads the block of a handle has, if there is one
abbrev pub heads_at : List ℕ → Option Handle → ℕ
heads_at bytes None = 0
heads_at bytes (Some g) = head_count (interval_in bytes (range_of g)) (length (items_in entries (payload_in bytes (range_of g))))

-- the entries of an interval of the block of a handle, and one more, if there is one
abbrev pub entries_at : List ℕ → Option Handle → ℕ
entries_at bytes None = 0
entries_at bytes (Some g) = interval_in bytes (range_of g) + 1

-- the handle of the block that a read decodes, if there is one
abbrev pub handle_in : List ℕ → RunHandles → List ℕ → ℕ → Option Handle
handle_in bytes h needle seqno = handle_for handles needle seqno (index_in bytes h.index)

-- the most handles that a read decodes: one, and those of an interval where not each is a head
abbrev pub handles_most : ℕ → ℕ
handles_most q = if q == 1 then 1 else q + 1

-- the most heads and handles that a search for a handle among so many examines
abbrev pub find_cost : ℕ → ℕ → ℕ × ℕ
find_cost interval count = (digits (head_count interval count), handles_most interval)

-- the most heads that a read by handles of an index with this interval compares: those of a search in the index, and of
-- one in the block
abbrev pub heads_most_by : List ℕ → List Handle → ℕ → List ℕ → ℕ → ℕ
heads_most_by bytes hs interval needle seqno = digits (head_count interval (length hs)) + digits (heads_at bytes (handle_for handles needle seqno hs))

-- the most handles and entries that it decodes: of the block those of an interval, and one more
abbrev pub entries_most_by : List ℕ → List Handle → ℕ → List ℕ → ℕ → ℕ
entries_most_by bytes hs interval needle seqno = handles_most interval + entries_at bytes (handle_for handles needle seqno hs)

-- both
abbrev pub most_by : List ℕ → List Handle → ℕ → List ℕ → ℕ → ℕ × ℕ
most_by bytes hs interval needle seqno = (heads_most_by bytes hs interval needle seqno, entries_most_by bytes hs interval needle seqno)

-- the same for a read of these bytes
abbrev pub heads_most_in : List ℕ → RunHandles → List ℕ → ℕ → ℕ
heads_most_in bytes h needle seqno = heads_most_by bytes (index_in bytes h.index) (interval_in bytes h.index) needle seqno

abbrev pub entries_most_in : List ℕ → RunHandles → List ℕ → ℕ → ℕ
entries_most_in bytes h needle seqno = entries_most_by bytes (index_in bytes h.index) (interval_in bytes h.index) needle seqno

-- what a read of these bytes adds to the counters is at most that
abbrev pub CountsRead : List ℕ → RunHandles → List ℕ → ℕ → Counted → Counted → Type 0
CountsRead bytes h needle seqno old new = CountsBetween old new (0, 0) (heads_most_in bytes h needle seqno, entries_most_in bytes h needle seqno)

-- the block of a run that can hold the needle below a sequence number, if there is one
abbrev pub block_for : Form → List (List Entry) → List ℕ → ℕ → Option (List Entry)
block_for f blocks needle seqno = slice_get blocks (place_for handles needle seqno (handles_from f 0 blocks))

-- how many heads a block of a run has by its configuration, if there is one
abbrev pub heads_of : Form → Option (List Entry) → ℕ
heads_of f None = 0
heads_of f (Some block) = head_count f.config.restart_interval (length block)

-- the most heads that a read of a layout compares
abbrev pub heads_most : Form → List (List Entry) → List ℕ → ℕ → ℕ
heads_most f blocks needle seqno = digits (head_count f.config.index_interval (length blocks)) + digits (heads_of f (block_for f blocks needle seqno))

-- the most handles and entries that it decodes
abbrev pub entries_most : Form → ℕ
entries_most f = handles_most f.config.index_interval + (f.config.restart_interval + 1)
