-- Parted tables: table files one after the other, an index over them, and reading them.
use Rattle.std.specs.Prelude.{◌≡◌, ℕ, ◌+◌, ◌-◌, ◌*◌, ◌≤◌, nat_lt, if◌then◌else◌, List, length, Option, Some, None, Result, Ok, Err, IfOk}
use Rattle.std.specs.List.{AllZip}
use Rattle.sstable_blocks.specs.Prelude.{HandleParts, found_item, Entry, index_check, entries, Handle, handles, IsIndexBlock, IsOrdered, first_match}
use Rattle.sstable_blocks.specs.Results.{◌>>=◌, Error, Truncated}
use Rattle.sstable_blocks.specs.BlockTypes as types
use Rattle.sstable_blocks.specs.Blocks.{joined}
use Rattle.sstable_blocks.specs.Footer.{footer_handles, table_handles}
use Rattle.sstable_blocks.specs.Lookup.{IsEnd, handle_for}
use Rattle.sstable_blocks.specs.Opened.{range_of}
use Rattle.sstable_blocks.specs.ReadCosts.{find_cost, heads_most_in, entries_most_in}
use Rattle.sstable_blocks.specs.Run.{IsFramed}
use Rattle.sstable_blocks.specs.RunPlaces.{part_in}
use Rattle.sstable_blocks.specs.RunReading.{Hashes, IsFramedAt, range_at, payload_at, read_checked}
use Rattle.sstable_blocks.specs.Sound.{AreContiguous, IsSound}
use Rattle.sstable_blocks.specs.Walks.{frames_after}
use Rattle.sstable_blocks.specs.declared.run.RunHandles.{RunHandles}
use Rattle.sstable_blocks.specs.declared.run.table.OpenError.{OpenError}

-- in the range of a handle is a table file: a sound run of these blocks, and the footer that says where its index and its
-- filter are; the handle has the key and the sequence number of the last entry
pub record IsStoredPart (c : Hashes) (bytes : List ℕ) (blocks : List (List Entry)) (h : Handle) : Type 0 where
  pub inside : h.offset + h.size ≤ length bytes
  pub places : RunHandles
  pub footer : table_handles (part_in bytes (range_of h)) ≡ Ok places
  pub sound : IsSound c blocks (part_in bytes (range_of h)) places
  pub end : IsEnd entries handles (joined blocks) h

-- in the range of a handle is the frame of type `Meta` of an index block that encodes these handles, at an interval of
-- its own
pub record IsStoredTop (c : Hashes) (bytes : List ℕ) (hs : List Handle) (h : HandleParts) : Type 0 where
  pub payload : List ℕ
  pub frame : IsFramedAt c types.Meta bytes h payload
  pub framed : IsFramed payload
  pub interval : ℕ
  pub is_block : IsIndexBlock payload hs interval

-- bytes with the handle of a frame are a parted table of these parts, each a list of blocks: an index of the parts, which
-- follow each other from offset 0, and whose entries are ordered across parts too
pub record IsParted (c : Hashes) (parts : List (List (List Entry))) (bytes : List ℕ) (top : HandleParts) : Type 0 where
  pub tops : List Handle
  pub index : IsStoredTop c bytes tops top
  pub stored : AllZip (IsStoredPart c bytes) parts tops
  pub contiguous : AreContiguous 0 tops
  pub ordered : IsOrdered entries (joined (joined parts))

-- the handles of the parts, by the frame in the range of a handle
abbrev pub tops_at : Hashes → List ℕ → HandleParts → Result (List Handle) Error
tops_at c bytes top = do
  p ← payload_at c types.Meta bytes top
  index_check p

-- the frames that are asked for to open the file of a parted table: its footer, then the index of its parts
abbrev pub tops_frames : List ℕ → ℕ
tops_frames bytes = 1 + frames_after (table_handles bytes) (λ _. 1)

-- the handle of that frame and the handles of the parts, by the footer of a file
unfoldable pub tops_by_footer : Hashes → List ℕ → Result (HandleParts × List Handle) Error
tops_by_footer c bytes = do
  h ← table_handles bytes
  tops ← tops_at c bytes h.index
  Ok (h.index, tops)

-- where the footer of a part is: in its last 24 bytes
abbrev pub part_footer : HandleParts → HandleParts
part_footer g = record { offset = g.offset + (g.size - 24); size = 24 }

-- the handles in the footer of the part in a range
unfoldable pub places_in : List ℕ → HandleParts → Result RunHandles Error
places_in bytes g = if nat_lt g.size 24 then Err Truncated else (range_at bytes (part_footer g) >>= footer_handles)

-- the first match of the part in a range: its footer, then its filter, its index and one block
abbrev pub read_part : Hashes → List ℕ → HandleParts → List ℕ → ℕ → Result (Option Entry) Error
read_part c bytes g needle seqno = do
  places ← places_in bytes g
  read_checked c (part_in bytes g) places needle seqno

-- what a read of a part gives, by the handle of the part, if there is one
abbrev pub by_top : (HandleParts → Result (Option Entry) Error) → Option Handle → Result (Option Entry) Error
by_top read None = Ok None
by_top read (Some h) = read (range_of h)

-- the first match by the handle of a part
abbrev pub read_by_top : Hashes → List ℕ → Option Handle → List ℕ → ℕ → Result (Option Entry) Error
read_by_top c bytes h needle seqno = by_top (λ g. read_part c bytes g needle seqno) h

-- what contracts see of a parted table: the source, the handle of the index of its parts, the handles of the parts, and
-- the restart interval of that index
pub record PartedParts (S : Type 0) : Type 0 where
  pub source : S
  pub top : HandleParts
  pub tops : List Handle
  pub interval : ℕ

-- the source of a parted table, or of what was not opened
abbrev pub source_after : {S : Type 0} → Result (PartedParts S) (OpenError S) → S
source_after (Ok t) = t.source
source_after (Err e) = e.source

-- a parted table, or the error for which it was not opened
abbrev pub error_after : {S : Type 0} → Result (PartedParts S) (OpenError S) → Result (PartedParts S) Error
error_after (Ok t) = Ok t
error_after (Err e) = Err e.error

-- of bytes that are a parted table, a result is the first match of the entries of all parts
abbrev pub FindsInParts : Hashes → HandleParts → List ℕ → ℕ → Result (Option Entry) Error → List ℕ → Type 0
FindsInParts c top needle seqno result bytes = (parts : List (List (List Entry))) → IsParted c parts bytes top → IfOk result (λ found. found ≡ first_match entries needle seqno (joined (joined parts)))

-- the most heads and entries that a read of a part examines, by the handles in its footer
abbrev pub most_by_places : List ℕ → Result RunHandles Error → List ℕ → ℕ → ℕ × ℕ
most_by_places part (Ok places) needle seqno = (heads_most_in part places needle seqno, entries_most_in part places needle seqno)
most_by_places part (Err e) needle seqno = (0, 0)

-- the same by the handle of a part, if there is one
abbrev pub part_most : List ℕ → Option Handle → List ℕ → ℕ → ℕ × ℕ
part_most bytes None needle seqno = (0, 0)
part_most bytes (Some h) needle seqno = most_by_places (part_in bytes (range_of h)) (places_in bytes (range_of h)) needle seqno

-- the sum of two pairs of numbers
abbrev pub both : ℕ × ℕ → ℕ × ℕ → ℕ × ℕ
both a b = (a.0 + b.0, a.1 + b.1)

-- the most heads and entries that a read examines: those of a search for the part, and those of the read of that part
abbrev pub parted_most : List ℕ → List Handle → ℕ → List ℕ → ℕ → ℕ × ℕ
parted_most bytes tops interval needle seqno = both (find_cost interval (length tops)) (part_most bytes (handle_for handles needle seqno tops) needle seqno)

-- the most frames that a read asks for: of the part that can hold the key, if there is one, those of its footer, its
-- filter, its index and one block
abbrev pub parted_frames : List Handle → List ℕ → ℕ → ℕ
parted_frames tops needle seqno = 4 * found_item (handle_for handles needle seqno tops)
