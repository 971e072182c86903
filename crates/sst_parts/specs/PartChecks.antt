-- The check of a whole parted table, as a function of its bytes: the first cause met is reported.
use Rattle.std.specs.Prelude.{◌≡◌, ℕ, ◌+◌, ◌-◌, ◌^◌, ◌&&◌, min, max, nat_eq, not, Bool, true, List, [], length, Option, Some, None, Result, Ok}
use Rattle.std.specs.Cmp.Lexicographic.{slice_cmp}
use Rattle.std.specs.Ordering.{nat_cmp, ordering_then, is_eq, is_lt}
use Rattle.sstable_blocks.specs.Prelude.{HandleParts, Entry, demand, Handle}
use Rattle.sstable_blocks.specs.Results.{◌>>=◌, Error, BadHandle, OutOfOrder}
use Rattle.sst_parts.specs.Parts.{IsParted, tops_at}
use Rattle.sst_parts.specs.declared.checking.Passed.{Passed}
use Rattle.sst_parts.specs.declared.checking.PartedSummary.{PartedSummary}
use Rattle.sstable_blocks.specs.Blocks.{joined}
use Rattle.sstable_blocks.specs.Footer.{table_handles}
use Rattle.sstable_blocks.specs.Opened.{range_of}
use Rattle.sstable_blocks.specs.RunChecks.{check_run, summary_of}
use Rattle.sstable_blocks.specs.RunReading.{Hashes, range_at}
use Rattle.sstable_blocks.specs.Walks.{place_frames, walk_frames, walked}
use Rattle.sstable_blocks.specs.declared.run.checking.RunSummary.{RunSummary}

-- an entry with this key and this sequence number does not sort before the last one of the part before, if there is one
abbrev pub begins_after : Option Handle → List ℕ → ℕ → Bool
begins_after None key seqno = true
begins_after (Some h) key seqno = not (is_lt (ordering_then (slice_cmp nat_cmp key h.end_key) (nat_cmp h.seqno seqno)))

-- a key and a sequence number are those of a handle
abbrev pub is_end_at : Handle → List ℕ → ℕ → Bool
is_end_at h key seqno = nat_eq seqno h.seqno && is_eq (slice_cmp nat_cmp key h.end_key)

-- the key and the sequence number of the first entry of the parts before, if there are any, and of one more
abbrev pub first_with : Option Handle → List ℕ × ℕ → List ℕ × ℕ → List ℕ × ℕ
first_with None before place = place
first_with (Some h) before place = before

-- what is counted of the parts before, and of one more
abbrev pub whole_with : Option Handle → RunSummary → RunSummary → RunSummary
whole_with last before run = record {
  blocks = min (before.blocks + run.blocks) (2 ^ 64 - 1);
  entries = min (before.entries + run.entries) (2 ^ 64 - 1);
  first_key = (first_with last (before.first_key, before.first_seqno) (run.first_key, run.first_seqno)).0;
  first_seqno = (first_with last (before.first_key, before.first_seqno) (run.first_key, run.first_seqno)).1;
  last_key = run.last_key;
  last_seqno = run.last_seqno;
  least_seqno = min before.least_seqno run.least_seqno;
  greatest_seqno = max before.greatest_seqno run.greatest_seqno;
}

-- what is known after a part more
abbrev pub passed_on : Passed → Handle → RunSummary → Passed
passed_on s h run = record { offset = s.offset + h.size; last = Some h; whole = whole_with s.last s.whole run }

-- the run of a part, after those before: the order across parts, then the end
abbrev pub check_ends : Passed → Handle → RunSummary → Result Passed Error
check_ends s h run = do
  order ← demand (begins_after s.last run.first_key run.first_seqno) OutOfOrder
  end ← demand (is_end_at h run.last_key run.last_seqno) BadHandle
  Ok (passed_on s h run)

-- a table file: its footer, then its run
unfoldable pub check_file : Hashes → List ℕ → Result RunSummary Error
check_file c file = do
  h ← table_handles file
  check_run c file h

-- the bytes of a part: a table file, then its place among the others
abbrev pub check_bytes : Hashes → Passed → Handle → List ℕ → Result Passed Error
check_bytes c s h file = do
  run ← check_file c file
  check_ends s h run

-- the part of a handle: its offset, its range, and its bytes
unfoldable pub check_part : Hashes → List ℕ → Passed → Handle → Result Passed Error
check_part c bytes s h = do
  place ← demand (nat_eq h.offset s.offset) BadHandle
  file ← range_at bytes (range_of h)
  check_bytes c s h file

-- before the first part
abbrev pub no_parts : Passed
no_parts = record { offset = 0; last = None; whole = summary_of [] }

-- the parts of handles, one after the other
abbrev pub check_parts : Hashes → List ℕ → List Handle → Result PartedSummary Error
check_parts c bytes tops = do
  s ← walked (check_part c bytes) no_parts tops
  Ok (record { parts = length tops; whole = s.whole })

-- the index of the parts, then the parts
unfoldable pub check_parted : Hashes → List ℕ → HandleParts → Result PartedSummary Error
check_parted c bytes top = do
  tops ← tops_at c bytes top
  check_parts c bytes tops

-- the frames of the parts, up to the first that is refused: one a part, unless it does not begin where the part before ends
abbrev pub parts_frames : Hashes → List ℕ → List Handle → ℕ
parts_frames c bytes tops = walk_frames (check_part c bytes) (λ s h. place_frames s.offset h) no_parts tops

-- what is counted of blocks; of the blocks themselves 2^64 - 1 too, where there are more
abbrev pub whole_of : List (List Entry) → RunSummary
whole_of blocks = record (summary_of blocks) { blocks = min (length blocks) (2 ^ 64 - 1) }

-- the summary of a parted table of these parts
abbrev pub summary_of_parts : List (List (List Entry)) → PartedSummary
summary_of_parts parts = record { parts = length parts; whole = whole_of (joined parts) }

-- bytes with the handle of an index are a parted table of some parts
abbrev pub IsPartedTable : Hashes → List ℕ → HandleParts → Type 0
IsPartedTable c bytes top = (parts : List (List (List Entry))) × IsParted c parts bytes top

-- what holds of the parts, if bytes with the handle of an index are a parted table
abbrev pub ForParted : Hashes → List ℕ → HandleParts → (List (List (List Entry)) → Type 0) → Type 0
ForParted c bytes top holds = (parts : List (List (List Entry))) → IsParted c parts bytes top → holds parts

-- bytes with the handle of an index are a parted table, and this is the summary of its parts
abbrev pub IsPartedSummary : Hashes → List ℕ → HandleParts → PartedSummary → Type 0
IsPartedSummary c bytes top summary = (parts : List (List (List Entry))) × IsParted c parts bytes top × (summary ≡ summary_of_parts parts)
