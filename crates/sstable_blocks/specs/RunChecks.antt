-- The check of a whole run, as a function of its bytes: the first cause met is reported.
use Rattle.std.specs.Prelude.{ℕ, ◌+◌, ◌-◌, ◌^◌, ◌&&◌, min, max, nat_eq, not, Bool, true, false, if◌then◌else◌, List, [], ◌∷◌, length, Option, Some, None, Result, Ok, Err}
use Rattle.std.specs.Cmp.Lexicographic.{slice_cmp}
use Rattle.std.specs.Ordering.{nat_cmp, ordering_then, is_eq, is_lt}
use Rattle.std.specs.declared.cmp.Ordering.{Ordering}
use Rattle.sst_base.specs.BlockHandle.{HandleParts}
use Rattle.sst_base.specs.Entry.{Entry}
use Rattle.sst_base.specs.Frame.{demand}
use Rattle.sst_base.specs.Header.{◌>>=◌}
use Rattle.sst_base.specs.declared.error.Error.{Error}
use Rattle.sst_base.specs.declared.error.Error.TheVariants.{BadHandle, BadFilter, OutOfOrder}
use Rattle.sst_base.specs.declared.table.block.block_type.BlockType.TheVariants as types
use Rattle.sst_block_core.specs.Handles.{Handle}
use Rattle.sstable_blocks.specs.Blocks.{joined}
use Rattle.sstable_blocks.specs.Filter.{Filter, filter_at, may_contain}
use Rattle.sstable_blocks.specs.Opened.{range_of}
use Rattle.sstable_blocks.specs.Run.{end_key_of}
use Rattle.sstable_blocks.specs.RunReading.{Hashes, payload_at, block_items_at, handles_at}
use Rattle.sstable_blocks.specs.Walks.{walked}
use Rattle.sstable_blocks.specs.declared.run.RunHandles.{RunHandles}
use Rattle.sstable_blocks.specs.declared.run.checking.Passed.{Passed}
use Rattle.sstable_blocks.specs.declared.run.checking.RunSummary.{RunSummary}

-- how an entry compares with the last entry of a handle's block
abbrev pub end_cmp : Handle → Entry → Ordering
end_cmp h x = ordering_then (slice_cmp nat_cmp x.key.user_key h.end_key) (nat_cmp h.seqno x.key.seqno)

-- the first entry of a block does not sort before the last one of the block before, if there is one
abbrev pub starts_after : Option Handle → List Entry → Bool
starts_after None items = true
starts_after (Some h) [] = true
starts_after (Some h) (x ∷ xs) = not (is_lt (end_cmp h x))

-- an entry has the end key and the sequence number of a handle
abbrev pub is_end : Handle → Entry → Bool
is_end h x = nat_eq x.key.seqno h.seqno && is_eq (slice_cmp nat_cmp x.key.user_key h.end_key)

-- a filter, if there is one, may contain the key of an entry
abbrev pub allows : (List ℕ → ℕ) → Option Filter → Entry → Bool
allows hash64 None x = true
allows hash64 (Some f) x = may_contain f (hash64 x.key.user_key)

-- the entries of a block, one after the other: the filter may contain each, and the last one is that of the handle.
-- Gives the least and the greatest sequence number of these and those before
abbrev pub check_entries : (List ℕ → ℕ) → Option Filter → Handle → Bool → ℕ × ℕ → List Entry → Result (ℕ × ℕ) Error
check_entries hash64 f h ends range [] = if ends then Ok range else Err BadHandle
check_entries hash64 f h ends range (x ∷ xs) =
    if allows hash64 f x then check_entries hash64 f h (is_end h x) (min range.0 x.key.seqno, max range.1 x.key.seqno) xs else Err BadFilter

-- the key and the sequence number of a run's first entry, which is that of its first block
abbrev pub first_after : Option Handle → List ℕ × ℕ → List Entry → List ℕ × ℕ
first_after None first [] = first
first_after None first (x ∷ xs) = (x.key.user_key, x.key.seqno)
first_after (Some h) first items = first

-- what is known after a block more
abbrev pub passed_on : Passed → Handle → List Entry → ℕ × ℕ → Passed
passed_on s h items range = record {
  offset = s.offset + h.size;
  last = Some h;
  entries = min (s.entries + length items) (2 ^ 64 - 1);
  first = first_after s.last s.first items;
  least = range.0;
  greatest = range.1;
}

-- the entries of a block: order across blocks, then the filter, then the end
abbrev pub check_items : (List ℕ → ℕ) → Option Filter → Passed → Handle → List Entry → Result Passed Error
check_items hash64 f s h items = do
  order ← demand (starts_after s.last items) OutOfOrder
  range ← check_entries hash64 f h false (s.least, s.greatest) items
  Ok (passed_on s h items range)

-- the block of a handle: its offset, its frame, its payload, and its entries
unfoldable pub check_block : Hashes → List ℕ → Option Filter → Passed → Handle → Result Passed Error
check_block c bytes f s h = do
  place ← demand (nat_eq h.offset s.offset) BadHandle
  items ← block_items_at c bytes (range_of h)
  check_items c.hash64 f s h items

-- the blocks of handles, one after the other
abbrev pub check_from : Hashes → List ℕ → Option Filter → Passed → List Handle → Result Passed Error
check_from c bytes f s hs = walked (check_block c bytes f) s hs

-- before the first block
abbrev pub none_passed : Passed
none_passed = record { offset = 0; last = None; entries = 0; first = ([], 0); least = 2 ^ 64 - 1; greatest = 0 }

-- the key and the sequence number at the end of the last block, if there is one
abbrev pub end_or : Option Handle → List ℕ × ℕ → List ℕ × ℕ
end_or None place = place
end_or (Some h) place = (h.end_key, h.seqno)

-- the summary of blocks that passed
abbrev pub summary_by : ℕ → Passed → RunSummary
summary_by n s = record {
  blocks = n;
  entries = s.entries;
  first_key = s.first.0;
  first_seqno = s.first.1;
  last_key = (end_or s.last s.first).0;
  last_seqno = (end_or s.last s.first).1;
  least_seqno = s.least;
  greatest_seqno = s.greatest;
}

-- the filter in the range of a handle, if there is one
abbrev pub filter_in_run : Hashes → List ℕ → Option HandleParts → Result (Option Filter) Error
filter_in_run c bytes None = Ok None
filter_in_run c bytes (Some h) = do
  p ← payload_at c types.Filter bytes h
  f ← filter_at p
  Ok (Some f)

-- the index and its blocks
abbrev pub check_by_index : Hashes → List ℕ → Option Filter → HandleParts → Result RunSummary Error
check_by_index c bytes f h = do
  hs ← handles_at c bytes h
  s ← check_from c bytes f none_passed hs
  Ok (summary_by (length hs) s)

-- filter, index and blocks
unfoldable pub check_run : Hashes → List ℕ → RunHandles → Result RunSummary Error
check_run c bytes h = do
  f ← filter_in_run c bytes h.filter
  check_by_index c bytes f h.index

-- the key and the sequence number of the first entry, and of the last one
abbrev pub first_of : List Entry → List ℕ × ℕ
first_of [] = ([], 0)
first_of (x ∷ xs) = (x.key.user_key, x.key.seqno)

abbrev pub last_of : List Entry → List ℕ × ℕ
last_of xs = ((end_key_of xs).user_key, (end_key_of xs).seqno)

-- the least of a number and the sequence numbers of entries, and the greatest
abbrev pub least_from : ℕ → List Entry → ℕ
least_from n [] = n
least_from n (x ∷ xs) = least_from (min n x.key.seqno) xs

abbrev pub greatest_from : ℕ → List Entry → ℕ
greatest_from n [] = n
greatest_from n (x ∷ xs) = greatest_from (max n x.key.seqno) xs

-- the summary of a run of these blocks
abbrev pub summary_of : List (List Entry) → RunSummary
summary_of blocks = record {
  blocks = length blocks;
  entries = min (length (joined blocks)) (2 ^ 64 - 1);
  first_key = (first_of (joined blocks)).0;
  first_seqno = (first_of (joined blocks)).1;
  last_key = (last_of (joined blocks)).0;
  last_seqno = (last_of (joined blocks)).1;
  least_seqno = least_from (2 ^ 64 - 1) (joined blocks);
  greatest_seqno = greatest_from 0 (joined blocks);
}
