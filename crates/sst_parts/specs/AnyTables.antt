-- Tables of either kind: what is kept of a file, and what is read of it.
use Rattle.std.specs.Prelude.{◌≡◌, ℕ, ◌+◌, ◌<◌, min, Bool, true, false, List, map, Option, None, IfSome, Result, Ok, Err, MatchResult}
use Rattle.sstable_blocks.specs.Prelude.{HandleParts, Header, Counted, CountsBetween, Entry, Handle, handles, header_at}
use Rattle.sstable_blocks.specs.BlockTypes.{BlockType, Meta}
use Rattle.sstable_blocks.specs.Results.{◌>>=◌, Error}
use Rattle.sst_parts.specs.PartReaders.{FindsAllInParts, needles_frames, read_open_by_top}
use Rattle.sst_parts.specs.Parts.{FindsInParts, IsParted, parted_frames, parted_most, read_by_top, tops_at}
use Rattle.sst_parts.specs.declared.any_table.AnyTable.{AnyTable}
use Rattle.sst_parts.specs.declared.any_table.AnyTable.TheVariants.{Plain, Parted}
use Rattle.sstable_blocks.specs.Blocks.{joined}
use Rattle.sstable_blocks.specs.Footer.{table_handles}
use Rattle.sstable_blocks.specs.FrameCounts.{open_frames}
use Rattle.sstable_blocks.specs.Lookup.{handle_for}
use Rattle.sstable_blocks.specs.ManyReads.{FindsAll, many_frames, needle_place}
use Rattle.sstable_blocks.specs.ReadCosts.{CountsRead}
use Rattle.sstable_blocks.specs.RunReading.{Hashes, handles_at, range_at, read_checked}
use Rattle.sstable_blocks.specs.Sound.{FindsFirst, IsSound}
use Rattle.sstable_blocks.specs.Sources.{AsksExactly, AsksUpTo, FailsAs}
use Rattle.sstable_blocks.specs.Tables.{LooksBy, frames_by, kept_of, kept_parts, kept_says}
use Rattle.sstable_blocks.specs.Walks.{frames_after}
use Rattle.sstable_blocks.specs.declared.run.RunHandles.{RunHandles}
use Rattle.sstable_blocks.specs.declared.run.many.Needle.{Needle}
use Rattle.sstable_blocks.specs.declared.run.table.OpenError.{OpenError}

-- what is kept of a table: the handles, the filter and the index of a plain one, the handle of the index and the parts of a
-- parted one
pub data AnyKept : Type 0 where
  plain : RunHandles × Option (List ℕ) × List Handle → AnyKept
  parted : HandleParts × List Handle → AnyKept

-- where the header of the frame in the range of a handle is: its first 33 bytes, or all where there are fewer
abbrev pub header_place : HandleParts → HandleParts
header_place h = record { offset = h.offset; size = min h.size 33 }

-- the type of the frame of an index of parts
abbrev pub is_meta : BlockType → Bool
is_meta Meta = true
is_meta t = false

-- a header that was read is that of an index of parts
abbrev pub is_top : Result (Header × List ℕ) Error → Bool
is_top (Ok found) = is_meta found.0.block_type
is_top (Err e) = false

-- the frame in the range of a handle has the header of an index of parts
abbrev pub is_parted_at : Hashes → List ℕ → HandleParts → Result Bool Error
is_parted_at c bytes h = do
  found ← range_at bytes (header_place h)
  Ok (is_top (header_at c.hash128 found))

-- what is kept of a plain table by its handles, and of a parted one by that of its index
abbrev pub plain_by : Hashes → List ℕ → RunHandles → Result AnyKept Error
plain_by c bytes h = do
  kept ← kept_of c bytes h
  Ok (plain (h, kept.0, kept.1))

abbrev pub parted_by : Hashes → List ℕ → HandleParts → Result AnyKept Error
parted_by c bytes top = do
  tops ← tops_at c bytes top
  Ok (parted (top, tops))

-- what is kept of a table that is in parts, or is not
abbrev pub any_by_kind : Hashes → List ℕ → RunHandles → Bool → Result AnyKept Error
any_by_kind c bytes h true = parted_by c bytes h.index
any_by_kind c bytes h false = plain_by c bytes h

-- what is kept of a table: in parts where the frame of its index has the header of one of parts, else plain
abbrev pub any_by_handles : Hashes → List ℕ → RunHandles → Result AnyKept Error
any_by_handles c bytes h = is_parted_at c bytes h.index >>= any_by_kind c bytes h

-- what is kept of a table file, by the frame that its footer names as index
abbrev pub any_by_footer : Hashes → List ℕ → Result AnyKept Error
any_by_footer c bytes = table_handles bytes >>= any_by_handles c bytes

-- the frames that are asked for to open a table of a kind: the index of a parted one, or those of a plain one
abbrev pub kind_frames : Hashes → List ℕ → RunHandles → Bool → ℕ
kind_frames c bytes h true = 1
kind_frames c bytes h false = open_frames c bytes h

-- and to open one by its handles: the header of the frame of its index before these
abbrev pub handles_frames : Hashes → List ℕ → RunHandles → ℕ
handles_frames c bytes h = 1 + frames_after (is_parted_at c bytes h.index) (kind_frames c bytes h)

-- and to open a table file: its footer before these
abbrev pub any_frames : Hashes → List ℕ → ℕ
any_frames c bytes = 1 + frames_after (table_handles bytes) (handles_frames c bytes)

abbrev pub kept_in : {H S : Type 0} → AnyTable H S → AnyKept
kept_in (Plain t) = plain (t.handles, t.filter, t.index)
kept_in (Parted t) = parted (t.top, t.tops)

-- the handles of its blocks, or of its parts
abbrev pub index_of : {H S : Type 0} → AnyTable H S → List Handle
index_of (Plain t) = t.index
index_of (Parted t) = t.tops

-- these handles, by the bytes of the table
abbrev pub index_at : {H S : Type 0} → Hashes → List ℕ → AnyTable H S → Result (List Handle) Error
index_at c bytes (Plain t) = handles_at c bytes t.handles.index
index_at c bytes (Parted t) = tops_at c bytes t.top

-- the source of a table, and the table with another one
abbrev pub source_in : {H S : Type 0} → AnyTable H S → S
source_in (Plain t) = t.source
source_in (Parted t) = t.source

abbrev pub with_source : {H S : Type 0} → AnyTable H S → S → AnyTable H S
with_source (Plain t) s = Plain (record t { source = s })
with_source (Parted t) s = Parted (record t { source = s })

-- the source of a table, or of what was not opened, and the table, or why it was not opened
abbrev pub any_source_after : {H S : Type 0} → Result (AnyTable H S) (OpenError S) → S
any_source_after (Ok t) = source_in t
any_source_after (Err e) = e.source

abbrev pub any_error_after : {H S : Type 0} → Result (AnyTable H S) (OpenError S) → Result (AnyTable H S) Error
any_error_after (Ok t) = Ok t
any_error_after (Err e) = Err e.error

-- where the bytes of a source are known, a table is opened exactly as this is read of them, unless an allocation or the source
-- failed
abbrev pub OpensAs : {H S : Type 0} → (S → Option (List ℕ)) → (S → ℕ) → (S → Type 0) → S → Result (AnyTable H S) (OpenError S) → (List ℕ → Result AnyKept Error) → Type 0
OpensAs bytes failures is_reliable source result read = IfSome (bytes source) (λ all. MatchResult result (λ t. read all ≡ Ok (kept_in t)) (λ e. FailsAs (failures source < failures e.source) (is_reliable source) (read all) e.error))

-- the first match of a table, as a checked read of it finds it
abbrev pub read_any : {H S : Type 0} → Hashes → List ℕ → AnyTable H S → List ℕ → ℕ → Result (Option Entry) Error
read_any c bytes (Plain t) needle seqno = read_checked c bytes t.handles needle seqno
read_any c bytes (Parted t) needle seqno = read_by_top c bytes (handle_for handles needle seqno t.tops) needle seqno

-- the same where a part stays open
abbrev pub read_open_any : {H S : Type 0} → Hashes → List ℕ → AnyTable H S → Needle → Result (Option Entry) Error
read_open_any c bytes (Plain t) n = read_checked c bytes t.handles n.key.now n.seqno
read_open_any c bytes (Parted t) n = read_open_by_top c bytes (handle_for handles n.key.now n.seqno t.tops) n.key.now n.seqno

-- the most frames that reads of needles ask for, one after the other
abbrev pub needles_frames_of_any : {H S : Type 0} → (List ℕ → ℕ) → AnyTable H S → List Needle → ℕ
needles_frames_of_any hash64 (Plain t) ns = many_frames None (map (needle_place hash64 (kept_parts t)) ns)
needles_frames_of_any hash64 (Parted t) ns = needles_frames t.tops None ns

-- of bytes that are such a table, a result is the first match of its entries
abbrev pub FindsInAny : {H S : Type 0} → Hashes → AnyTable H S → List ℕ → ℕ → Result (Option Entry) Error → List ℕ → Type 0
FindsInAny c (Plain t) needle seqno result = FindsFirst c t.handles needle seqno result
FindsInAny c (Parted t) needle seqno result = FindsInParts c t.top needle seqno result

-- and so is a result, seen by `view`, of each needle
abbrev pub FindsAllInAny : {H S X : Type 0} → Hashes → AnyTable H S → List Needle → (X → List (Option Entry)) → Result X Error → List ℕ → Type 0
FindsAllInAny c (Plain t) needles view result = FindsAll c t.handles needles view result
FindsAllInAny c (Parted t) needles view result = FindsAllInParts c t.top needles view result

-- bytes are a table of these entries: a sound run, or a parted table
abbrev pub HasEntries : {H S : Type 0} → Hashes → AnyTable H S → List ℕ → List Entry → Type 0
HasEntries c (Plain t) bytes items = (blocks : List (List Entry)) × IsSound c blocks bytes t.handles × (items ≡ joined blocks)
HasEntries c (Parted t) bytes items = (parts : List (List (List Entry))) × IsParted c parts bytes t.top × (items ≡ joined (joined parts))

-- what a read of a table examines
abbrev pub CountsAny : {H S : Type 0} → List ℕ → AnyTable H S → List ℕ → ℕ → Counted → Counted → Type 0
CountsAny all (Plain t) needle seqno old new = CountsRead all t.handles needle seqno old new
CountsAny all (Parted t) needle seqno old new = CountsBetween old new (1, 0) (parted_most all t.tops t.interval needle seqno)

-- the frames that a read of a table asks for: of a plain one exactly those that its filter and its index say, of a parted one at
-- most four
abbrev pub AsksOfAny : {H S Y : Type 0} → (List ℕ → ℕ) → AnyTable H S → List ℕ → ℕ → Result Y Error → ℕ → ℕ → Type 0
AsksOfAny hash64 (Plain t) needle seqno = AsksExactly (frames_by (kept_says hash64 t.filter needle) (handle_for handles needle seqno t.index))
AsksOfAny hash64 (Parted t) needle seqno = AsksUpTo (parted_frames t.tops needle seqno)

-- what a read of a table looks at: of a plain one what its filter allows, of a parted one at least a head
abbrev pub LooksInAny : {H S : Type 0} → (List ℕ → ℕ) → AnyTable H S → List ℕ → Counted → Counted → Type 0
LooksInAny hash64 (Plain t) needle old new = LooksBy (kept_says hash64 t.filter needle) old new
LooksInAny hash64 (Parted t) needle old new = old.heads < new.heads
