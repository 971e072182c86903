-- Reads of many keys of a parted table: the part that was read last stays open.
use Rattle.std.specs.Prelude.{◌≡◌, ℕ, ◌+◌, ◌&&◌, nat_eq, if◌then◌else◌, List, [], ◌∷◌, map, Option, Some, None, IfSome, IfOk, Result, Ok}
use Rattle.std.specs.Option.{option_map}
use Rattle.sstable_blocks.specs.Prelude.{DataBlockParts, Entry, entries, Handle, HandleParts, handles, first_match}
use Rattle.sstable_blocks.specs.Results.{◌>>=◌, Error}
use Rattle.sst_parts.specs.Parts.{IsParted, by_top, places_in}
use Rattle.sstable_blocks.specs.Blocks.{joined}
use Rattle.sstable_blocks.specs.Lookup.{handle_for}
use Rattle.sstable_blocks.specs.ManyReads.{IsReaderOf}
use Rattle.sstable_blocks.specs.Opened.{range_of}
use Rattle.sstable_blocks.specs.RunPlaces.{part_in}
use Rattle.sstable_blocks.specs.RunReading.{Hashes}
use Rattle.sstable_blocks.specs.Tables.{KeptParts, kept_of, read_kept}
use Rattle.sstable_blocks.specs.declared.run.many.Needle.{Needle}
use Rattle.sstable_blocks.specs.declared.run.place.RunPlace.TheVariants.{Part}

-- the first match of the part in a range, which is opened: its footer, its filter and its index are read, then one block
unfoldable pub read_open : Hashes → List ℕ → HandleParts → List ℕ → ℕ → Result (Option Entry) Error
read_open c bytes g needle seqno = do
  places ← places_in bytes g
  kept ← kept_of c (part_in bytes g) places
  read_kept c (part_in bytes g) kept.0 kept.1 needle seqno

-- the same by the handle of a part
abbrev pub read_open_by_top : Hashes → List ℕ → Option Handle → List ℕ → ℕ → Result (Option Entry) Error
read_open_by_top c bytes h needle seqno = by_top (λ g. read_open c bytes g needle seqno) h

-- what contracts see of a part that was opened: its range, what is kept of it, and the block of it that was read last
pub record OpenPartParts : Type 0 where
  pub range : HandleParts
  pub run : KeptParts
  pub last : Option (ℕ × DataBlockParts)

-- what is kept of a part is that of a source with these bytes, if they are known
pub record IsOpenPart (c : Hashes) (bytes : Option (List ℕ)) (p : OpenPartParts) : Type 0 where
  pub places : IfSome bytes (λ all. places_in all p.range ≡ Ok p.run.handles)
  pub reader : IsReaderOf c (record { run = p.run; place = Part p.range; last = p.last }) bytes

-- what contracts see of a reader of a parted table: the handles of the parts, and the part that was read last
pub record PartsReaderParts : Type 0 where
  pub tops : List Handle
  pub part : Option OpenPartParts

-- a reader is of a source with these bytes, if they are known
abbrev pub IsPartsReaderOf : Hashes → PartsReaderParts → Option (List ℕ) → Type 0
IsPartsReaderOf c r bytes = IfSome r.part (IsOpenPart c bytes)

-- the range of the part that can hold a needle, if there is one
abbrev pub part_of_needle : List Handle → Needle → Option HandleParts
part_of_needle tops n = option_map range_of (handle_for handles n.key.now n.seqno tops)

-- the frames that are asked for at most to read a key of a part, where that in another range was read last: those of its
-- footer, its filter and its index, and of one block
abbrev pub part_frames : Option HandleParts → Option HandleParts → ℕ
part_frames last None = 0
part_frames None (Some g) = 4
part_frames (Some k) (Some g) = if nat_eq k.offset g.offset && nat_eq k.size g.size then 1 else 4

-- the range of the part that was read last, after a read by a range
abbrev pub range_after : Option HandleParts → Option HandleParts → Option HandleParts
range_after last None = last
range_after last (Some g) = Some g

-- the same of needles, one after the other
abbrev pub needles_frames : List Handle → Option HandleParts → List Needle → ℕ
needles_frames tops last [] = 0
needles_frames tops last (n ∷ ns) = part_frames last (part_of_needle tops n) + needles_frames tops (range_after last (part_of_needle tops n)) ns

-- the range of a part that was opened, if one was
abbrev pub last_range : Option OpenPartParts → Option HandleParts
last_range part = option_map (λ p. p.range) part

-- of bytes that are a parted table, a result, seen by `view`, is the first match of each needle
abbrev pub FindsAllInParts : {X : Type 0} → Hashes → HandleParts → List Needle → (X → List (Option Entry)) → Result X Error → List ℕ → Type 0
FindsAllInParts c top needles view result bytes = (parts : List (List (List Entry))) → IsParted c parts bytes top → IfOk result (λ v. view v ≡ map (λ n. first_match entries n.key.now n.seqno (joined (joined parts))) needles)
