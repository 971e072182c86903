-- Finding in bytes that are a parted table.
use Rattle.std.specs.Prelude.{◌≡◌, ℕ, List, Option, Some, None, Ok}
use Rattle.sstable_blocks.specs.Prelude.{HandleParts, Entry, entries, Handle, IsIndexBlock, first_match}
use Rattle.sst_parts.specs.Parts.{IsStoredPart, tops_at}
use Rattle.sstable_blocks.specs.Blocks.{joined}
use Rattle.sstable_blocks.specs.Opened.{IsFrameRange, payload_in}
use Rattle.sstable_blocks.specs.RunReading.{Hashes}

-- the index of the parts is read: its frame is in the range of its handle, and its payload is that of handles
pub record IsReadIndex (c : Hashes) (bytes : List ℕ) (top : HandleParts) : Type 0 where
  pub range : IsFrameRange bytes top
  pub items : List Handle
  pub interval : ℕ
  pub is_block : IsIndexBlock (payload_in bytes top) items interval
  pub read : tops_at c bytes top ≡ Ok items

-- a first match is that of the part of a handle; there is none where there is no handle
abbrev pub FoundPart : Hashes → List ℕ → List ℕ → ℕ → Option Entry → Option Handle → Type 0
FoundPart c bytes needle seqno first None = first ≡ None
FoundPart c bytes needle seqno first (Some h) = (blocks : List (List Entry)) × IsStoredPart c bytes blocks h × (first ≡ first_match entries needle seqno (joined blocks))
