-- A parted table that is being written.
use Rattle.std.specs.Prelude.{◌≡◌, ℕ, ◌+◌, ◌≤◌, ◌<◌, ◌^◌, ◌&&◌, ◌||◌, Bool, false, true, nat_le, if◌then◌else◌, List, [], ◌∷◌, ◌++◌, length, take, sum_by, Option, None, Some, Ok}
use Rattle.std.specs.Io.KnownBytes.{Appends}
use Rattle.std.specs.List.{AllByRecursion}
use Rattle.sstable_blocks.specs.Prelude.{HandleParts, Entry, frame, entries, Handle, handles, IsIndexBlock, index_payload, IsOrdered}
use Rattle.sstable_blocks.specs.BlockTypes.{Meta}
use Rattle.sst_parts.specs.Parts.{IsParted}
use Rattle.sst_parts.specs.declared.closed.PartEnd.{PartEnd}
use Rattle.sst_parts.specs.declared.writer.PartSizes.{PartSizes}
use Rattle.sstable_blocks.specs.Blocks.{joined}
use Rattle.sstable_blocks.specs.Footer.{footer, table_handles}
use Rattle.sstable_blocks.specs.Lookup.{IsEnd}
use Rattle.sstable_blocks.specs.Run.{Form, IsLayout, RunFits, block_frames}
use Rattle.sstable_blocks.specs.RunReading.{Hashes}
use Rattle.sstable_blocks.specs.Writing.{FrameFits, IsTable, PartFits}
use Rattle.sstable_blocks.specs.declared.run.RunConfig.{RunConfig}
use Rattle.sstable_blocks.specs.declared.run.RunHandles.{RunHandles}

-- how many bytes the keys and the values of entries have
abbrev pub data_len : List Entry → ℕ
data_len items = sum_by (λ e. length e.key.user_key + length e.value) items

-- is a limit reached? never where it is 0
abbrev pub reaches : ℕ → ℕ → Bool
reaches limit n = nat_le 1 limit && nat_le limit n

-- does a part with these blocks end? it does as soon as it has so many blocks, or so many bytes of keys and values
unfoldable pub is_full : PartSizes → List (List Entry) → Bool
is_full sizes blocks = reaches sizes.blocks (length blocks) || reaches sizes.bytes (data_len (joined blocks))

-- no fewer of some blocks, but for none, are full
abbrev pub IsFirstFull : PartSizes → List (List Entry) → Type 0
IsFirstFull sizes blocks = (n : ℕ) → 1 ≤ n → n < length blocks → is_full sizes (take n blocks) ≡ false

-- parts are cut by their sizes: each that is closed ends with the block with which it is full, and no fewer blocks of the
-- last one are; that has none only where none is written
pub record AreCut (sizes : PartSizes) (closed : List (List (List Entry))) (last : List (List Entry)) : Type 0 where
  pub full : AllByRecursion (λ part. (is_full sizes part ≡ true) × IsFirstFull sizes part) closed
  pub first : IsFirstFull sizes last
  pub none : last ≡ [] → closed ≡ []

-- the parts that are closed before one more block is written, and the blocks of the part that the block is added to
abbrev pub parts_before : PartSizes → List (List (List Entry)) → List (List Entry) → List (List (List Entry))
parts_before sizes parts current = if is_full sizes current then parts ++ current ∷ [] else parts

abbrev pub current_before : PartSizes → List (List Entry) → List (List Entry)
current_before sizes current = if is_full sizes current then [] else current

-- what contracts see of a writer of a parted table: how it writes, and where it ends parts; the parts that are closed, and
-- the blocks of the current part; the bytes that its writer held when it was made, if those are known, and the writer
pub record PartWriting (W : Type 0) : Type 0 where
  pub config : RunConfig
  pub sizes : PartSizes
  pub parts : List (List (List Entry))
  pub current : List (List Entry)
  pub start : Option (List ℕ)
  pub writer : W

-- the blocks written so far
abbrev pub blocks_so_far : {W : Type 0} → PartWriting W → List (List Entry)
blocks_so_far w = joined w.parts ++ w.current

-- one block more was written, to the part that was the current one, or to a next one where that was full
pub record AddsTo {W : Type 0} (old new : PartWriting W) (block : List Entry) : Type 0 where
  pub config : new.config ≡ old.config
  pub sizes : new.sizes ≡ old.sizes
  pub start : new.start ≡ old.start
  pub parts : new.parts ≡ parts_before old.sizes old.parts old.current
  pub current : new.current ≡ current_before old.sizes old.current ++ block ∷ []

-- a text is the table file of blocks, and a handle names it by its length, with the key and the sequence number of the last
-- entry
pub record IsPartFile (f : Form) (blocks : List (List Entry)) (text : List ℕ) (h : Handle) : Type 0 where
  pub places : RunHandles
  pub table : IsTable f blocks places text
  pub size : h.size ≡ length text
  pub small : h.size < 2 ^ 32
  pub end : IsEnd entries handles (joined blocks) h

-- texts are the files of parts, one after the other from an offset on, which handles name
abbrev pub AreFiles : {P : Type 0} → (P → List ℕ → Handle → Type 0) → ℕ → List P → List (List ℕ) → List Handle → Type 0
AreFiles IsFile offset [] [] [] = Unit {0}
AreFiles IsFile offset (part ∷ parts) (text ∷ texts) (h ∷ hs) = (h.offset ≡ offset) × IsFile part text h × AreFiles IsFile (offset + length text) parts texts hs
AreFiles IsFile offset parts texts hs = ⊥

-- the table files of parts, each of blocks
abbrev pub ArePartFiles : Form → ℕ → List (List (List Entry)) → List (List ℕ) → List Handle → Type 0
ArePartFiles f offset parts texts hs = AreFiles (IsPartFile f) offset parts texts hs

-- the handles in the footer of a parted table: that of the frame of its index, and none of a filter
abbrev pub top_handles : HandleParts → RunHandles
top_handles top = record { index = top; filter = None }

-- the bytes of a parted table: the table files of its parts, the frame of type `Meta` of the index of these, and a footer
pub record IsPartedLayout (f : Form) (parts : List (List (List Entry))) (bytes : List ℕ) (top : HandleParts) : Type 0 where
  pub texts : List (List ℕ)
  pub tops : List Handle
  pub files : ArePartFiles f 0 parts texts tops
  pub ordered : IsOrdered entries (joined (joined parts))
  pub index : IsIndexBlock (index_payload tops f.config.index_interval) tops f.config.index_interval
  pub fits : PartFits (length (joined texts)) (index_payload tops f.config.index_interval)
  pub offset : top.offset ≡ length (joined texts)
  pub size : top.size ≡ 33 + length (index_payload tops f.config.index_interval)
  pub text : bytes ≡ joined texts ++ (frame f.hash128 Meta (index_payload tops f.config.index_interval) ++ footer (top_handles top))

-- bytes are the file of a parted table of these parts
pub record IsPartedFile (c : Hashes) (parts : List (List (List Entry))) (bytes : List ℕ) (top : HandleParts) : Type 0 where
  pub parted : IsParted c parts bytes top
  pub footer_is : table_handles bytes ≡ Ok (top_handles top)

-- a writer's known bytes grew by the layout of a parted table of these parts, and by the file of one
abbrev pub AppendsParted : Form → List (List (List Entry)) → Option (List ℕ) → Option (List ℕ) → HandleParts → Type 0
AppendsParted f parts old new top = (bytes : List ℕ) × IsPartedLayout f parts bytes top × Appends old new bytes

abbrev pub AppendsPartedFile : Hashes → List (List (List Entry)) → Option (List ℕ) → Option (List ℕ) → HandleParts → Type 0
AppendsPartedFile c parts old new top = (bytes : List ℕ) × IsPartedFile c parts bytes top × Appends old new bytes

-- they grew by such a layout but for its footer
abbrev pub AppendsOpen : Form → List (List (List Entry)) → Option (List ℕ) → Option (List ℕ) → HandleParts → Type 0
AppendsOpen f parts old new top = (bytes : List ℕ) × IsPartedLayout f parts (bytes ++ footer (top_handles top)) top × Appends old new bytes

-- they grew by the table file of a part at an offset, which this handle names
pub record AppendsPart (f : Form) (blocks : List (List Entry)) (offset : ℕ) (old new : Option (List ℕ)) (h : Handle) : Type 0 where
  pub text : List ℕ
  pub file : IsPartFile f blocks text h
  pub offset_is : h.offset ≡ offset
  pub end : offset + h.size < 2 ^ 64
  pub bytes : Appends old new text

-- the table file of blocks fits at an offset: its run, its length a handle, and its end 64 bits
pub record PartFileFits (f : Form) (offset : ℕ) (blocks : List (List Entry)) : Type 0 where
  pub run : RunFits f blocks
  pub size : (bytes : List ℕ) (h : RunHandles) → IsLayout f blocks bytes h → length bytes + 24 < 2 ^ 32
  pub end : (bytes : List ℕ) (h : RunHandles) → IsLayout f blocks bytes h → offset + (length bytes + 24) < 2 ^ 64

-- the table file of a part fits after those of other parts
abbrev pub PartEnds : Form → List (List (List Entry)) → List (List Entry) → Type 0
PartEnds f parts part = (texts : List (List ℕ)) (tops : List Handle) → ArePartFiles f 0 parts texts tops → PartFileFits f (length (joined texts)) part

-- one more block fits: the part that it does not fit into any more, and its frame after those of the part that it is
-- added to
pub record NextFits {W : Type 0} (f : Form) (w : PartWriting W) (block : List Entry) : Type 0 where
  pub closes : is_full w.sizes w.current ≡ true → PartEnds f w.parts w.current
  pub frame_fits : FrameFits f (length (block_frames f (current_before w.sizes w.current))) block

-- the index of parts fits after their table files
abbrev pub TopFits : Form → List (List (List Entry)) → Type 0
TopFits f parts = (texts : List (List ℕ)) (tops : List Handle) → ArePartFiles f 0 parts texts tops → PartFits (length (joined texts)) (index_payload tops f.config.index_interval)

-- the end of a parted table fits: the last part, and the index of all parts
pub record EndFits {W : Type 0} (f : Form) (w : PartWriting W) : Type 0 where
  pub last : PartEnds f w.parts w.current
  pub top : TopFits f (w.parts ++ w.current ∷ [])

-- an entry with this key and this sequence number is the last of a list
pub record IsLastOf (items : List Entry) (key : List ℕ) (seqno : ℕ) : Type 0 where
  pub front : List Entry
  pub last : Entry
  pub whole : items ≡ front ++ last ∷ []
  pub key_is : key ≡ last.key.user_key
  pub seqno_is : seqno ≡ last.key.seqno
  pub short : length key ≤ 65535

-- a writer's known bytes grew by the frame of an index at an offset, which this handle names
pub record AppendsTop (hash128 : List ℕ → ℕ) (offset : ℕ) (payload : List ℕ) (old new : Option (List ℕ)) (top : HandleParts) : Type 0 where
  pub fits : PartFits offset payload
  pub offset_is : top.offset ≡ offset
  pub size : top.size ≡ 33 + length payload
  pub bytes : Appends old new (frame hash128 Meta payload)

-- what is kept of the last entry of the current part: nothing where the part has no block
abbrev pub IsEndOf : List (List Entry) → Option PartEnd → Type 0
IsEndOf blocks None = blocks ≡ []
IsEndOf blocks (Some e) = (1 ≤ length blocks) × IsLastOf (joined blocks) e.key e.seqno
