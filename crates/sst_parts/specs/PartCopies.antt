-- A parted table that is written from blocks and from parts of other parted tables, which are copied.
use Rattle.std.specs.Prelude.{◌≡◌, ◌≢◌, ℕ, ◌+◌, ◌-◌, ◌≤◌, ◌<◌, ◌^◌, Bool, true, if◌then◌else◌, List, [], ◌∷◌, ◌++◌, length, map, Option, None, Some, Ok}
use Rattle.std.specs.Cmp.Lexicographic.{slice_cmp}
use Rattle.std.specs.Io.KnownBytes.{Appends}
use Rattle.std.specs.List.{AllByRecursion, AllZip}
use Rattle.std.specs.Ordering.{nat_cmp, ordering_then}
use Rattle.std.specs.declared.cmp.Ordering.TheVariants.{Less}
use Rattle.sstable_blocks.specs.ValueTypes.{Value}
use Rattle.sstable_blocks.specs.Prelude.{HandleParts, Entry, frame, entries, Handle, IsIndexBlock, index_payload, IsOrdered}
use Rattle.sstable_blocks.specs.BlockTypes.{Meta}
use Rattle.sst_parts.specs.Parts.{IsParted, IsStoredPart, tops_at}
use Rattle.sst_parts.specs.PartWriting.{AppendsPartedFile, AreCut, AreFiles, IsEndOf, IsPartFile, PartFileFits, current_before, data_len, is_full, top_handles}
use Rattle.sst_parts.specs.declared.closed.PartEnd.{PartEnd}
use Rattle.sst_parts.specs.declared.closed.PartOrigin.{PartOrigin}
use Rattle.sst_parts.specs.declared.closed.PartOrigin.TheVariants.{Made, Copied}
use Rattle.sst_parts.specs.declared.writer.PartSizes.{PartSizes}
use Rattle.sstable_blocks.specs.Blocks.{joined}
use Rattle.sstable_blocks.specs.Footer.{footer}
use Rattle.sstable_blocks.specs.Opened.{range_of}
use Rattle.sstable_blocks.specs.Run.{Form, IsWritable, block_frames}
use Rattle.sstable_blocks.specs.RunPlaces.{part_in}
use Rattle.sstable_blocks.specs.RunReading.{Hashes}
use Rattle.sstable_blocks.specs.Writing.{FrameFits, PartFits, Writing}
use Rattle.sstable_blocks.specs.declared.run.RunConfig.{RunConfig}

-- an entry with the key and the sequence number of a handle
abbrev pub end_entry : Handle → Entry
end_entry h = record { key = record { user_key = h.end_key; seqno = h.seqno; value_type = Value }; value = [] }

-- the blocks of a part that was closed as far as they are known: of one that was copied there is one, of its end alone
abbrev pub known_blocks : PartOrigin → List (List Entry)
known_blocks (Made blocks) = blocks
known_blocks (Copied bytes end) = (end_entry end ∷ []) ∷ []

abbrev pub known_parts : List PartOrigin → List (List (List Entry))
known_parts closed = map known_blocks closed

-- a part was made of blocks
abbrev pub IsMade : PartOrigin → Type 0
IsMade (Made blocks) = Unit {0}
IsMade (Copied bytes end) = ⊥

-- a text is a part that was copied: its bytes as they are, all that its handle named, which a handle names by their length,
-- with the end that the part had
pub record IsCopiedFile (bytes : List ℕ) (end : Handle) (text : List ℕ) (h : Handle) : Type 0 where
  pub named : end.size ≡ length bytes
  pub text_is : text ≡ bytes
  pub size : h.size ≡ length text
  pub end_key : h.end_key ≡ end.end_key
  pub seqno : h.seqno ≡ end.seqno

-- a text is a part that was closed, and a handle names it: the table file of its blocks, or a copy
abbrev pub IsClosedFile : Form → PartOrigin → List ℕ → Handle → Type 0
IsClosedFile f (Made blocks) text h = IsPartFile f blocks text h
IsClosedFile f (Copied bytes end) text h = IsCopiedFile bytes end text h

-- texts are parts that were closed, one after the other from an offset on, which handles name
abbrev pub AreClosedFiles : Form → ℕ → List PartOrigin → List (List ℕ) → List Handle → Type 0
AreClosedFiles f offset closed texts hs = AreFiles (IsClosedFile f) offset closed texts hs

-- parts one after the other, of blocks or copied, the frame of type `Meta` of the index of these, and a footer
pub record IsCopiesLayout (f : Form) (closed : List PartOrigin) (bytes : List ℕ) (top : HandleParts) : Type 0 where
  pub texts : List (List ℕ)
  pub tops : List Handle
  pub files : AreClosedFiles f 0 closed texts tops
  pub index : IsIndexBlock (index_payload tops f.config.index_interval) tops f.config.index_interval
  pub fits : PartFits (length (joined texts)) (index_payload tops f.config.index_interval)
  pub offset : top.offset ≡ length (joined texts)
  pub size : top.size ≡ 33 + length (index_payload tops f.config.index_interval)
  pub text : bytes ≡ joined texts ++ (frame f.hash128 Meta (index_payload tops f.config.index_interval) ++ footer (top_handles top))

-- a writer's known bytes grew by such a layout
abbrev pub AppendsCopies : Form → List PartOrigin → Option (List ℕ) → Option (List ℕ) → HandleParts → Type 0
AppendsCopies f closed old new top = (bytes : List ℕ) × IsCopiesLayout f closed bytes top × Appends old new bytes

-- they grew by such a layout but for its footer
abbrev pub AppendsOpenCopies : Form → List PartOrigin → Option (List ℕ) → Option (List ℕ) → HandleParts → Type 0
AppendsOpenCopies f closed old new top = (bytes : List ℕ) × IsCopiesLayout f closed (bytes ++ footer (top_handles top)) top × Appends old new bytes

-- blocks are those of a part that was closed: those that it was made of, or those that are stored in the bytes that were
-- copied
abbrev pub IsPartFrom : Hashes → List (List Entry) → PartOrigin → Type 0
IsPartFrom c part (Made blocks) = part ≡ blocks
IsPartFrom c part (Copied bytes end) = IsStoredPart c bytes part (record end { offset = 0 })

-- wherever parts are those that were closed, and their entries are ordered, a writer's known bytes grew by the file of a
-- parted table of these parts
abbrev pub AppendsFileFrom : Hashes → List PartOrigin → Option (List ℕ) → Option (List ℕ) → HandleParts → Type 0
AppendsFileFrom c closed old new top = (parts : List (List (List Entry))) → AllZip (IsPartFrom c) parts closed → IsOrdered entries (joined (joined parts)) → AppendsPartedFile c parts old new top

-- the table file of blocks fits after parts that were closed
abbrev pub ClosedEnds : Form → List PartOrigin → List (List Entry) → Type 0
ClosedEnds f closed part = (texts : List (List ℕ)) (tops : List Handle) → AreClosedFiles f 0 closed texts tops → PartFileFits f (length (joined texts)) part

-- the end of bytes after them fits 64 bits
abbrev pub CopyFits : Form → List PartOrigin → List ℕ → Type 0
CopyFits f closed bytes = (texts : List (List ℕ)) (tops : List Handle) → AreClosedFiles f 0 closed texts tops → length (joined texts) + length bytes < 2 ^ 64

-- the index of parts that were closed fits after them
abbrev pub ClosedTopFits : Form → List PartOrigin → Type 0
ClosedTopFits f closed = (texts : List (List ℕ)) (tops : List Handle) → AreClosedFiles f 0 closed texts tops → PartFits (length (joined texts)) (index_payload tops f.config.index_interval)

-- what contracts see of a writer of a parted table that copies parts too: how it writes, and where it ends parts of blocks;
-- the parts that are closed, and the blocks of the current part; the bytes that its writer held when it was made, if those
-- are known, and the writer
pub record PartsSoFar (W : Type 0) : Type 0 where
  pub config : RunConfig
  pub sizes : PartSizes
  pub closed : List PartOrigin
  pub current : List (List Entry)
  pub start : Option (List ℕ)
  pub writer : W

-- the blocks so far, as far as they are known
abbrev pub known_so_far : {W : Type 0} → PartsSoFar W → List (List Entry)
known_so_far w = joined (known_parts w.closed) ++ w.current

-- the parts that are closed, with the current one, where that has blocks
abbrev pub with_current : List PartOrigin → List (List Entry) → List PartOrigin
with_current closed [] = closed
with_current closed (b ∷ bs) = closed ++ Made (b ∷ bs) ∷ []

-- all parts
abbrev pub parts_so_far : {W : Type 0} → PartsSoFar W → List PartOrigin
parts_so_far w = with_current w.closed w.current

-- the parts that are closed before one more block is written
abbrev pub closed_before : PartSizes → List PartOrigin → List (List Entry) → List PartOrigin
closed_before sizes closed current = if is_full sizes current then closed ++ Made current ∷ [] else closed

-- one block more was written, to the part that was the current one, or to a next one where that was full
pub record WritesBlock {W : Type 0} (old new : PartsSoFar W) (block : List Entry) : Type 0 where
  pub config : new.config ≡ old.config
  pub sizes : new.sizes ≡ old.sizes
  pub start : new.start ≡ old.start
  pub closed : new.closed ≡ closed_before old.sizes old.closed old.current
  pub current : new.current ≡ current_before old.sizes old.current ++ block ∷ []

-- bytes were written as a part more, after the current one, where that has blocks
pub record WritesPart {W : Type 0} (old new : PartsSoFar W) (bytes : List ℕ) (end : Handle) : Type 0 where
  pub config : new.config ≡ old.config
  pub sizes : new.sizes ≡ old.sizes
  pub start : new.start ≡ old.start
  pub closed : new.closed ≡ parts_so_far old ++ Copied bytes end ∷ []
  pub current : new.current ≡ []

-- one more block fits: the part that it does not fit into any more, and its frame after those of the part that it is
-- added to
pub record BlockFits {W : Type 0} (f : Form) (w : PartsSoFar W) (block : List Entry) : Type 0 where
  pub closes : is_full w.sizes w.current ≡ true → ClosedEnds f w.closed w.current
  pub frame_fits : FrameFits f (length (block_frames f (current_before w.sizes w.current))) block

-- the current part fits, where it has blocks
abbrev pub CurrentFits : {W : Type 0} → Form → PartsSoFar W → Type 0
CurrentFits f w = 1 ≤ length w.current → ClosedEnds f w.closed w.current

-- a copy fits: the current part, and the bytes after it
pub record CopiedPartFits {W : Type 0} (f : Form) (w : PartsSoFar W) (bytes : List ℕ) : Type 0 where
  pub last : CurrentFits f w
  pub copy : CopyFits f (parts_so_far w) bytes

-- the end of a parted table fits: the current part, and the index of all parts
pub record CopiesEndFits {W : Type 0} (f : Form) (w : PartsSoFar W) : Type 0 where
  pub last : CurrentFits f w
  pub top : ClosedTopFits f (parts_so_far w)

-- parts of other tables, each in the bytes of its table, as they are copied
abbrev pub copied_parts : List (List ℕ × Handle) → List PartOrigin
copied_parts sources = map (λ s. Copied (part_in s.0 (range_of s.1)) s.1) sources

-- blocks are stored as the part of a table that its handle names
abbrev pub IsPartOfTable : Hashes → List (List Entry) → List ℕ × Handle → Type 0
IsPartOfTable c part source = IsStoredPart c source.0 part source.1

-- a parted table, all of whose parts are copied: its bytes, the handle of its index, the handles of its parts, and their
-- blocks
pub record CopiedTable : Type 0 where
  pub bytes : List ℕ
  pub top : HandleParts
  pub tops : List Handle
  pub parts : List (List (List Entry))

-- its bytes are a parted table of these parts, whose index has these handles
pub record IsCopiedTable (c : Hashes) (t : CopiedTable) : Type 0 where
  pub parted : IsParted c t.parts t.bytes t.top
  pub read : tops_at c t.bytes t.top ≡ Ok t.tops

-- the parts of all tables, and where they are
abbrev pub parts_of_tables : List CopiedTable → List (List (List Entry))
parts_of_tables tables = joined (map (λ t. t.parts) tables)

abbrev pub sources_of : List CopiedTable → List (List ℕ × Handle)
sources_of tables = joined (map (λ t. map (λ h. (t.bytes, h)) t.tops) tables)

-- an entry does not sort before the last one of a list, whose key and sequence number these are
abbrev pub SortsBehind : Option (List ℕ × ℕ) → Entry → Type 0
SortsBehind None x = Unit {0}
SortsBehind (Some last) x = ordering_then (slice_cmp nat_cmp x.key.user_key last.0) (nat_cmp last.1 x.key.seqno) ≢ Less

-- the key and the sequence number of the last entry of a list, if it has one
abbrev pub IsLastKey : List Entry → Option (List ℕ × ℕ) → Type 0
IsLastKey xs None = xs ≡ []
IsLastKey xs (Some last) = (front : List Entry) × (x : Entry) × (xs ≡ front ++ x ∷ []) × (last.0 ≡ x.key.user_key) × (last.1 ≡ x.key.seqno)

-- a writer's known bytes grew by parts that were closed, which handles name; the next part begins at an offset
pub record AreClosed (f : Form) (closed : List PartOrigin) (start now : Option (List ℕ)) (tops : List Handle) (offset : ℕ) : Type 0 where
  pub texts : List (List ℕ)
  pub files : AreClosedFiles f 0 closed texts tops
  pub ends : AllByRecursion (λ h. h.offset + h.size < 2 ^ 64) tops
  pub bytes : Appends start now (joined texts)
  pub offset_is : offset ≡ length (joined texts)

-- what contracts see of the parts closed: how parts of blocks are written, what each part was written from, their handles,
-- the offset after them, and what the writer held before and after them, if that is known
pub record ClosedView : Type 0 where
  pub config : RunConfig
  pub parts : List PartOrigin
  pub tops : List Handle
  pub offset : ℕ
  pub start : Option (List ℕ)
  pub after : Option (List ℕ)

-- a part was closed, after which the writer holds this
pub record Closes (old : ClosedView) (part : PartOrigin) (new : ClosedView) (now : Option (List ℕ)) : Type 0 where
  pub config : new.config ≡ old.config
  pub start : new.start ≡ old.start
  pub parts : new.parts ≡ old.parts ++ part ∷ []
  pub after : new.after ≡ now

-- parts that are closed can be followed by any: their known entries are ordered, and a writer holds what it did after them
pub record IsBetween (closed : ClosedView) (now : Option (List ℕ)) : Type 0 where
  pub writable : IsWritable closed.config
  pub after : closed.after ≡ now
  pub ordered : IsOrdered entries (joined (joined (known_parts closed.parts)))

-- the current part was closed, where it has blocks, after which the writer holds this
pub record ClosesCurrent {W : Type 0} (old : PartsSoFar W) (closed : ClosedView) (now : Option (List ℕ)) : Type 0 where
  pub config : closed.config ≡ old.config
  pub start : closed.start ≡ old.start
  pub parts : closed.parts ≡ parts_so_far old
  pub between : IsBetween closed now

-- the run of the current part begins where the parts closed end
pub record Joins {W : Type 0} (closed : ClosedView) (run : Writing W) : Type 0 where
  pub config : run.config ≡ closed.config
  pub start : run.start ≡ closed.after

-- the blocks of the current part and its end are those of a run that takes blocks, and begins where the parts closed end
pub record IsCurrent {W : Type 0} (closed : ClosedView) (run : Writing W) (blocks : List (List Entry)) (end : Option PartEnd) : Type 0 where
  pub accepting : run.refusal ≡ None
  pub joins : Joins closed run
  pub blocks_are : blocks ≡ run.blocks
  pub end_is : IsEndOf run.blocks end

-- the parts closed, and the run that the next block is added to: the same, or where the current part is full, one part more
-- and a run without blocks
pub record IsNextPart {W : Type 0} (closed : ClosedView) (run : Writing W) (full : Bool) (closed' : ClosedView) (run' : Writing W) : Type 0 where
  pub config : closed'.config ≡ closed.config
  pub start : closed'.start ≡ closed.start
  pub parts : closed'.parts ≡ (if full then closed.parts ++ Made run.blocks ∷ [] else closed.parts)
  pub blocks : run'.blocks ≡ (if full then [] else run.blocks)
  pub refusal : run'.refusal ≡ None
  pub joins : Joins closed' run'

-- what a writer of a parted table keeps of the current part
pub record IsOpenPart {W : Type 0} (closed : ClosedView) (run : Writing W) (sizes : PartSizes) (blocks : List (List Entry)) (end : Option PartEnd) (left : ℕ) : Type 0 where
  pub writable : IsWritable closed.config
  pub current : IsCurrent closed run blocks end
  pub left_is : left ≡ sizes.bytes - data_len (joined run.blocks)
  pub ordered : IsOrdered entries (joined (joined (known_parts closed.parts) ++ run.blocks))

-- parts were made of blocks alone, and are cut by their sizes
pub record AreCutBlocks (sizes : PartSizes) (closed : List PartOrigin) (current : List (List Entry)) : Type 0 where
  pub made : AllByRecursion IsMade closed
  pub cut : AreCut sizes (known_parts closed) current
