-- The merge of a newer source into a parted table, whose parts are copied where nothing else overlaps them.
use Rattle.std.specs.Prelude.{◌≡◌, ◌⊎◌, ℕ, ◌+◌, ◌<◌, Bool, true, false, not, List, [], ◌∷◌, ◌++◌, length, map, Option, Some, None, IfSome, Ok}
use Rattle.std.specs.List.{AllZip}
use Rattle.std.specs.Ordering.{is_lt}
use Rattle.sstable_blocks.specs.Prelude.{Entry, Handle, entries, handles, plain, IsOrdered}
use Rattle.sstable_blocks.specs.Blocks.{joined}
use Rattle.sstable_blocks.specs.Lookup.{IsEnd}
use Rattle.sstable_blocks.specs.Results.{Error, Io, Memory, OutOfOrder, TooLong}
use Rattle.sstable_blocks.specs.Run.{Form, form}
use Rattle.sstable_blocks.specs.RunReading.{Hashes}
use Rattle.sstable_blocks.specs.Sources.{IsSourceFailure}
use Rattle.sstable_blocks.specs.Writing.{Follows}
use Rattle.sst_sources.specs.Merge.{entry_cmp, merge}
use Rattle.sst_sources.specs.Sources.{Left, MayGive}
use Rattle.sst_sources.specs.Stored.{all_keys}
use Rattle.sst_parts.specs.PartCopies.{BlockFits, CopiedPartFits, IsPartFrom, PartsSoFar, end_entry, known_so_far}
use Rattle.sst_parts.specs.Parts.{IsStoredPart}
use Rattle.sst_parts.specs.PartScans.{file_reads}

-- entries as they are decoded: a tombstone has no value
abbrev pub decoded : List Entry → List Entry
decoded xs = map plain xs

-- Of the merge of two lists these items come first, whatever comes after the second list: then the merge of what is left
-- of both
abbrev pub MergesTo : List Entry → List Entry → List Entry → List Entry → List Entry → Type 0
MergesTo xs ys written xs' ys' = (after : List Entry) → merge entry_cmp xs (ys ++ after) ≡ written ++ merge entry_cmp xs' (ys' ++ after)

-- is the first of some entries, if there is one, strictly after the end of a part?
abbrev pub starts_behind : Handle → List Entry → Bool
starts_behind end [] = true
starts_behind end (x ∷ xs) = is_lt (entry_cmp (end_entry end) x)

-- is the first of some entries before that of others, or equal to it?
abbrev pub goes_before : List Entry → List Entry → Bool
goes_before (x ∷ xs) (y ∷ ys) = not (is_lt (entry_cmp y x))
goes_before xs ys = false

-- the entries that a copier holds, as decoded: those of blocks that its closed parts stand for, then those of its current
-- part
abbrev pub Holds : {W : Type 0} → Hashes → PartsSoFar W → List Entry → Type 0
Holds c w xs = (parts : List (List (List Entry))) × AllZip (IsPartFrom c) parts w.closed × (decoded (joined (joined parts ++ w.current)) ≡ xs)

-- whatever a copier held, it holds these entries after that now
abbrev pub AddsEntries : {W : Type 0} → Hashes → PartsSoFar W → PartsSoFar W → List Entry → Type 0
AddsEntries c old new xs = (before : List Entry) → Holds c old before → Holds c new (before ++ xs)

-- a copier of the same table, whose writer never fails if it never did
pub record IsSameCopier {W : Type 0} (never_fails : W → Type 0) (old new : PartsSoFar W) : Type 0 where
  pub config : new.config ≡ old.config
  pub sizes : new.sizes ≡ old.sizes
  pub start : new.start ≡ old.start
  pub reliable : never_fails old.writer → never_fails new.writer

-- a copier with a block that is not written yet
abbrev pub with_block : {W : Type 0} → PartsSoFar W → List Entry → PartsSoFar W
with_block w block = record w { current = w.current ++ block ∷ [] }

-- what was written of the merge of some entries with others: what is left of the first is known, and these are in the
-- copier
pub record MergedTo {W : Type 0} (c : Hashes) (old new : PartsSoFar W) (xs : List Entry) (rest : Option (List Entry)) (ys ys' : List Entry) : Type 0 where
  pub written : List Entry
  pub left : List Entry
  pub left_is : rest ≡ Some left
  pub added : AddsEntries c old new written
  pub merged : MergesTo (decoded xs) (decoded ys) written (decoded left) (decoded ys')

-- a step took entries from a newer source, if they are known, and from others, which are known, into a copier
abbrev pub Merges : {W : Type 0} → Hashes → PartsSoFar W → PartsSoFar W → Option (List Entry) → Option (List Entry) → List Entry → List Entry → Type 0
Merges c old new newer newer' ys ys' = (xs : List Entry) → newer ≡ Some xs → MergedTo c old new xs newer' ys ys'

-- of two lists the lesser of their first entries is taken, and of equal ones that of the first list, so that the merge of
-- what is left comes after it; none is taken where the second list has none
abbrev pub LesserTaken : Option Entry → List Entry → List Entry → Option (List Entry) → Option (List Entry) → Type 0
LesserTaken None xs ys newer part = (ys ≡ []) × (newer ≡ Some xs) × (part ≡ Some ys)
LesserTaken (Some x) xs ys newer part = (xs' : List Entry) × (ys' : List Entry) × (newer ≡ Some xs') × (part ≡ Some ys') × MergesTo (decoded xs) (decoded ys) (plain x ∷ []) (decoded xs') (decoded ys')

-- a step takes that of what is left of two sources, where both are known, and fewer are left
pub record TakesLesser (newer newer' part part' : Left Entry) (r : Option Entry) : Type 0 where
  pub lesser : (xs ys : List Entry) → newer.list ≡ Some xs → part.list ≡ Some ys → LesserTaken r xs ys newer'.list part'.list
  pub fewer : IfSome r (λ _. newer'.most + part'.most < newer.most + part.most)

-- all of some entries are in a copier, and none is left
pub record WritesAll {W : Type 0} (c : Hashes) (old new : PartsSoFar W) (xs : List Entry) (rest : Option (List Entry)) : Type 0 where
  pub none_left : rest ≡ Some []
  pub added : AddsEntries c old new (decoded xs)

-- a file is a part with this handle, and is read as its entries
pub record IsPartBytes (c : Hashes) (file : List ℕ) (part : List (List Entry)) (h : Handle) : Type 0 where
  pub named : h.size ≡ length file
  pub stored : IsStoredPart c file part (record h { offset = 0 })
  pub read : file_reads c file all_keys ≡ map Ok (decoded (joined part))
  pub ordered : IsOrdered entries (joined part)
  pub end : IsEnd entries handles (joined part) h

-- how a copier writes blocks
abbrev pub copier_form : {W : Type 0} → Hashes → PartsSoFar W → Form
copier_form c w = form c.hash64 c.hash128 w.config

-- a copier refuses entries as a block: they do not follow what is there, or do not fit
abbrev pub BlockRefused : {W : Type 0} → Hashes → PartsSoFar W → List Entry → Error → Type 0
BlockRefused c w block e = ((e ≡ OutOfOrder) × (Follows (known_so_far w) block → ⊥)) ⊎ ((e ≡ TooLong) × (BlockFits (copier_form c w) w block → ⊥))

-- a copier refuses a part
abbrev pub PartRefused : {W : Type 0} → Hashes → PartsSoFar W → List ℕ → Handle → Error → Type 0
PartRefused c w bytes end e = ((e ≡ OutOfOrder) × (Follows (known_so_far w) (end_entry end ∷ []) → ⊥)) ⊎ ((e ≡ TooLong) × (CopiedPartFits (copier_form c w) w bytes → ⊥))

-- a copier that was reached from another by adding entries refuses the last of them, as a block
pub record RefusesBlock {W : Type 0} (never_fails : W → Type 0) (c : Hashes) (old : PartsSoFar W) (written : List Entry) (e : Error) : Type 0 where
  pub reached : PartsSoFar W
  pub block : List Entry
  pub same : IsSameCopier never_fails old reached
  pub added : AddsEntries c old (with_block reached block) written
  pub why : BlockRefused c reached block e

-- or as a part
pub record RefusesPart {W : Type 0} (never_fails : W → Type 0) (c : Hashes) (old : PartsSoFar W) (written : List Entry) (e : Error) : Type 0 where
  pub reached : PartsSoFar W
  pub front : List Entry
  pub bytes : List ℕ
  pub part : List (List Entry)
  pub end : Handle
  pub same : IsSameCopier never_fails old reached
  pub added : AddsEntries c old reached front
  pub is_part : IsPartBytes c bytes part end
  pub whole : written ≡ front ++ decoded (joined part)
  pub why : PartRefused c reached bytes end e

abbrev pub IsRefused : {W : Type 0} → (W → Type 0) → Hashes → PartsSoFar W → List Entry → Error → Type 0
IsRefused never_fails c old written e = RefusesBlock never_fails c old written e ⊎ RefusesPart never_fails c old written e

-- the first of these entries are refused
pub record RefusesUpTo {W : Type 0} (never_fails : W → Type 0) (c : Hashes) (old : PartsSoFar W) (xs : List Entry) (e : Error) : Type 0 where
  pub front : List Entry
  pub rest : List Entry
  pub whole : front ++ rest ≡ xs
  pub refused : IsRefused never_fails c old front e

-- why writing fails: an allocation did, the writer did, or what is written is refused
abbrev pub IsFault : Type 0 → (Error → Type 0) → Error → Type 0
IsFault never_fails refused e = (e ≡ Memory) ⊎ (((e ≡ Io) × (never_fails → ⊥)) ⊎ refused e)

-- of the merge of two lists, whatever comes after the second, the first entries are refused
pub record RefusesMerge {W : Type 0} (never_fails : W → Type 0) (c : Hashes) (old : PartsSoFar W) (xs ys : List Entry) (e : Error) : Type 0 where
  pub front : List Entry
  pub rest : List Entry → List Entry
  pub begins : (after : List Entry) → merge entry_cmp (decoded xs) (decoded ys ++ after) ≡ front ++ rest after
  pub refused : IsRefused never_fails c old front e

-- why a merge of a newer source with entries fails: a step of the source did, or the writing
abbrev pub MergeFails : {W : Type 0} → (W → Type 0) → (Error → Type 0) → Hashes → Left Entry → PartsSoFar W → List Entry → Error → Type 0
MergeFails never_fails may_fail c newer old ys e = MayGive may_fail newer e ⊎ IsFault (never_fails old.writer) (λ e. (xs : List Entry) → newer.list ≡ Some xs → RefusesMerge never_fails c old xs ys e) e

-- or the source of frames did
abbrev pub PartsFail : {W : Type 0} → Type 0 → Type 0 → (W → Type 0) → (Error → Type 0) → Hashes → Left Entry → PartsSoFar W → List Entry → Error → Type 0
PartsFail failed reliable never_fails may_fail c newer old ys e = IsSourceFailure failed reliable ⊥ e ⊎ MergeFails never_fails may_fail c newer old ys e

-- why writing all of a source fails
abbrev pub WritesFail : {W : Type 0} → (W → Type 0) → (Error → Type 0) → Hashes → Left Entry → PartsSoFar W → Error → Type 0
WritesFail never_fails may_fail c newer old e = MayGive may_fail newer e ⊎ IsFault (never_fails old.writer) (λ e. (xs : List Entry) → newer.list ≡ Some xs → RefusesUpTo never_fails c old (decoded xs) e) e
