-- Reading a table from bytes: its footer, its filter, its index, and its blocks in order, each with its check. The
-- first refusal ends it.
use Rattle.std.specs.Prelude.{◌≡◌, ◌≢◌, ◌⊎◌, ◌≤◌, IsOk, ℕ, ◌-◌, ◌^◌, min, List, [], ◌∷◌, length, take, map, Option, Some, None, Result, Ok, Err}
use Rattle.std.specs.Io.KnownBytes.{Appends}
use Rattle.sstable_blocks.specs.Prelude.{HandleParts, Entry, poly31, data_check, index_check, Handle}
use Rattle.sstable_blocks.specs.Results.{◌>>=◌, Error, Io, Truncated, Memory, BadHandle}
use Rattle.sst_program.specs.declared.fault.Fault.{Fault}
use Rattle.sst_program.specs.declared.fault.Fault.TheVariants.{Refused}
use Rattle.sstable_blocks.specs.BlockTypes as types
use Rattle.sstable_blocks.specs.Blocks.{joined}
use Rattle.sstable_blocks.specs.Filter.{filter_at}
use Rattle.sstable_blocks.specs.Footer.{table_handles}
use Rattle.sstable_blocks.specs.Opened.{range_of}
use Rattle.sstable_blocks.specs.RunReading.{Hashes, hashes, payload_at, read_checked}
use Rattle.sstable_blocks.specs.declared.run.RunHandles.{RunHandles}
use Rattle.sst_program.specs.Outcome.{lines_text_of, answer_text_of, checked_text_of}

-- the hashes that `sst` reads a run by
abbrev pub sst_hashes : Hashes
sst_hashes = hashes (poly31 64) (poly31 128)

-- the handles of the index in the range of a handle
unfoldable pub index_read : List ℕ → HandleParts → Result (List Handle) Error
index_read bytes h = do
  p ← payload_at sst_hashes types.Index bytes h
  index_check p

-- the entries of the data block in the range of a handle
unfoldable pub block_read : List ℕ → HandleParts → Result (List Entry) Error
block_read bytes h = do
  p ← payload_at sst_hashes types.Data bytes h
  data_check (poly31 64) p

-- the number of its entries
abbrev pub block_count : List ℕ → HandleParts → Result ℕ Error
block_count bytes h = do
  items ← block_read bytes h
  Ok (length items)

-- is there a filter in the range of a handle?
unfoldable pub filter_check : List ℕ → HandleParts → Result (Unit {0}) Error
filter_check bytes h = do
  p ← payload_at sst_hashes types.Filter bytes h
  f ← filter_at p
  Ok tt

-- the same for the filter of a run, if it has one
abbrev pub run_filter_check : List ℕ → Option HandleParts → Result (Unit {0}) Error
run_filter_check bytes None = Ok tt
run_filter_check bytes (Some h) = filter_check bytes h

-- what is read of the blocks of these handles, in order
abbrev pub blocks_listed : List ℕ → List Handle → List (Result (List Entry) Error)
blocks_listed bytes hs = map (λ h. block_read bytes (range_of h)) hs

-- the same for the handles of an index. Where that is refused, the refusal is all.
abbrev pub blocks_by : List ℕ → Result (List Handle) Error → List (Result (List Entry) Error)
blocks_by bytes (Ok hs) = blocks_listed bytes hs
blocks_by bytes (Err e) = Err e ∷ []

-- the same for a run, by the range of its index
abbrev pub run_blocks : List ℕ → HandleParts → List (Result (List Entry) Error)
run_blocks bytes index = blocks_by bytes (index_read bytes index)

-- what is read before the first refusal
abbrev pub before_refusal : {X : Type 0} → List (Result X Error) → List X
before_refusal [] = []
before_refusal (Ok x ∷ reads) = x ∷ before_refusal reads
before_refusal (Err e ∷ reads) = []

-- the first refusal, if there is one
abbrev pub first_refusal : {X : Type 0} → List (Result X Error) → Option Error
first_refusal [] = None
first_refusal (Ok x ∷ reads) = first_refusal reads
first_refusal (Err e ∷ reads) = Some e

-- a value, unless something is refused
abbrev pub unless_refused : {X : Type 0} → Option Error → X → Result X Error
unless_refused None x = Ok x
unless_refused (Some e) x = Err e

-- all that is read, or the first refusal
abbrev pub all_read : {X : Type 0} → List (Result X Error) → Result (List X) Error
all_read reads = unless_refused (first_refusal reads) (before_refusal reads)

-- the number of the entries of blocks, at most 2 ^ 64 - 1
abbrev pub entry_count : List (List Entry) → ℕ
entry_count blocks = min (length (joined blocks)) (2 ^ 64 - 1)

-- the number of the entries of the blocks of these handles, or the first refusal
unfoldable pub entries_counted : List ℕ → List Handle → Result ℕ Error
entries_counted bytes hs = do
  blocks ← all_read (blocks_listed bytes hs)
  Ok (entry_count blocks)

-- the numbers of the blocks of a run and of their entries, or the first refusal: that of its filter, of its index or of
-- a block
unfoldable pub run_counts : List ℕ → RunHandles → Result (ℕ × ℕ) Error
run_counts bytes h = do
  filter ← run_filter_check bytes h.filter
  hs ← index_read bytes h.index
  entries ← entries_counted bytes hs
  Ok (length hs, entries)

-- what is read of a table: its entry by key and sequence number
abbrev pub table_answer : List ℕ → List ℕ → ℕ → Result (Option Entry) Error
table_answer bytes needle seqno = do
  h ← table_handles bytes
  read_checked sst_hashes bytes h needle seqno

-- its numbers of blocks and entries
abbrev pub table_counts : List ℕ → Result (ℕ × ℕ) Error
table_counts bytes = do
  h ← table_handles bytes
  run_counts bytes h

-- its blocks, in order. Where its footer is refused, the refusal is all.
abbrev pub blocks_behind : List ℕ → Result RunHandles Error → List (Result (List Entry) Error)
blocks_behind bytes (Ok h) = run_blocks bytes h.index
blocks_behind bytes (Err e) = Err e ∷ []

abbrev pub table_blocks : List ℕ → List (Result (List Entry) Error)
table_blocks bytes = blocks_behind bytes (table_handles bytes)

-- a reading meets a range that isn't inside
abbrev pub IsCutOff : {X : Type 0} → Result X Error → Type 0
IsCutOff read = (read ≡ Err BadHandle) ⊎ (read ≡ Err Io)

-- so does the reading of blocks, one after the other
abbrev pub AreCutOff : List (Result (List Entry) Error) → Type 0
AreCutOff reads = (first_refusal reads ≡ Some BadHandle) ⊎ (first_refusal reads ≡ Some Io)

-- An error is that of the reading; or `Truncated` of a source that failed, where the reading meets a range that isn't
-- inside.
abbrev pub IsRefusalOf : {X : Type 0} → Type 0 → Result X Error → Error → Type 0
IsRefusalOf failed read e = ((e ≡ Truncated) × failed × (read ≡ Err BadHandle)) ⊎ (read ≡ Err e)

-- A call failed: the source, which if it is reliable fails only where the reading meets a range that isn't inside; or
-- the output, once the reading gave something.
abbrev pub FailsAround : {X : Type 0} → Type 0 → Type 0 → Result X Error → Type 0
FailsAround failed reliable read = (failed × (reliable → IsCutOff read)) ⊎ IsOk read

-- the same for the reading of blocks
abbrev pub FailsAmong : Type 0 → Type 0 → List (Result (List Entry) Error) → Type 0
FailsAmong failed reliable reads = (failed × (reliable → AreCutOff reads)) ⊎ (1 ≤ length (before_refusal reads))

-- A fault of a command over a table: that of the reading, or a failed allocation, or a failure. Over memory that is of
-- the output, or the reading meets a range that isn't inside.
pub record IsTableFault {X : Type 0} (over_memory : Type 0) (read : Result X Error) (fault : Fault) : Type 0 where
  pub error : Error
  pub told : fault ≡ Refused error
  pub read_is : error ≢ Memory → error ≢ Io → IsRefusalOf (Unit {0}) read error
  pub failed : error ≡ Io → over_memory → IsCutOff read ⊎ IsOk read

-- a reading gave some value, and of that value this holds
abbrev pub ReadAnd : {X : Type 0} → Result X Error → (X → Type 0) → Type 0
ReadAnd {X} read P = (x : X) × (read ≡ Ok x) × P x

-- the output grew by the lines of the entries that a reading gave
abbrev pub PrintsLinesOf : Result (List Entry) Error → Option (List ℕ) → Option (List ℕ) → Type 0
PrintsLinesOf read old new = ReadAnd read (λ items. Appends old new (lines_text_of items))

-- by the text of the entry that it found, or found not
abbrev pub PrintsAnswerOf : Result (Option Entry) Error → Option (List ℕ) → Option (List ℕ) → Type 0
PrintsAnswerOf read old new = ReadAnd read (λ found. Appends old new (answer_text_of found))

-- by the numbers that it gave
abbrev pub PrintsCountsOf : Result (ℕ × ℕ) Error → Option (List ℕ) → Option (List ℕ) → Type 0
PrintsCountsOf read old new = ReadAnd read (λ counts. Appends old new (checked_text_of counts.0 counts.1))

-- the output grew by the lines of all entries of the blocks before the first refusal, which is this, if there is one
pub record PrintsUntil (old new : Option (List ℕ)) (reads : List (Result (List Entry) Error)) (refusal : Option Error) : Type 0 where
  pub until : first_refusal reads ≡ refusal
  pub lines : Appends old new (lines_text_of (joined (before_refusal reads)))

-- the same, where the first refusal is an error, or a range that isn't inside, of which a source reported `Truncated`
abbrev pub PrintsBefore : Type 0 → Option (List ℕ) → Option (List ℕ) → List (Result (List Entry) Error) → Error → Type 0
PrintsBefore failed old new reads e = ((e ≡ Truncated) × failed × PrintsUntil old new reads (Some BadHandle)) ⊎ PrintsUntil old new reads (Some e)

-- by the lines of the first of these blocks
pub record PrintsFirst (old new : Option (List ℕ)) (reads : List (Result (List Entry) Error)) : Type 0 where
  pub count : ℕ
  pub lines : Appends old new (lines_text_of (joined (take count (before_refusal reads))))

-- a fault of a walk over a table, which has printed the blocks before
pub record IsWalkFault (over_memory : Type 0) (old new : Option (List ℕ)) (reads : List (Result (List Entry) Error)) (fault : Fault) : Type 0 where
  pub error : Error
  pub told : fault ≡ Refused error
  pub until : error ≢ Memory → error ≢ Io → PrintsBefore (Unit {0}) old new reads error
  pub failed : error ≡ Io → over_memory → AreCutOff reads ⊎ (1 ≤ length (before_refusal reads))
