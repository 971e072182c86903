-- What a run prints, or the fault that it reports.
use Rattle.std.specs.Prelude.{◌≡◌, ℕ, ◌+◌, ◌^◌, ◌⊎◌, nat_lt, if◌then◌else◌, codes, List, [], ◌∷◌, ◌++◌, length, Option, Some, None, Result, Ok, Err, IfSome}
use Rattle.std.specs.Fmt.{decimal}
use Rattle.std.specs.Io.KnownBytes.{Keeps, Appends, append_known}
use Rattle.sstable_blocks.specs.Results.{Error, Memory, Io, TooLong}
use Rattle.sstable_blocks.specs.Prelude.{Entry, disorder_from}
use Rattle.sst_program.specs.declared.fault.Fault.{Fault}
use Rattle.sst_program.specs.declared.fault.Fault.TheVariants.{Usage, NoEntries, Order, Refused}
use Rattle.sst_program.specs.declared.words.Command.{Command}
use Rattle.sst_program.specs.declared.words.Command.TheVariants.{Point, Pack, Get, Walk, Check}
use Rattle.sst_program.specs.Line.{entry_line_of}
use Rattle.sst_program.specs.Lines.{entries_of_input}
use Rattle.sst_program.specs.Point.{point_payload, point_text_of, answer_line_of}
use Rattle.sst_program.specs.Query.{Query, Packing}
use Rattle.sst_program.specs.Table.{IsPacked, IsTooLong}
use Rattle.sst_program.specs.declared.pack.Packed.{Packed}

-- an entry that sorts before its predecessor: its line is its index and one
abbrev pub fault_of_disorder : Option ℕ → Option Fault
fault_of_disorder None = None
fault_of_disorder (Some i) = Some (Order (i + 1))

-- why entries cannot be written: there is none, or one sorts before its predecessor
unfoldable pub fault_of_items : List Entry → Option Fault
fault_of_items [] = Some NoEntries
fault_of_items (e ∷ items) = fault_of_disorder (disorder_from 0 (e ∷ items))

-- entries, or why they cannot be written
abbrev pub unless_fault : Option Fault → List Entry → Result (List Entry) Fault
unless_fault None items = Ok items
unless_fault (Some fault) items = Err fault

abbrev pub run_of_lines : Result (List Entry) Fault → Result (List Entry) Fault
run_of_lines (Ok items) = unless_fault (fault_of_items items) items
run_of_lines (Err fault) = Err fault

-- the entries of an input, which can be written, or its fault
unfoldable pub run_of_input : List ℕ → Result (List Entry) Fault
run_of_input bytes = run_of_lines (entries_of_input bytes)

-- what `point` prints for entries, or that the block is too long
abbrev pub outcome_of_items : Query → List Entry → Result (List ℕ) Fault
outcome_of_items query items =
    if nat_lt (length (point_payload items query.interval)) (2 ^ 32) then Ok (point_text_of items query.interval query.needle query.seqno) else Err (Refused TooLong)

abbrev pub outcome_of_run : Query → Result (List Entry) Fault → Result (List ℕ) Fault
outcome_of_run query (Ok items) = outcome_of_items query items
outcome_of_run query (Err fault) = Err fault

-- what `point` prints for these bytes of input, or its fault
unfoldable pub outcome_of_query : Query → List ℕ → Result (List ℕ) Fault
outcome_of_query query bytes = outcome_of_run query (run_of_input bytes)

-- a fault that no input explains: an allocation, the input or the output failed
abbrev pub IsFailure : Fault → Type 0
IsFailure fault = (fault ≡ Refused Memory) ⊎ (fault ≡ Refused Io)

-- the bytes that an input gave, which are the known ones where they are known
abbrev pub Gave : Option (List ℕ) → List ℕ → Type 0
Gave known bytes = IfSome known (λ xs. bytes ≡ xs)

-- for the bytes that the input gave, this is the outcome
abbrev pub IsOutcomeOf : {A : Type 0} → (List ℕ → Result A Fault) → Option (List ℕ) → A → Type 0
IsOutcomeOf outcome known x = (bytes : List ℕ) × Gave known bytes × (outcome bytes ≡ Ok x)

-- the run failed, or for the bytes that the input gave the outcome is this fault
abbrev pub IsFaultOf : {A : Type 0} → (List ℕ → Result A Fault) → Option (List ℕ) → Fault → Type 0
IsFaultOf outcome known fault = IsFailure fault ⊎ ((bytes : List ℕ) × Gave known bytes × (outcome bytes ≡ Err fault))

-- what is known of the output stays, unless the input or the output failed
abbrev pub PrintsNothing : Option (List ℕ) → Option (List ℕ) → Fault → Type 0
PrintsNothing old new fault = (fault ≡ Refused Io) ⊎ Keeps old new

-- packed N entries in B blocks, T bytes
abbrev pub packed_text_of : ℕ → ℕ → ℕ → List ℕ
packed_text_of items blocks len =
    codes "packed " ++ decimal items ++ codes " entries in " ++ decimal blocks ++ codes " blocks, " ++ decimal len ++ codes " bytes" ++ (10 ∷ [])

-- ok B blocks N entries
abbrev pub checked_text_of : ℕ → ℕ → List ℕ
checked_text_of blocks items = codes "ok " ++ (decimal blocks ++ (codes " blocks " ++ (decimal items ++ (codes " entries" ++ (10 ∷ [])))))

-- the line of what is found, with its line feed
abbrev pub answer_text_of : Option Entry → List ℕ
answer_text_of found = answer_line_of found ++ (10 ∷ [])

-- the lines of entries, with their line feeds
abbrev pub lines_text_of : List Entry → List ℕ
lines_text_of [] = []
lines_text_of (e ∷ items) = entry_line_of e ++ (10 ∷ lines_text_of items)

-- an output, and after it the bytes that wait for it in a buffer, grew by a text
pub record Puts (old : Option (List ℕ)) (waiting : List ℕ) (new : Option (List ℕ)) (waiting' text : List ℕ) : Type 0 where
  pub grown : Appends (append_known old waiting) (append_known new waiting') text

-- the output grew by the text of what is found
abbrev pub PrintsAnswer : Option (List ℕ) → Option (List ℕ) → Type 0
PrintsAnswer old new = (found : Option Entry) × Appends old new (answer_text_of found)

-- by the lines of some entries
abbrev pub PrintsLines : Option (List ℕ) → Option (List ℕ) → Type 0
PrintsLines old new = (items : List Entry) × Appends old new (lines_text_of items)

-- by the numbers of what is checked
abbrev pub PrintsCounts : Option (List ℕ) → Option (List ℕ) → Type 0
PrintsCounts old new = (blocks : ℕ) × (items : ℕ) × Appends old new (checked_text_of blocks items)

-- by the numbers of the input's entries, and of the blocks and bytes of their table
abbrev pub PrintsPacked : Packing → Option (List ℕ) → Option (List ℕ) → Option (List ℕ) → Type 0
PrintsPacked packing known old new =
    (items : List Entry) × IsOutcomeOf run_of_input known items
    × (p : Packed) × IsPacked packing.config packing.per_block items p
    × Appends old new (packed_text_of (length items) p.blocks p.len)

-- what a run without fault has printed. Of a file nothing is known.
abbrev pub HasPrinted : Option Command → Option (List ℕ) → Option (List ℕ) → Option (List ℕ) → Type 0
HasPrinted None known old new = ⊥
HasPrinted (Some (Point query)) known old new = (text : List ℕ) × IsOutcomeOf (outcome_of_query query) known text × Appends old new text
HasPrinted (Some (Pack packing)) known old new = PrintsPacked packing known old new
HasPrinted (Some (Get lookup)) known old new = PrintsAnswer old new
HasPrinted (Some (Walk file)) known old new = PrintsLines old new
HasPrinted (Some (Check file)) known old new = PrintsCounts old new

-- a refusal of the library, the file or the output
abbrev pub IsLibraryRefusal : Fault → Type 0
IsLibraryRefusal fault = (error : Error) × (fault ≡ Refused error)

-- a fault of `pack`: the input's, or that the table of the input's entries does not fit
abbrev pub IsPackFault : Packing → Option (List ℕ) → Fault → Type 0
IsPackFault packing known fault =
    IsFaultOf run_of_input known fault
    ⊎ ((fault ≡ Refused TooLong) × (items : List Entry) × IsOutcomeOf run_of_input known items × IsTooLong packing.config packing.per_block items)

-- the fault that a run reports, if it did not fail. Words that encode no command are a usage fault.
abbrev pub IsReported : Option Command → Option (List ℕ) → Fault → Type 0
IsReported None known fault = IsFailure fault ⊎ (fault ≡ Usage)
IsReported (Some (Point query)) known fault = IsFaultOf (outcome_of_query query) known fault
IsReported (Some (Pack packing)) known fault = IsPackFault packing known fault
IsReported (Some (Get lookup)) known fault = IsLibraryRefusal fault
IsReported (Some (Walk file)) known fault = IsLibraryRefusal fault
IsReported (Some (Check file)) known fault = IsLibraryRefusal fault

-- what a run with a fault has printed: nothing, unless it failed; but `walk` the lines of the blocks before
abbrev pub HasKept : Option Command → Option (List ℕ) → Option (List ℕ) → Fault → Type 0
HasKept (Some (Walk file)) old new fault = (fault ≡ Refused Io) ⊎ PrintsLines old new
HasKept command old new fault = PrintsNothing old new fault
