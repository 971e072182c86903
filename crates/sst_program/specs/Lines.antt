-- The lines of an input, and the entries that they encode.
use Rattle.std.specs.Prelude.{ℕ, ◌+◌, ◌==◌, if◌then◌else◌, List, [], ◌∷◌, Option, Some, None, Result, Ok, Err}
use Rattle.sstable_blocks.specs.Prelude.{Entry}
use Rattle.sst_program.specs.declared.fault.Fault.{Fault}
use Rattle.sst_program.specs.declared.fault.Fault.TheVariants.{Entry as NoEntry}
use Rattle.sst_program.specs.Line.{entry_of_line}

-- lines whose first one begins with one more byte
abbrev pub with_first_byte : ℕ → List (List ℕ) → List (List ℕ)
with_first_byte b [] = (b ∷ []) ∷ []
with_first_byte b (line ∷ lines) = (b ∷ line) ∷ lines

-- the lines of bytes, without their line feeds, which the last may lack
unfoldable pub lines_of : List ℕ → List (List ℕ)
lines_of [] = []
lines_of (b ∷ bytes) = if b == 10 then [] ∷ lines_of bytes else with_first_byte b (lines_of bytes)

-- the entry of a line, before those of the lines after it
abbrev pub entry_then : ℕ → Option Entry → Result (List Entry) Fault → Result (List Entry) Fault
entry_then n None more = Err (NoEntry n)
entry_then n (Some e) (Ok items) = Ok (e ∷ items)
entry_then n (Some e) (Err fault) = Err fault

-- the entries of lines, the first of which has this number, or the fault of the first line that is no entry
unfoldable pub entries_from : ℕ → List (List ℕ) → Result (List Entry) Fault
entries_from n [] = Ok []
entries_from n (line ∷ lines) = entry_then n (entry_of_line line) (entries_from (n + 1) lines)

-- the entries of an input, one a line
abbrev pub entries_of_input : List ℕ → Result (List Entry) Fault
entries_of_input bytes = entries_from 1 (lines_of bytes)
