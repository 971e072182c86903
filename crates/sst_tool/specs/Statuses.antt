-- The status that the program ends with.
use Rattle.std.specs.Prelude.{ℕ}
use Rattle.sst_tool.specs.declared.fault.Fault.{Fault}
use Rattle.sst_tool.specs.declared.fault.Fault.TheVariants.{NoEntries, Word}

-- 2 where a word is refused, 3 where no entry is left of a merge, and 1 for any other fault
abbrev pub status_of : Fault → ℕ
status_of (Word text) = 2
status_of NoEntries = 3
status_of f = 1
