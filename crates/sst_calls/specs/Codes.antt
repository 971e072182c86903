-- The codes of errors and statuses.
use Rattle.std.specs.Prelude.{ℕ, ◌≡◌}
use Rattle.sstable_blocks.specs.Results.{Error, Io, InvalidHeader, InvalidTag, ChecksumMismatch, LengthMismatch, TooLong, Truncated, BadTrailer, BadEntry, OutOfOrder, BadIndex, BadHashIndex, BadFilter, BadHandle, Memory}
use Rattle.sst_calls.specs.declared.codes.Status.{Status}
use Rattle.sst_calls.specs.declared.codes.Status.TheVariants.{Done, Failed, NotFound, BadArgument, NoRoom}

-- the number of an error
abbrev pub error_number : Error → ℕ
error_number Io = 1
error_number (InvalidHeader name) = 2
error_number (InvalidTag name tag) = 3
error_number (ChecksumMismatch got expected) = 4
error_number LengthMismatch = 5
error_number TooLong = 6
error_number Truncated = 7
error_number BadTrailer = 8
error_number BadEntry = 9
error_number OutOfOrder = 10
error_number BadIndex = 11
error_number BadHashIndex = 12
error_number BadFilter = 13
error_number BadHandle = 14
error_number Memory = 15

-- the code of a status: 0 where the call did what it is for
abbrev pub code_of : Status → ℕ
code_of Done = 0
code_of (Failed error) = error_number error
code_of NotFound = 16
code_of BadArgument = 17
code_of NoRoom = 18

-- a number is the code of a status of which this holds
abbrev pub IsCodeOf : ℕ → (Status → Type 0) → Type 0
IsCodeOf code says = (s : Status) × (code ≡ code_of s) × says s
