-- How an error of the library is reported.
use Rattle.std.specs.Prelude.{ℕ, List, codes}
use Rattle.sstable_blocks.specs.Results.{Error, Io, InvalidHeader, InvalidTag, ChecksumMismatch, LengthMismatch, TooLong, Truncated, BadTrailer, BadEntry, OutOfOrder, BadIndex, BadHashIndex, BadFilter, BadHandle, Memory}

-- the number and the bare name of an error
abbrev pub refusal_name_of : Error → List ℕ
refusal_name_of Io = codes "E1 Io"
refusal_name_of (InvalidHeader expected) = codes "E2 InvalidHeader"
refusal_name_of (InvalidTag expected found) = codes "E3 InvalidTag"
refusal_name_of (ChecksumMismatch got expected) = codes "E4 ChecksumMismatch"
refusal_name_of LengthMismatch = codes "E5 LengthMismatch"
refusal_name_of TooLong = codes "E6 TooLong"
refusal_name_of Truncated = codes "E7 Truncated"
refusal_name_of BadTrailer = codes "E8 BadTrailer"
refusal_name_of BadEntry = codes "E9 BadEntry"
refusal_name_of OutOfOrder = codes "E10 OutOfOrder"
refusal_name_of BadIndex = codes "E11 BadIndex"
refusal_name_of BadHashIndex = codes "E12 BadHashIndex"
refusal_name_of BadFilter = codes "E13 BadFilter"
refusal_name_of BadHandle = codes "E14 BadHandle"
refusal_name_of Memory = codes "E15 Memory"
