-- The footer of a table file: its last 24 bytes, which say where index and filter are.
use Rattle.std.specs.Prelude.{ℕ, ◌+◌, ◌-◌, ◌==◌, min, List, ◌++◌, length, drop, nat_lt, if◌then◌else◌, Option, Some, None, Result, Ok, Err}
use Rattle.byteorder.specs.Endian.{little_bytes, little_number}
use Rattle.sst_base.specs.BlockHandle.{HandleParts}
use Rattle.sst_base.specs.declared.error.Error.{Error}
use Rattle.sst_base.specs.declared.error.Error.TheVariants.{Truncated}
use Rattle.sstable_blocks.specs.declared.run.RunHandles.{RunHandles}

-- where a filter is, and 0 and 0 for none
abbrev pub parts_of : Option HandleParts → HandleParts
parts_of None = record { offset = 0; size = 0 }
parts_of (Some h) = h

-- offset (8 bytes), size (4 bytes)
abbrev pub parts_bytes : HandleParts → List ℕ
parts_bytes h = little_bytes 8 h.offset ++ little_bytes 4 h.size

-- the 24 bytes of a footer: where the index is, and where the filter is
unfoldable pub footer : RunHandles → List ℕ
footer h = parts_bytes h.index ++ parts_bytes (parts_of h.filter)

-- the offset and the size at the start of bytes
abbrev pub parts_at : List ℕ → HandleParts
parts_at bytes = record { offset = little_number 8 bytes; size = little_number 4 (drop 8 bytes) }

-- a filter, which is none where its size is 0
abbrev pub filter_of : HandleParts → Option HandleParts
filter_of h = if h.size == 0 then None else Some h

-- the handles of the footer at the start of bytes
unfoldable pub footer_handles : List ℕ → Result RunHandles Error
footer_handles bytes =
    if nat_lt (length bytes) 24 then Err Truncated
    else Ok (record { index = parts_at bytes; filter = filter_of (parts_at (drop 12 bytes)) })

-- the offset after a run, where its table has the footer: after the filter, or else after the index
abbrev pub run_end_by : HandleParts → Option HandleParts → ℕ
run_end_by index None = index.offset + index.size
run_end_by index (Some filter) = filter.offset + filter.size

abbrev pub run_end : RunHandles → ℕ
run_end h = run_end_by h.index h.filter

-- where the footer of a table of this length is: its last 24 bytes
abbrev pub footer_place : ℕ → HandleParts
footer_place len = record { offset = len - min len 24; size = min len 24 }

-- the handles in the footer of a table
unfoldable pub table_handles : List ℕ → Result RunHandles Error
table_handles bytes = footer_handles (drop (length bytes - 24) bytes)
