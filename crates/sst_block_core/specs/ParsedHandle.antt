-- Handles by their ranges of a payload.
use Rattle.std.specs.Prelude.{List, ◌++◌, ℕ}
use Rattle.sst_block_core.specs.Found.{range_bytes, optional_range, range_len, IsRange, IsOptionalRange}
use Rattle.sst_block_core.specs.Handles.{Handle, IsHandle, Fields}
use Rattle.sst_block_core.specs.declared.table.index_block.parsed_item.IndexBlockParsedItem.{IndexBlockParsedItem}
use Rattle.sst_block_core.specs.declared.table.index_block.decoding.HandleFields.{HandleFields}

-- the handle that a parsed item stands for: the ranges of its end key, joined
abbrev pub parsed_handle : List ℕ → IndexBlockParsedItem → Handle
parsed_handle payload p = record { offset = p.offset.0; size = p.size; seqno = p.seqno; end_key = optional_range payload p.prefix ++ range_bytes payload p.end_key }

-- the length of its shared prefix
abbrev pub prefix_len : IndexBlockParsedItem → ℕ
prefix_len p = range_len p.prefix

-- its ranges lie in the payload, and its handle is within the limits
pub record IsParsedHandle (payload : List ℕ) (p : IndexBlockParsedItem) : Type 0 where
  pub prefix : IsOptionalRange payload p.prefix
  pub end_key : IsRange payload p.end_key
  pub fits : IsHandle (parsed_handle payload p)

-- the fields of a handle, as the code has them
abbrev pub fields_by : HandleFields → Fields
fields_by f = record { offset = f.offset; size = f.size; seqno = f.seqno }
