-- The bytes of a key after its shared prefix, by its ranges.
use Rattle.std.proofs.Common.{◌≡◌, ℕ, ◌-◌, List, ◌++◌, length, drop, refl, sym, arith, Option, Some, None, length-drop}
use Rattle.std.proofs.lemmas.List.{drop_at, length-take-le}
use Rattle.sst_base.specs.declared.table.util.SliceIndexes.{SliceIndexes}
use Rattle.sst_block_core.specs.Found.{IsRange, IsOptionalRange, range_bytes, optional_range, range_len}
use Rattle.sst_block_core.specs.ParsedEntry.{entry_of, prefix_len, IsParsedEntry}
use Rattle.sst_block_core.specs.ParsedHandle.{parsed_handle, IsParsedHandle}
use Rattle.sst_block_core.specs.declared.table.data_block.parsed_item.DataBlockParsedItem.{DataBlockParsedItem}
use Rattle.sst_block_core.specs.declared.table.index_block.parsed_item.IndexBlockParsedItem.{IndexBlockParsedItem}

-- a range has as many bytes as its ends say
pub range_length : (payload : List ℕ) (range : SliceIndexes) → IsRange payload range → length (range_bytes payload range) ≡ range.1 - range.0
range_length payload range r =
    let l = length-drop range.0 payload in
    let o = r.order in
    let i = r.inside in
    length-take-le (range.1 - range.0) (drop range.0 payload) (omega arith)

prefix_drops : (payload rest : List ℕ) (prefix : Option SliceIndexes) → IsOptionalRange payload prefix → rest ≡ drop (range_len prefix) (optional_range payload prefix ++ rest)
prefix_drops payload rest None r = refl
prefix_drops payload rest (Some range) r = sym (drop_at (range_bytes payload range) rest (range.1 - range.0) (range_length payload range r))

-- after the shared prefix of an entry's key are its own bytes
pub own_key : (payload : List ℕ) (p : DataBlockParsedItem) → IsParsedEntry payload p → range_bytes payload p.key ≡ drop (prefix_len p) (entry_of payload p).key.user_key
own_key payload p found = prefix_drops payload (range_bytes payload p.key) p.prefix found.prefix

-- after the shared prefix of a handle's end key are its own bytes
pub own_end_key : (payload : List ℕ) (p : IndexBlockParsedItem) → IsParsedHandle payload p → range_bytes payload p.end_key ≡ drop (range_len p.prefix) (parsed_handle payload p).end_key
own_end_key payload p found = prefix_drops payload (range_bytes payload p.end_key) p.prefix found.prefix
