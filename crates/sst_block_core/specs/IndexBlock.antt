-- What contracts see of an index block: its header and payload, its handles, its interval, and whether it has a table of
-- its heads.
use Rattle.std.specs.Prelude.{ℕ, List, Bool}
use Rattle.sst_base.specs.declared.table.block.header.Header.{Header}
use Rattle.sst_base.specs.Block.{BlockParts}
use Rattle.sst_block_core.specs.Trailer.{trailer_in}
use Rattle.sst_block_core.specs.Stages.{items_in}
use Rattle.sst_block_core.specs.Handles.{Handle, handles}

pub record IndexBlockParts : Type 0 where
  pub header : Header
  pub payload : List ℕ
  pub items : List Handle
  pub interval : ℕ
  pub heads : Bool

-- the index block of a header and a payload, with a table of its heads or without: its list and its interval are read from
-- the payload
abbrev pub index_block_of : BlockParts → Bool → IndexBlockParts
index_block_of b heads = record {
  header = b.header;
  payload = b.payload;
  items = items_in handles b.payload;
  interval = (trailer_in b.payload).interval;
  heads = heads;
}

-- the header and the payload of an index block
abbrev pub index_inner : IndexBlockParts → BlockParts
index_inner d = record { header = d.header; payload = d.payload }

-- What contracts see of an index block whose payload is borrowed: the payload, its handles, its interval, and whether it
-- has a table of its heads.
pub record IndexRefParts : Type 0 where
  pub payload : List ℕ
  pub items : List Handle
  pub interval : ℕ
  pub heads : Bool

-- the index block of a payload, with a table of its heads or without
abbrev pub index_ref_of : List ℕ → Bool → IndexRefParts
index_ref_of payload heads = record {
  payload = payload;
  items = items_in handles payload;
  interval = (trailer_in payload).interval;
  heads = heads;
}

-- an index block without its header
abbrev pub ref_of_block : IndexBlockParts → IndexRefParts
ref_of_block d = record { payload = d.payload; items = d.items; interval = d.interval; heads = d.heads }
