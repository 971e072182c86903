use Rattle.std.proofs.Common.{◌∙◌, drop, ap}
use Rattle.sst_block_core.specs.Handles.{Handle}
use Rattle.sst_block_core.specs.ParsedHandle.{fields_by}
use Rattle.sst_block_core.proofs.Items.HandleReads.{full_front, full_key, full_is}
use Rattle.sst_block_core.proofs.table.index_block.decoding.KeyedBlockHandleDecodableIndexBlockParsedItem.read_head.Goals as goal

pub read_fields-at-requires : goal.read_fields-at-requires
read_fields-at-requires c = full_front (drop c.args.offset c.args.payload.now) c.requires

pub read_length_prefixed-requires-clause-encoded : goal.read_length_prefixed-requires-clause-encoded
read_length_prefixed-requires-clause-encoded c = full_key (drop c.args.offset c.args.payload.now) _ _ c.read_fields-at.ensures.1 c.requires

pub returns-clause-head : goal.returns-clause-head
returns-clause-head c = λ x rest e.
    let is = full_is (drop c.args.offset c.args.payload.now) (fields_by c.read_fields-at.result.0) _ c.read_fields-at.ensures.1 _ _ x rest c.read_length_prefixed.ensures.exact.1 e in
    (c.bytes_of.ensures ∙ ap (λ (h : Handle). h.end_key) is.0, ap (λ (h : Handle). h.seqno) is.0)
