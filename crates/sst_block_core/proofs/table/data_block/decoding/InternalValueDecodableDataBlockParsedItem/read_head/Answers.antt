use Rattle.std.proofs.Common.{◌∙◌, drop}
use Rattle.sst_block_core.proofs.Items.EntryReads.{full_parts, key_and_seqno}
use Rattle.sst_block_core.proofs.Items.EncodedForms.{full_value_type, full_seqno, full_key}
use Rattle.sst_block_core.proofs.table.data_block.decoding.InternalValueDecodableDataBlockParsedItem.read_head.Goals as goal

pub read_value_type-at-requires : goal.read_value_type-at-requires
read_value_type-at-requires c = full_value_type (drop c.args.offset c.args.payload.now) c.requires

pub read_number-seqno-requires-clause-encoded : goal.read_number-seqno-requires-clause-encoded
read_number-seqno-requires-clause-encoded c = full_seqno (drop c.args.offset c.args.payload.now) _ _ c.read_value_type-at.ensures.exact.1 c.requires

pub read_length_prefixed-requires-clause-encoded : goal.read_length_prefixed-requires-clause-encoded
read_length_prefixed-requires-clause-encoded c = full_key (drop c.args.offset c.args.payload.now) _ _ c.read_value_type-at.ensures.exact.1 c.requires _ _ c.read_number-seqno.ensures.exact.1

pub returns-clause-head : goal.returns-clause-head
returns-clause-head c = λ x rest e.
    let p = full_parts (drop c.args.offset c.args.payload.now) x rest e in
    let s = key_and_seqno (drop c.args.offset c.args.payload.now) x p _ _ _ _ _ _ c.read_value_type-at.ensures.exact.1 c.read_number-seqno.ensures.exact.1 c.read_length_prefixed.ensures.exact.1 in
    (c.bytes_of.ensures ∙ s.0, s.1)
