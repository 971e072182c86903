use Rattle.std.proofs.Common.{drop}
use Rattle.sst_block_core.proofs.Items.EncodedForms.{full_value_type, full_seqno, full_key, full_value, full_whole}
use Rattle.sst_block_core.proofs.table.data_block.decoding.read_full_form.Goals as goal

pub read_value_type-value_type-requires : goal.read_value_type-value_type-requires
read_value_type-value_type-requires c = full_value_type (drop c.args.offset c.args.payload.now) c.requires

pub read_number-seqno-requires-clause-encoded : goal.read_number-seqno-requires-clause-encoded
read_number-seqno-requires-clause-encoded c = full_seqno (drop c.args.offset c.args.payload.now) _ _ c.read_value_type-value_type.ensures.exact.1 c.requires

pub read_length_prefixed-at-requires-clause-encoded : goal.read_length_prefixed-at-requires-clause-encoded
read_length_prefixed-at-requires-clause-encoded c = full_key (drop c.args.offset c.args.payload.now) _ _ c.read_value_type-value_type.ensures.exact.1 c.requires _ _ c.read_number-seqno.ensures.exact.1

pub read_value-value-requires-clause-encoded : goal.read_value-value-requires-clause-encoded
read_value-value-requires-clause-encoded c = full_value (drop c.args.offset c.args.payload.now) _ _ c.read_value_type-value_type.ensures.exact.1 c.requires _ _ c.read_number-seqno.ensures.exact.1 _ _ c.read_length_prefixed-at.ensures.exact.1

pub returns-clause-exact : goal.returns-clause-exact
returns-clause-exact c = (
  c.read_value-value.ensures.exact.0,
  full_whole (drop c.args.offset c.args.payload.now) _ _ c.read_value_type-value_type.ensures.exact.1 c.requires _ _ c.read_number-seqno.ensures.exact.1 _ _ c.read_length_prefixed-at.ensures.exact.1 _ _ c.read_value-value.ensures.exact.1,
)
