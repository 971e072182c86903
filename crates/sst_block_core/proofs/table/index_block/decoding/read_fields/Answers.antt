use Rattle.std.proofs.Common.{drop, arith}
use Rattle.sst_block_core.proofs.Items.HandleReads.{marker_some, front_offset, front_size, front_seqno, front_whole}
use Rattle.sst_block_core.proofs.table.index_block.decoding.read_fields.Goals as goal

pub overflow_add-at : goal.overflow_add-at
overflow_add-at c = let m = (marker_some c.args.at c.args.payload.now c.requires).0 in omega arith

pub read_number-offset-requires-clause-encoded : goal.read_number-offset-requires-clause-encoded
read_number-offset-requires-clause-encoded c = front_offset (drop c.args.at c.args.payload.now) _ (marker_some c.args.at c.args.payload.now c.requires).1 c.requires

pub read_number-size-requires-clause-encoded : goal.read_number-size-requires-clause-encoded
read_number-size-requires-clause-encoded c = front_size (drop c.args.at c.args.payload.now) _ (marker_some c.args.at c.args.payload.now c.requires).1 c.requires _ _ c.read_number-offset.ensures.exact.1

pub read_number-seqno-requires-clause-encoded : goal.read_number-seqno-requires-clause-encoded
read_number-seqno-requires-clause-encoded c =
    front_seqno (drop c.args.at c.args.payload.now) _ (marker_some c.args.at c.args.payload.now c.requires).1 c.requires _ _ c.read_number-offset.ensures.exact.1 _ _ c.read_number-size.ensures.exact.1

pub returns : goal.returns
returns c = (
  c.read_number-seqno.ensures.exact.0,
  front_whole (drop c.args.at c.args.payload.now) _ (marker_some c.args.at c.args.payload.now c.requires).1 c.requires _ _ c.read_number-offset.ensures.exact.1 _ _ c.read_number-size.ensures.exact.1
      _ _ c.read_number-seqno.ensures.exact.1,
)
