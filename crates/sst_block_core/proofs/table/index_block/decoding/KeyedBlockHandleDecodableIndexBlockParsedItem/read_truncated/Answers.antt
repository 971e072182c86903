use Rattle.std.proofs.Common.{◌∙◌, drop, sym, ap, subst, arith}
use Rattle.sst_block_core.specs.Handles.{IsHandle, truncated_at}
use Rattle.sst_block_core.specs.Found.{range_len}
use Rattle.sst_block_core.specs.ParsedHandle.{parsed_handle, fields_by, IsParsedHandle}
use Rattle.sst_block_core.specs.declared.table.index_block.parsed_item.IndexBlockParsedItem.{IndexBlockParsedItem}
use Rattle.sst_base.specs.ReadingLaws.{some_value}
use Rattle.sst_block_core.proofs.Items.HandleReads.{truncated_front, truncated_shared, truncated_rest, truncated_found, truncated_fits}
use Rattle.sst_block_core.proofs.table.index_block.decoding.KeyedBlockHandleDecodableIndexBlockParsedItem.read_truncated.Goals as goal

pub read_fields-at-requires : goal.read_fields-at-requires
read_fields-at-requires c = truncated_front c.requires.0 (drop c.args.offset c.args.payload.now) c.requires.2

pub read_number-shared-requires-clause-encoded : goal.read_number-shared-requires-clause-encoded
read_number-shared-requires-clause-encoded c = truncated_shared (drop c.args.offset c.args.payload.now) _ _ c.read_fields-at.ensures.1 c.requires.0 c.requires.2

pub read_length_prefixed-end-requires-clause-encoded : goal.read_length_prefixed-end-requires-clause-encoded
read_length_prefixed-end-requires-clause-encoded c =
    truncated_rest (drop c.args.offset c.args.payload.now) _ _ c.read_fields-at.ensures.1 c.requires.0 _ _ c.read_number-shared.ensures.exact.1 c.requires.2

pub returns-clause-item : goal.returns-clause-item
returns-clause-item c = λ base x rest encoded e.
    let p = c.args.payload.now in
    let k = c.read_length_prefixed-end in
    let f = truncated_found p (drop c.args.offset p) base c.args.base_key_offset k.result.1 c.read_number-shared.result.0 (fields_by c.read_fields-at.result.0) _ _ k.result.0
    encoded k.ensures.range c.read_fields-at.ensures.1 c.read_number-shared.ensures.exact.1 k.ensures.exact.1 x rest e in
    let len = ap (λ (q : IndexBlockParsedItem). range_len q.prefix) c.with_key.ensures in
    let shares = f.4 in
    (ap (parsed_handle p) c.with_key.ensures ∙ f.2, f.3, omega (arith, len, shares))

pub returns-clause-found : goal.returns-clause-found
returns-clause-found c =
    let r = c.requires in
    let p = c.args.payload.now in
    let k = c.read_length_prefixed-end in
    let v = some_value (truncated_at r.0 (drop c.args.offset p)) r.2 in
    let f = truncated_found p (drop c.args.offset p) r.0 c.args.base_key_offset k.result.1 c.read_number-shared.result.0 (fields_by c.read_fields-at.result.0) _ _ k.result.0
    r.1 k.ensures.range c.read_fields-at.ensures.1 c.read_number-shared.ensures.exact.1 k.ensures.exact.1 v.0.0 v.0.1 v.1 in
    subst (IsParsedHandle p) (sym c.with_key.ensures) (record {
      prefix = record { order = omega arith; inside = f.0 };
      end_key = k.ensures.range;
      fits = subst IsHandle (sym f.2) (truncated_fits p c.args.offset r.0 v.0.0 v.0.1 (λ k. let h = c.type_inv.payload k in omega arith) v.1);
    })
