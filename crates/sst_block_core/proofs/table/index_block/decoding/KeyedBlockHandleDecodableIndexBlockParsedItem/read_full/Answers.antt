use Rattle.std.proofs.Common.{◌∙◌, drop, sym, ap, subst, Some, arith}
use Rattle.sst_block_core.specs.Found.{IsEncodedAt}
use Rattle.sst_block_core.specs.ParsedHandle.{parsed_handle, fields_by, IsParsedHandle}
use Rattle.sst_block_core.specs.declared.table.index_block.parsed_item.IndexBlockParsedItem.{IndexBlockParsedItem}
use Rattle.sst_block_core.specs.FoundLaws.{range_encoded}
use Rattle.sst_block_core.proofs.Items.HandleReads.{full_front, full_key, full_whole, full_fits}
use Rattle.sst_block_core.proofs.table.index_block.decoding.KeyedBlockHandleDecodableIndexBlockParsedItem.read_full.Goals as goal

pub read_fields-at-requires : goal.read_fields-at-requires
read_fields-at-requires c = full_front (drop c.args.offset c.args.payload.now) c.requires

pub read_length_prefixed-end-requires-clause-encoded : goal.read_length_prefixed-end-requires-clause-encoded
read_length_prefixed-end-requires-clause-encoded c = full_key (drop c.args.offset c.args.payload.now) _ _ c.read_fields-at.ensures.1 c.requires

pub returns-clause-exact : goal.returns-clause-exact
returns-clause-exact c = (
  c.read_length_prefixed-end.ensures.exact.0,
  full_whole (drop c.args.offset c.args.payload.now) (fields_by c.read_fields-at.result.0) _ c.read_fields-at.ensures.1 _ _ c.read_length_prefixed-end.ensures.exact.1
      ∙ ap (λ p. Some (parsed_handle c.args.payload.now p, drop c.read_length_prefixed-end.result.1 c.args.payload.now)) (sym c.with_key.ensures),
)

pub returns-clause-found : goal.returns-clause-found
returns-clause-found c =
    let p = c.args.payload.now in
    subst (IsParsedHandle p) (sym c.with_key.ensures) (record {
      prefix = tt;
      end_key = c.read_length_prefixed-end.ensures.range;
      fits = full_fits p c.args.offset _ (drop c.read_length_prefixed-end.result.1 p) (λ k. let h = c.type_inv.payload k in omega arith)
          (full_whole (drop c.args.offset p) (fields_by c.read_fields-at.result.0) _ c.read_fields-at.ensures.1 _ _ c.read_length_prefixed-end.ensures.exact.1);
    })

pub returns-clause-key : goal.returns-clause-key
returns-clause-key c =
    let k = c.read_length_prefixed-end.ensures.range in
    let P : IndexBlockParsedItem → Type 0 = λ p. IsEncodedAt c.args.payload.now p.end_key.0 (parsed_handle c.args.payload.now p).end_key in
    subst P (sym c.with_key.ensures) (range_encoded c.args.payload.now c.read_length_prefixed-end.result.0 k.order k.inside)
