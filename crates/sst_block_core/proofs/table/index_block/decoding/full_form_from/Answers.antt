use Rattle.std.proofs.Common.{◌∙◌, drop, sym, ap, subst, Some}
use Rattle.sst_block_core.specs.Found.{IsEncodedAt, range_bytes}
use Rattle.sst_block_core.specs.ParsedHandle.{parsed_handle, fields_by}
use Rattle.sst_block_core.specs.declared.table.index_block.parsed_item.IndexBlockParsedItem.{IndexBlockParsedItem}
use Rattle.sst_block_core.specs.FoundLaws.{range_encoded}
use Rattle.sst_block_core.proofs.Items.HandleReads.{full_whole, marker_ends}
use Rattle.sst_block_core.proofs.table.index_block.decoding.full_form_from.Goals as goal

pub returns-clause-exact : goal.returns-clause-exact
returns-clause-exact c = (
  c.in_ok-key.ensures.exact.0,
  full_whole (drop c.args.offset c.args.payload.now) (fields_by c.in_ok-fields.fields) _ c.in_ok-fields.ensures.1 _ _ c.in_ok-key.ensures.exact.1
      ∙ ap (λ p. Some (parsed_handle c.args.payload.now p, drop c.in_ok-key.end c.args.payload.now)) (sym c.with_key.ensures),
)

pub returns-clause-key : goal.returns-clause-key
returns-clause-key c =
    let P : IndexBlockParsedItem → Type 0 = λ p. IsEncodedAt c.args.payload.now p.end_key.0 (range_bytes c.args.payload.now p.end_key) in
    subst P (sym c.with_key.ensures) (range_encoded c.args.payload.now c.in_ok-key.key c.in_ok-key.ensures.range.order c.in_ok-key.ensures.range.inside)

pub returns-clause-marker : goal.returns-clause-marker
returns-clause-marker c = λ encoded. absurd (marker_ends c.args.payload.now c.args.offset _ encoded c.in_ok-fields.ensures.1)
