use Rattle.std.proofs.Common.{◌∙◌, ap, refl, sym, subst, IfSome}
use Rattle.sst_block_core.specs.Heads.{IsHeadTableOf}
use Rattle.sst_block_core.specs.Scan.{Listed}
use Rattle.sst_block_core.specs.Stages.{items_in}
use Rattle.sst_block_core.specs.Trailer.{trailer_in}
use Rattle.sst_block_core.specs.OpeningLaws.{opened}
use Rattle.sst_block_core.proofs.Places.HeadPlaces.{index_inside, indexed_along}
use Rattle.sst_block_core.proofs.table.block.intervals.Intervals.with_table.Goals as goal

pub new-trailer-requires : goal.new-trailer-requires
new-trailer-requires g c =
    let some = c.requires.encoding in
    (opened g.Item.BlockItem.kind g.Item.BlockItem.valid g.Item.BlockItem.is_kind some.0 c.args.payload.now some.1 some.2 some.3 c.requires.fits some.4).trailer

pub new-requires-2-clause-width : goal.new-requires-2-clause-width
new-requires-2-clause-width g c =
    let t = c.new-trailer.ensures in
    (index_inside g.Item.BlockItem.kind g.Item.BlockItem.valid g.Item.BlockItem.is_kind c.args.payload.now c.args.payload.now c.width.result c.heads.result c.index_offset.result
    refl (c.width.ensures ∙ ap (λ p. (trailer_in p).width) t) (c.heads.ensures ∙ ap (λ p. (trailer_in p).heads) t) (c.index_offset.ensures ∙ ap (λ p. (trailer_in p).index_offset) t)
    c.requires.fits c.requires.encoding).1

pub new-requires-2-clause-inside : goal.new-requires-2-clause-inside
new-requires-2-clause-inside g c =
    let t = c.new-trailer.ensures in
    (index_inside g.Item.BlockItem.kind g.Item.BlockItem.valid g.Item.BlockItem.is_kind c.args.payload.now c.args.payload.now c.width.result c.heads.result c.index_offset.result
    refl (c.width.ensures ∙ ap (λ p. (trailer_in p).width) t) (c.heads.ensures ∙ ap (λ p. (trailer_in p).heads) t) (c.index_offset.ensures ∙ ap (λ p. (trailer_in p).index_offset) t)
    c.requires.fits c.requires.encoding).2

pub invariant_of-result : goal.invariant_of-result
invariant_of-result g c =
    let t = c.new-trailer.ensures in
    let read = c.new.ensures.payload in (
      indexed_along g.Item.BlockItem.kind g.Item.BlockItem.valid g.Item.BlockItem.is_kind c.args.payload.now c.new.result.payload c.width.result c.heads.result c.index_offset.result
          read (c.width.ensures ∙ ap (λ p. (trailer_in p).width) t) (c.heads.ensures ∙ ap (λ p. (trailer_in p).heads) t) (c.index_offset.ensures ∙ ap (λ p. (trailer_in p).index_offset) t)
          c.requires.fits c.requires.encoding c.interval.result c.item_count.result c.new-2.result
          (c.interval.ensures ∙ ap (λ p. (trailer_in p).interval) t) (c.item_count.ensures ∙ ap (λ p. (trailer_in p).item_count) t) (rw read c.new-2.ensures),
      subst (λ (l : Listed g.row.Item.Denot). IfSome c.args.table (λ t. IsHeadTableOf g.Item.BlockItem.kind l t.now))
          (sym (λ i. record { payload = read i; interval = (c.interval.ensures ∙ ap (λ p. (trailer_in p).interval) t) i; items = items_in g.Item.BlockItem.kind (read i) })) c.requires.table,
    )
