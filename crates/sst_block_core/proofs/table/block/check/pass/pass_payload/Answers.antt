use Rattle.std.proofs.Common.{[], ap, sym, subst, ◌∙◌}
use Rattle.sst_block_core.specs.Body.{items_at}
use Rattle.sst_block_core.specs.Stages.{items_by}
use Rattle.sst_block_core.specs.Passes.{trailer_by}
use Rattle.sst_block_core.proofs.Check.ItemStages.{found_from, pointers_inside, last_inside}
use Rattle.sst_block_core.proofs.table.block.check.pass.pass_payload.Goals as goal

pub pass_over-requires-clause-pointers : goal.pass_over-requires-clause-pointers
pass_over-requires-clause-pointers g c =
    pointers_inside g.Item.BlockItem.kind g.Item.Checkable.fits (trailer_by c.args.t.now) c.args.payload.now _ _ c.requires c.split_at.ensures.front c.new-pointers.ensures

pub get-last-requires : goal.get-last-requires
get-last-requires g c =
    last_inside g.Item.BlockItem.kind g.Item.Checkable.fits (trailer_by c.args.t.now) c.args.payload.now _ _ c.requires c.split_at.ensures.front c.new-pointers.ensures

pub returns-clause-exact : goal.returns-clause-exact
returns-clause-exact g c =
    found_from g.Item.BlockItem.kind g.Item.Checkable.fits (trailer_by c.args.t.now) c.args.payload.now _ _ c.requires c.split_at.ensures.front c.new-pointers.ensures _ _ _ _ _
    c.in_ok-passed.ensures.exact c.get-last.ensures c.is_least_width.ensures

pub returns-clause-taken : goal.returns-clause-taken
returns-clause-taken g c = λ b start.
    let kind = g.Item.BlockItem.kind in
    let t = trailer_by c.args.t.now in
    let f = found_from kind g.Item.Checkable.fits t c.args.payload.now _ _ c.requires c.split_at.ensures.front c.new-pointers.ensures _ _ _ _ _
    c.in_ok-passed.ensures.exact c.get-last.ensures c.is_least_width.ensures in
    let same = c.split_at.ensures.front in
    subst (λ bytes. g.Sink.KeySink.has_taken t.interval b bytes c.pass_over.new.sink (items_by kind t c.args.payload.now)) same
    (c.in_ok-passed.ensures.taken b (items_by kind t c.args.payload.now) (subst (λ bytes. g.Sink.KeySink.has_taken t.interval b bytes c.args.sink.now []) (sym same) start)
    (ap (items_at kind t.interval 0 t.item_count []) same ∙ f.forms))
