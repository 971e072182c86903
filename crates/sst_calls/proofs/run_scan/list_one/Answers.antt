use Rattle.std.proofs.Common.{◌∙◌, sym, subst}
use Rattle.sstable_blocks.specs.Prelude.{entry_of}
use Rattle.sst_calls.specs.Blocks.{IsPlaceOf}
use Rattle.sst_calls.proofs.Lists.Listed.{lists_one}
use Rattle.sst_calls.proofs.run_scan.list_one.Goals as goal

pub returns-then-is_under : goal.returns-then-is_under
returns-then-is_under c =
    let e = entry_of c.args.part.now.block.payload c.args.item.now in
    let is = subst (λ p. IsPlaceOf c.args.bytes.now c.place_at.result (entry_of p c.args.item.now)) c.as_slice.ensures.value c.place_at.ensures in
    lists_one c.args.bytes.now c.args.below e c.args.places.now c.args.count.now c.place_at.result (sym c.is_under.ensures ∙ c.if-is_under.true) c.requires.room is
