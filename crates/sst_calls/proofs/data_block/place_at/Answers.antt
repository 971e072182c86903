use Rattle.std.proofs.Common.{subst, sym}
use Rattle.sstable_blocks.specs.Prelude.{entry_of}
use Rattle.sst_calls.specs.Blocks.{IsPlaceOf}
use Rattle.sst_calls.specs.declared.data_block.SstPlace.{SstPlace}
use Rattle.sst_calls.proofs.Lists.Places.{placed}
use Rattle.sst_calls.proofs.data_block.place_at.Goals as goal

pub returns : goal.returns
returns c =
    let e = entry_of c.args.payload.now c.args.item.now in
    subst (λ (x : SstPlace). IsPlaceOf c.args.bytes.now x e) (sym c.place_behind.ensures) (placed c.args.bytes.now c.args.payload.now c.args.start c.place_of.result e c.requires.part c.place_of.ensures)
