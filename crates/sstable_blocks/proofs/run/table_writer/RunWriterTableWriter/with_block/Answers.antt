use Rattle.std.proofs.Common.{[], map, refl}
use Rattle.std.proofs.lemmas.Result.{err_from_is_err_and}
use Rattle.sstable_blocks.specs.Run.{form}
use Rattle.sstable_blocks.specs.RunLaws.{fits_next, refusal_on}
use Rattle.sstable_blocks.proofs.run.table_writer.RunWriterTableWriter.with_block.Goals as goal

pub returns-in_err-add_block-clause-cause : goal.returns-in_err-add_block-clause-cause
returns-in_err-add_block-clause-cause g c =
    let f = form g.H.BlockHash.hash64 g.H.BlockHash.hash128 c.args.self.config in
    let items = map g.T.AsEntry.entry c.args.items.now in
    let r = err_from_is_err_and c.from_residual.result c.from_residual.ensures.1 in
    rw (r.1, r.2) (refusal_on _ _ _ (c.in_err-add_block.ensures.cause c.requires.accepts) (fits_next f c.args.self.blocks items [] _ refl))
