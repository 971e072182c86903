use Rattle.std.proofs.Common.{map}
use Rattle.std.proofs.lemmas.Result.{IfErr-weaker}
use Rattle.sst_parts.proofs.Writing.Kinds.{block_added, next_fits}
use Rattle.sstable_blocks.specs.Run.{form}
use Rattle.sstable_blocks.specs.RunLaws.{refusal_on}
use Rattle.sstable_blocks.specs.SourceLaws.{if_ok_map}
use Rattle.sst_parts.proofs.writer.PartWriterTableWriter.with_block.Goals as goal

pub returns-clause-added : goal.returns-clause-added
returns-clause-added g c =
    let f = form g.H.BlockHash.hash64 g.H.BlockHash.hash128 c.args.self.config in
    let items = map g.T.AsEntry.entry c.args.items.now in
    if_ok_map c.add_block.result _ _ (λ w a. block_added f c.args.self items w c.requires.follows.some a) c.add_block.ensures.added

pub returns-clause-cause : goal.returns-clause-cause
returns-clause-cause g c =
    let f = form g.H.BlockHash.hash64 g.H.BlockHash.hash128 c.args.self.config in
    let items = map g.T.AsEntry.entry c.args.items.now in
    IfErr-weaker c.add_block.result _ _ (λ e refused. refusal_on _ _ e refused (λ no fits. no (next_fits f c.args.self items c.tell_cut.ensures fits))) c.add_block.ensures.cause
