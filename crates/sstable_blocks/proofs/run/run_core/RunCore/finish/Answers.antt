use Rattle.std.proofs.Common.{sym, ◌∙◌, ap, ◌+◌, length}
use Rattle.sstable_blocks.specs.Run.{form, block_frames}
use Rattle.sstable_blocks.proofs.Layouts.Endings.{index_long, ended}
use Rattle.sstable_blocks.proofs.run.run_core.RunCore.finish.Goals as goal

pub write_filter-requires-clause-offset : goal.write_filter-requires-clause-offset
write_filter-requires-clause-offset g c =
    let f = form g.H.BlockHash.hash64 g.H.BlockHash.hash128 c.args.self.now.config in
    c.in_ok-index.ensures.end ∙ ap (λ n. length (block_frames f c.args.self.now.blocks) + n) (sym (index_long f c.args.self.now.blocks))

pub returns-clause-layout : goal.returns-clause-layout
returns-clause-layout g c =
    let f = form g.H.BlockHash.hash64 g.H.BlockHash.hash128 c.args.self.now.config in
    let e = c.in_ok-index.ensures in
    ended f c.args.self.now.blocks e.run e.framed _ _ _ _ _ _ e.written
    (e.end ∙ ap (λ n. length (block_frames f c.args.self.now.blocks) + n) (sym (index_long f c.args.self.now.blocks))) c.in_ok-filter.ensures.written
