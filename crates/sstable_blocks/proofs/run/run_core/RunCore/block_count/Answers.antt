use Rattle.std.proofs.Common.{ap, ◌∙◌, length}
use Rattle.sstable_blocks.specs.Run.{form}
use Rattle.sstable_blocks.specs.Writing.{Written}
use Rattle.sstable_blocks.proofs.Layouts.BlockHandles.{length-handles_from}
use Rattle.sstable_blocks.proofs.run.run_core.RunCore.block_count.Goals as goal

pub returns : goal.returns
returns g c =
    c.len.ensures ∙ c.self.inside.handles.ok.0 ∙ ap length c.self.invariant.handles
    ∙ length-handles_from (form g.H.BlockHash.hash64 g.H.BlockHash.hash128 c.self.inside.config) c.self.inside.accepted 0
    ∙ ap (λ (w : Written). length w.blocks) c.self.view_is
