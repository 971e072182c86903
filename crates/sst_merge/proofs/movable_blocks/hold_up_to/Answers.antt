use Rattle.std.proofs.Common.{subst, ◌∙◌}
use Rattle.sst_merge.specs.MovableBlocks.{TakesLastOf}
use Rattle.sst_merge.proofs.Moving.BlockEnds.{left_up_to}
use Rattle.sst_merge.proofs.movable_blocks.hold_up_to.Goals as goal

pub returns : goal.returns
returns g c = λ n count.
    subst (λ views. TakesLastOf c.args.index views c.hold_last.result)
    (c.new.ensures ∙ left_up_to c.args.key.now c.args.block.now.items c.iter-iter.result.window c.seek_upper.new.self.window _ n c.iter-iter.ensures.window c.seek_upper.ensures.step.step_is count)
    c.hold_last.ensures
