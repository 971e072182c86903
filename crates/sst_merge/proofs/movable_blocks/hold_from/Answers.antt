use Rattle.std.proofs.Common.{subst, ◌∙◌}
use Rattle.sst_merge.specs.MovableBlocks.{TakesFirstOf}
use Rattle.sst_merge.proofs.Moving.BlockEnds.{left_from}
use Rattle.sst_merge.proofs.movable_blocks.hold_from.Goals as goal

pub returns : goal.returns
returns g c = λ n count.
    subst (λ views. TakesFirstOf c.args.index c.args.block.now.items views c.hold_first.result)
    (c.new.ensures ∙ left_from c.args.key.now c.args.block.now.items c.iter-iter.result.window c.seek.new.self.window _ n c.iter-iter.ensures.window c.seek.ensures.step.step_is count)
    c.hold_first.ensures
