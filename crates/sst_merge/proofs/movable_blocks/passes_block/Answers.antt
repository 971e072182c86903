use Rattle.std.proofs.Common.{◌∙◌, sym}
use Rattle.sst_merge.proofs.Moving.BlockEnds.{last_passes}
use Rattle.sst_merge.proofs.movable_blocks.passes_block.Goals as goal

pub returns-in-Some : goal.returns-in-Some
returns-in-Some g c = c.passes.ensures ∙ sym (last_passes c.args.key.now c.args.at_most c.args.block.now.items c.next_back.new.self c.in-Some.last (sym c.entries.ensures ∙ c.in-Some.ensures.steps))
