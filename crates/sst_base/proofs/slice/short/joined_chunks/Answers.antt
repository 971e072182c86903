use Rattle.std.proofs.Common.{take, ap, ◌∙◌}
use Rattle.sst_base.proofs.Strings.ShortSlices.{joined_wide}
use Rattle.sst_base.proofs.slice.short.joined_chunks.Goals as goal

pub returns : goal.returns
returns c = joined_wide c.args.left.now c.args.right.now c.put_array.new.wide c.first_half.result _ _ c.args.left_len c.args.right_len c.requires c.told-left c.told-right
    c.put_array.ensures (c.first_half.ensures ∙ ap (take 40) c.put_array-2.ensures)
