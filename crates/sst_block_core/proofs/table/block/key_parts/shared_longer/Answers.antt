use Rattle.std.proofs.Common.{◌∙◌, arith}
use Rattle.sst_block_core.proofs.Writing.SharedParts.{cut_before}
use Rattle.sst_block_core.proofs.table.block.key_parts.shared_longer.Goals as goal

pub returns-then-shared-front : goal.returns-then-shared-front
returns-then-shared-front c =
    c.longest_shared_prefix_length-shared.ensures
    ∙ cut_before c.args.longer.0.now c.args.longer.1.now c.args.shorter.0.now c.args.shorter.1.now c.split_at.result.0.now c.split_at.result.1.now c.requires c.split_at.ensures.front c.split_at.ensures.back
    (let s = c.longest_shared_prefix_length-shared.ensures in omega (arith, s, c.if-shared-front.true))
