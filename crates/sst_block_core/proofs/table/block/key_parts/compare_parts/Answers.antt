use Rattle.std.proofs.Common.{◌++◌, sym, ap, ◌∙◌}
use Rattle.std.proofs.lemmas.Cmp.{nat_list_cmp_total}
use Rattle.std.specs.Ordering.{ordering_reverse}
use Rattle.sst_block_core.proofs.table.block.key_parts.compare_parts.Goals as goal

pub returns-then-key-other : goal.returns-then-key-other
returns-then-key-other c =
    c.reverse.ensures ∙ ap ordering_reverse c.compare_longer.ensures
    ∙ sym (nat_list_cmp_total.antisymm (c.args.key.0.now ++ c.args.key.1.now) (c.args.other.0.now ++ c.args.other.1.now))
