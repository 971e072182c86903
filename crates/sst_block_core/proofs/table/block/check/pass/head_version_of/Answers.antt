use Rattle.std.proofs.Common.{arith, sym, ◌∙◌}
use Rattle.sst_block_core.proofs.Check.KeyOrders.{whole_key, prefix_alone}
use Rattle.sst_block_core.proofs.table.block.check.pass.head_version_of.Goals as goal

pub returns-clause-version : goal.returns-clause-version
returns-clause-version g c = λ payload found none.
    let k = c.key_ranges.result in
    let inside = c.key_ranges.ensures.inside payload found in
    let in_rest = inside.rest in
    let empty = c.key_ranges.ensures.prefix ∙ none in
    record {
      ranges = record { prefix = in_rest; rest = record { order = omega arith; inside = in_rest.inside } };
      key = c.key_ranges.ensures.key payload ∙ prefix_alone payload k empty;
      seqno = sym (c.seqno.ensures payload);
    }

pub returns-clause-prefix : goal.returns-clause-prefix
returns-clause-prefix g c = λ payload none. c.key_ranges.ensures.key payload ∙ whole_key payload c.key_ranges.result (c.key_ranges.ensures.prefix ∙ none)
