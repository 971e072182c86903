use Rattle.std.proofs.Common.{rules, tests, nat_lt, ◌∙◌, Bool}
use Rattle.std.proofs.lemmas.Iterator.Consumers.{YieldsList-from_first, YieldsList-from_filter, count_from_yields_List}
use Rattle.std.proofs.lemmas.List.Sums.{length-filter}
use Rattle.sstable_blocks.specs.Prelude.{Entry}
use Rattle.sst_examples.proofs.uses.count_below.Goals as goal

-- the entries that the filter lets through are those that are counted
pub returns : goal.returns
returns c =
    let is-below : Entry → Bool = λ entry. nat_lt entry.key.seqno c.args.seqno in
    count_from_yields_List _ _ c.count.ensures.ran
    (YieldsList-from_filter _ is-below (YieldsList-from_first (λ x. x) (λ s. s) c.args.block.now.items cc)
    c.filter.ensures.closure (λ x r q k. search (rules, tests)))
    ∙ length-filter is-below c.args.block.now.items
