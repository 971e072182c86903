use Rattle.std.proofs.Common.{◌≡◌, ◌∙◌, List, None, ap}
use Rattle.sstable_blocks.specs.Prelude.{Entry, count_passed, entries}
use Rattle.sstable_blocks.specs.BoundLaws.{passed_below}
use Rattle.sst_calls.proofs.run_range.keys_before.Goals as goal

pub returns : goal.returns
returns c =
    let block = c.args.block.now in
    let key = c.args.key.now in
    let items : c.intervals.result.list.items ≡ block.items = c.intervals.ensures.items in
    c.position.ensures.count
    ∙ ap (λ k. count_passed entries k c.below.result.from c.intervals.result.list.items) c.below.ensures.needle
    ∙ ap (λ f. count_passed entries key f c.intervals.result.list.items) c.below.ensures.from
    ∙ ap (λ (xs : List Entry). count_passed entries key None xs) items
    ∙ passed_below entries key block.items
