use Rattle.std.proofs.Common.{◌∙◌, sym, ap, arith}
use Rattle.std.proofs.lemmas.List.Sums.{count_by-le-length}
use Rattle.std.specs.declared.ops.Bound.TheVariants.{Included}
use Rattle.sstable_blocks.specs.Prelude.{Entry, entries}
use Rattle.sstable_blocks.specs.BoundLaws.{count_all}
use Rattle.sstable_blocks.specs.RisingLaws.{counted}
use Rattle.sstable_blocks.specs.Scans.{is_before, is_up_to}
use Rattle.sst_calls.specs.Ranges.{before_key}
use Rattle.sst_calls.proofs.Lists.KeyPlaces.{given_none, given_some}
use Rattle.sst_calls.proofs.run_range.last_in.Goals as goal

pub returns-then-has-eq0-clause-before : goal.returns-then-has-eq0-clause-before
returns-then-has-eq0-clause-before c =
    let items = c.args.block.now.items in
    let none = given_none c.args.has c.args.to.now c.if-has-eq0.true in
    c.len.ensures.count ∙ sym (ap (λ k. counted entries.key (is_up_to (before_key k)) items) none ∙ count_all items)

pub returns-clause-before : goal.returns-clause-before
returns-clause-before c =
    let some = given_some c.args.has c.args.to.now c.if-has-eq0.false in
    c.keys_before.ensures ∙ sym (ap (λ k. counted entries.key (is_up_to (before_key k)) c.args.block.now.items) some)

pub returns-clause-inside : goal.returns-clause-inside
returns-clause-inside c = omega (arith, c.keys_before.ensures, count_by-le-length (λ (x : Entry). is_before (Included c.args.to.now) (entries.key x)) c.args.block.now.items)
