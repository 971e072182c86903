use Rattle.std.proofs.Common.{◌∙◌, sym, ap, arith}
use Rattle.std.proofs.lemmas.List.Sums.{count_by-le-length}
use Rattle.std.specs.declared.ops.Bound.TheVariants.{Included}
use Rattle.sstable_blocks.specs.Prelude.{Entry, entries}
use Rattle.sstable_blocks.specs.BoundLaws.{count_none}
use Rattle.sstable_blocks.specs.RisingLaws.{counted}
use Rattle.sstable_blocks.specs.Scans.{is_before}
use Rattle.sst_calls.specs.Ranges.{from_key}
use Rattle.sst_calls.proofs.Lists.KeyPlaces.{given_none, given_some}
use Rattle.sst_calls.proofs.run_range.first_in.Goals as goal

pub returns-then-has-eq0-clause-before : goal.returns-then-has-eq0-clause-before
returns-then-has-eq0-clause-before c =
    let items = c.args.block.now.items in
    let none = given_none c.args.has c.args.from.now c.if-has-eq0.true in
    sym (ap (λ k. counted entries.key (is_before (from_key k)) items) none ∙ count_none items)

pub returns-clause-before : goal.returns-clause-before
returns-clause-before c =
    let some = given_some c.args.has c.args.from.now c.if-has-eq0.false in
    c.keys_before.ensures ∙ sym (ap (λ k. counted entries.key (is_before (from_key k)) c.args.block.now.items) some)

pub returns-clause-inside : goal.returns-clause-inside
returns-clause-inside c = omega (arith, c.keys_before.ensures, count_by-le-length (λ (x : Entry). is_before (Included c.args.from.now) (entries.key x)) c.args.block.now.items)
