use Rattle.std.proofs.Common.{◌≡◌, ◌∙◌, sym, ap, arith}
use Rattle.sstable_blocks.specs.Prelude.{entries}
use Rattle.sstable_blocks.specs.Blocks.{joined}
use Rattle.sstable_blocks.specs.BoundLaws.{count_none}
use Rattle.sstable_blocks.specs.RisingLaws.{counted}
use Rattle.sstable_blocks.specs.Scans.{is_before}
use Rattle.sst_calls.specs.Ranges.{from_key}
use Rattle.sst_calls.specs.Windows.{blocks_in, count_before}
use Rattle.sst_calls.proofs.Lists.KeyPlaces.{given_none, given_some}
use Rattle.sst_calls.proofs.run_range.first_of.Goals as goal

pub returns-then-has-eq0-clause-before : goal.returns-then-has-eq0-clause-before
returns-then-has-eq0-clause-before c =
    let blocks = blocks_in c.args.bytes.now c.args.handles.now in
    let none = given_none c.args.has c.args.from.now c.if-has-eq0.true in
    let zero : count_before blocks 0 0 ≡ 0 = omega arith in
    zero ∙ sym (ap (λ k. counted entries.key (is_before (from_key k)) (joined blocks)) none ∙ count_none (joined blocks))

pub returns-clause-before : goal.returns-clause-before
returns-clause-before c =
    let blocks = blocks_in c.args.bytes.now c.args.handles.now in
    let some = given_some c.args.has c.args.from.now c.if-has-eq0.false in
    c.place_of.ensures.before ∙ sym (ap (λ k. counted entries.key (is_before (from_key k)) (joined blocks)) some)
