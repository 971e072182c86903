use Rattle.std.proofs.Common.{◌≡◌, ◌≤◌, ◌+◌, ◌-◌, length, drop, arith, sym, ◌∙◌, refl, true, false, is_lt, length-drop, add-one}
use Rattle.std.specs.Prelude.{Some, None}
use Rattle.sst_base.specs.Order.{key_cmp}
use Rattle.sst_block_core.specs.Kind.{item_cmp}
use Rattle.sst_block_core.specs.Entries.{entries}
use Rattle.sst_block_core.specs.Disorder.{disorder_from}
use Rattle.sst_block_core.proofs.Items.Disorder.{disorder-step, disorder-found, disorder-short, first-found, ordered-found, not_ordered-found, test-along}
use Rattle.sst_block_core.proofs.table.data_block.DataBlock.first_disorder.Goals as goal

pub returns-then-lt-clause-index : goal.returns-then-lt-clause-index
returns-then-lt-clause-index g c =
    let x = c.index-items-i-in-loop-i.result in
    let y = c.index-items-i.result in
    let less : is_lt (item_cmp entries y x) ≡ true = test-along key_cmp true y.key x.key c.key.result.now c.key-in-loop-i.result.now c.key.ensures.value c.key-in-loop-i.ensures.value c.if-lt.ensures in
    let found : Some c.loop-i.i ≡ disorder_from 0 c.args.items.now = sym (sym c.loop-i.invariant ∙ disorder-found c.args.items.now (c.loop-i.i - 1) c.loop-i.i x y (omega arith) (omega arith) c.index-items-i-in-loop-i.is c.index-items-i.is less) in
    found

pub returns-then-lt-clause-none : goal.returns-then-lt-clause-none
returns-then-lt-clause-none g c =
    let x = c.index-items-i-in-loop-i.result in
    let y = c.index-items-i.result in
    let less : is_lt (item_cmp entries y x) ≡ true = test-along key_cmp true y.key x.key c.key.result.now c.key-in-loop-i.result.now c.key.ensures.value c.key-in-loop-i.ensures.value c.if-lt.ensures in
    let found : Some c.loop-i.i ≡ disorder_from 0 c.args.items.now = sym (sym c.loop-i.invariant ∙ disorder-found c.args.items.now (c.loop-i.i - 1) c.loop-i.i x y (omega arith) (omega arith) c.index-items-i-in-loop-i.is c.index-items-i.is less) in
    (λ h. cc, λ o. absurd (not_ordered-found c.args.items.now c.loop-i.i found o))

pub returns-then-lt-clause-before : goal.returns-then-lt-clause-before
returns-then-lt-clause-before g c =
    let x = c.index-items-i-in-loop-i.result in
    let y = c.index-items-i.result in
    let less : is_lt (item_cmp entries y x) ≡ true = test-along key_cmp true y.key x.key c.key.result.now c.key-in-loop-i.result.now c.key.ensures.value c.key-in-loop-i.ensures.value c.if-lt.ensures in
    let found : Some c.loop-i.i ≡ disorder_from 0 c.args.items.now = sym (sym c.loop-i.invariant ∙ disorder-found c.args.items.now (c.loop-i.i - 1) c.loop-i.i x y (omega arith) (omega arith) c.index-items-i-in-loop-i.is c.index-items-i.is less) in
    (first-found c.args.items.now c.loop-i.i found).before c.loop-i.i (omega arith)

pub returns-then-lt-clause-at : goal.returns-then-lt-clause-at
returns-then-lt-clause-at g c =
    let x = c.index-items-i-in-loop-i.result in
    let y = c.index-items-i.result in
    let less : is_lt (item_cmp entries y x) ≡ true = test-along key_cmp true y.key x.key c.key.result.now c.key-in-loop-i.result.now c.key.ensures.value c.key-in-loop-i.ensures.value c.if-lt.ensures in
    let found : Some c.loop-i.i ≡ disorder_from 0 c.args.items.now = sym (sym c.loop-i.invariant ∙ disorder-found c.args.items.now (c.loop-i.i - 1) c.loop-i.i x y (omega arith) (omega arith) c.index-items-i-in-loop-i.is c.index-items-i.is less) in
    rw add-one ((first-found c.args.items.now c.loop-i.i found).at c.loop-i.i (omega arith))

pub loop-i-preserved : goal.loop-i-preserved
loop-i-preserved g c =
    let x = c.index-items-i-in-loop-i.result in
    let y = c.index-items-i.result in
    let e : c.loop-i.i + 1 - 1 ≡ c.loop-i.i = omega arith in
    let not_less : is_lt (item_cmp entries y x) ≡ false = test-along key_cmp false y.key x.key c.key.result.now c.key-in-loop-i.result.now c.key.ensures.value c.key-in-loop-i.ensures.value c.if-lt.ensures in
    rw e (sym (disorder-step c.args.items.now (c.loop-i.i - 1) c.loop-i.i x y (omega arith) (omega arith) c.index-items-i-in-loop-i.is c.index-items-i.is not_less) ∙ c.loop-i.invariant)

pub returns-clause-index : goal.returns-clause-index
returns-clause-index g c =
    let short : length (drop (c.loop-i.i - 1) c.args.items.now) ≤ 1 = omega (arith, length-drop (c.loop-i.i - 1) c.args.items.now) in
    let none : None ≡ disorder_from 0 c.args.items.now = sym (sym c.loop-i.invariant ∙ disorder-short (c.loop-i.i - 1) (drop (c.loop-i.i - 1) c.args.items.now) short) in
    none

pub returns-clause-none : goal.returns-clause-none
returns-clause-none g c =
    let short : length (drop (c.loop-i.i - 1) c.args.items.now) ≤ 1 = omega (arith, length-drop (c.loop-i.i - 1) c.args.items.now) in
    let none : None ≡ disorder_from 0 c.args.items.now = sym (sym c.loop-i.invariant ∙ disorder-short (c.loop-i.i - 1) (drop (c.loop-i.i - 1) c.args.items.now) short) in
    (λ h. ordered-found c.args.items.now none, λ o. refl)
