use Rattle.std.proofs.Common.{◌≡◌, ◌∙◌, ◌<◌, ◌-◌, ◌*◌, ◌/◌, List, [], length, drop, take, sym, ap, arith, subst, add-one, length-drop}
use Rattle.std.proofs.Math.Nat.{div-mul-le_self}
use Rattle.std.proofs.lemmas.List.{take_rest}
use Rattle.sstable_blocks.specs.Prelude.{Window, items_left, place_offset}
use Rattle.sstable_blocks.specs.BlockLaws.{took_some, next_none}
use Rattle.sst_calls.proofs.Lists.Listings.{first_from}
use Rattle.sst_calls.proofs.Lists.OneStep.{next_list}
use Rattle.sst_calls.proofs.items_from.items_from.Goals as goal

pub loop-at-init : goal.loop-at-init
loop-at-init g c =
    let kind = g.Item.BlockItem.kind in
    let block = c.args.intervals.list in
    let it = c.over-items.result in
    let fresh = c.over-items.ensures in
    let j = c.args.index / c.args.interval in
    let interval : c.args.interval ≡ block.interval = c.requires.interval in
    let list : it.window.list ≡ block.items = ap (λ (w : Window _). w.list) fresh.window in
    let value : c.head_offset-offset.result ≡ place_offset kind block.interval block.items (j * block.interval) = c.head_offset-offset.ensures.value in
    let inside : j * block.interval < length block.items = c.head_offset-offset.ensures.inside in
    let less : j * it.interval < length it.window.list = subst (λ n. j * n < length it.window.list) (sym fresh.interval) (subst (λ (xs : List _). j * block.interval < length xs) (sym list) inside) in
    let offset : c.head_offset-offset.result ≡ place_offset kind it.interval it.window.list (j * it.interval) =
    value ∙ ap (λ n. place_offset kind n block.items (j * n)) (sym fresh.interval) ∙ ap (λ (xs : List _). place_offset kind it.interval xs (j * it.interval)) (sym list) in
    let moved = c.set_lo_offset.ensures.window j less offset in
    let lo = j * it.interval in
    record {
      payload = c.set_lo_offset.ensures.payload ∙ fresh.payload;
      list = ap (λ (w : Window _). w.list) moved ∙ list;
      left = ap (λ (w : Window _). items_left w) moved
          ∙ ap (λ (w : Window _). take (w.hi - lo) (drop lo w.list)) fresh.window
          ∙ take_rest block.items lo
          ∙ ap (λ n. drop (j * n) block.items) (fresh.interval ∙ sym interval);
    }

pub loop-at-preserved : goal.loop-at-preserved
loop-at-preserved g c =
    let block = c.args.intervals.list in
    let now = c.loop-at.invariant in
    let i = c.loop-at._at in
    let gives = c.in-Some.ensures.steps in
    let left = sym now.left ∙ took_some g.Parsed.ParsedItem.item_of g.Parsed.ParsedItem.is_found _ _ block.payload c.in-Some.field-0 (sym now.payload) gives in
    record {
      payload = gives.payload ∙ now.payload;
      list = next_list _ _ _ gives.step ∙ now.list;
      left = sym (ap (λ k. drop k block.items) (add-one i) ∙ (first_from block.items _ i _ left).2);
    }

pub returns-in_default-clause-left : goal.returns-in_default-clause-left
returns-in_default-clause-left g c =
    let items = c.args.intervals.list.items in
    let i = c.loop-at._at in
    let none : drop i items ≡ [] = sym c.loop-at.invariant.left ∙ (next_none c.loop-at.items.window c.next.new.self.window c.in_default.ensures.steps.step).0 in
    absurd (omega (arith, ap (λ (xs : List _). length xs) none, length-drop i items, c.loop-at-test.true, c.requires.index))

pub returns-in_default-clause-list : goal.returns-in_default-clause-list
returns-in_default-clause-list g c = next_list _ _ _ c.in_default.ensures.steps.step ∙ c.loop-at.invariant.list

pub returns-clause-left : goal.returns-clause-left
returns-clause-left g c =
    let end : c.loop-at._at ≡ c.args.index = omega (arith, c.loop-at-test.false, div-mul-le_self c.args.index c.args.interval) in
    c.loop-at.invariant.left ∙ ap (λ n. drop n c.args.intervals.list.items) end
