use Rattle.std.proofs.Common.{◌≡◌, ◌∙◌, List, [], ◌∷◌, length, drop, sym, ap, arith, subst, add-one, length-drop}
use Rattle.sstable_blocks.specs.Prelude.{Entry, IsParsedEntry, entry_of}
use Rattle.sstable_blocks.specs.BlockLaws.{took_some, next_none}
use Rattle.sst_calls.specs.Batches.{Lists}
use Rattle.sst_calls.proofs.Lists.BlockWindows.{between, between_none, between_push}
use Rattle.sst_calls.proofs.Lists.Listed.{lists_more, lists_none}
use Rattle.sst_calls.proofs.Lists.Listings.{first_from}
use Rattle.sst_calls.proofs.run_scan.list_front.Goals as goal

pub returns-then-from-to-clause-lists : goal.returns-then-from-to-clause-lists
returns-then-from-to-clause-lists c =
    let items = c.args.part.now.block.items in
    let none : between items c.args.from c.args.to ≡ [] = between_none items c.args.from c.args.to (omega arith) in
    subst (λ (xs : List Entry). Lists c.args.bytes.now c.args.below xs c.args.places.now c.args.places.now c.args.count.now c.args.count.now) (sym none)
    (lists_none c.args.bytes.now c.args.below c.args.places.now c.args.count.now c.requires.room)

pub loop-at-init : goal.loop-at-init
loop-at-init c =
    let items = c.args.part.now.block.items in
    let none : between items c.args.from c.args.from ≡ [] = between_none items c.args.from c.args.from (omega arith) in
    record {
      payload = c.entries_from-items.ensures.payload;
      left = c.entries_from-items.ensures.left;
      lists = subst (λ (xs : List Entry). Lists c.args.bytes.now c.args.below xs c.args.places.now c.args.places.now c.args.count.now c.args.count.now) (sym none)
          (lists_none c.args.bytes.now c.args.below c.args.places.now c.args.count.now c.requires.room);
    }

pub loop-at-preserved : goal.loop-at-preserved
loop-at-preserved c =
    let block = c.args.part.now.block in
    let now = c.loop-at.invariant in
    let i = c.loop-at.at in
    let x = entry_of block.payload c.in-Some.item in
    let left = sym now.left ∙ took_some entry_of IsParsedEntry _ _ block.payload c.in-Some.item (sym now.payload) c.in-Some.ensures.steps in
    let at = first_from block.items _ i x left in
    let both = lists_more c.args.bytes.now c.args.below (between block.items c.args.from i) (x ∷ []) c.args.places.now c.loop-at.places c.list_one.new.places c.args.count.now c.loop-at.count c.list_one.new.count now.lists c.list_one.ensures in
    record {
      payload = c.in-Some.ensures.steps.payload ∙ now.payload;
      left = sym (ap (λ k. drop k block.items) (add-one i) ∙ at.2);
      lists = subst (λ (xs : List Entry). Lists c.args.bytes.now c.args.below xs c.args.places.now c.list_one.new.places c.args.count.now c.list_one.new.count) (sym (between_push block.items c.args.from i x (omega arith) at.1)) both;
    }

pub returns-in_default-clause-all : goal.returns-in_default-clause-all
returns-in_default-clause-all c =
    let items = c.args.part.now.block.items in
    let none : drop c.loop-at.at items ≡ [] = sym c.loop-at.invariant.left ∙ (next_none c.loop-at.items.window c.next.new.self.window c.in_default.ensures.steps.step).0 in
    absurd (omega (arith, ap (λ (xs : List Entry). length xs) none, length-drop c.loop-at.at items, c.loop-at-test.true, c.requires.range.1))

pub returns-clause-lists : goal.returns-clause-lists
returns-clause-lists c =
    let end : c.loop-at.at ≡ c.args.to = omega (arith, c.loop-at-test.false) in
    subst (λ n. Lists c.args.bytes.now c.args.below (between c.args.part.now.block.items c.args.from n) c.args.places.now c.loop-at.places c.args.count.now c.loop-at.count) end c.loop-at.invariant.lists
