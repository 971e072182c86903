use Rattle.std.proofs.Common.{◌≡◌, ◌∙◌, List, [], ◌++◌, reverse, sym, ap, arith, subst}
use Rattle.std.proofs.lemmas.List.{reverse-append}
use Rattle.sstable_blocks.specs.Prelude.{Entry}
use Rattle.sst_calls.specs.Batches.{Lists}
use Rattle.sst_calls.proofs.Lists.BlockWindows.{between, between_none, split_between}
use Rattle.sst_calls.proofs.Lists.Listed.{lists_more, lists_none}
use Rattle.sst_calls.proofs.run_scan.list_back.Goals as goal

pub loop-at-init : goal.loop-at-init
loop-at-init c =
    let items = c.args.part.now.block.items in
    let none : reverse (between items c.args.to c.args.to) ≡ [] = ap (λ (xs : List Entry). reverse xs) (between_none items c.args.to c.args.to (omega arith)) in
    record {
      range = (c.requires.range.0, omega arith);
      lists = subst (λ (xs : List Entry). Lists c.args.bytes.now c.args.below xs c.args.places.now c.args.places.now c.args.count.now c.args.count.now) (sym none)
          (lists_none c.args.bytes.now c.args.below c.args.places.now c.args.count.now c.requires.room);
    }

pub loop-at-preserved : goal.loop-at-preserved
loop-at-preserved c =
    let items = c.args.part.now.block.items in
    let now = c.loop-at.invariant in
    let at = c.loop-at.at in
    let next = c.begin_before-next.result in
    let begins = c.begin_before-next.ensures in
    let more : reverse (between items next c.args.to) ≡ reverse (between items at c.args.to) ++ reverse (between items next at) =
    ap (λ (xs : List Entry). reverse xs) (split_between items next at c.args.to (omega (arith, begins.range.1)) now.range.1) ∙ reverse-append (between items next at) (between items at c.args.to) in
    let both = lists_more c.args.bytes.now c.args.below (reverse (between items at c.args.to)) (reverse (between items next at)) c.args.places.now c.loop-at.places c.list_turned.new.places c.args.count.now c.loop-at.count c.list_turned.new.count now.lists c.list_turned.ensures in
    record {
      range = (begins.range.0, omega (arith, begins.range.1, now.range.1));
      lists = subst (λ (xs : List Entry). Lists c.args.bytes.now c.args.below xs c.args.places.now c.list_turned.new.places c.args.count.now c.list_turned.new.count) (sym more) both;
    }
