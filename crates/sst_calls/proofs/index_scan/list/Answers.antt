use Rattle.std.proofs.Common.{◌≡◌, ◌∙◌, List, [], length, drop, take, sym, ap, arith, subst, add-one, length-drop}
use Rattle.sstable_blocks.specs.Prelude.{Handle, IsParsedHandle, handles, items_in, parsed_handle}
use Rattle.sstable_blocks.specs.BlockLaws.{took_some, next_none}
use Rattle.sst_calls.specs.IndexScans.{IsHandlePlace}
use Rattle.sst_calls.specs.Listing.{AreAt}
use Rattle.sst_calls.proofs.Lists.Listed.{none_listed}
use Rattle.sst_calls.proofs.Lists.Listings.{first_from, one_more_listed}
use Rattle.sst_calls.proofs.index_scan.list.Goals as goal

pub returns-then-count-eq0 : goal.returns-then-count-eq0
returns-then-count-eq0 c =
    let p = c.args.payload.now in
    let rest = drop c.args.from (items_in handles p) in
    subst (λ n. AreAt (IsHandlePlace p) (take n rest) c.args.places.now c.args.places.now) (sym c.if-count-eq0.true) (none_listed (IsHandlePlace p) c.args.places.now)

pub loop-at-init : goal.loop-at-init
loop-at-init c =
    let from = c.handles_from-items.ensures in
    record { payload = from.payload; left = from.left; listed = none_listed (IsHandlePlace c.args.payload.now) c.args.places.now }

pub loop-at-preserved : goal.loop-at-preserved
loop-at-preserved c =
    let p = c.args.payload.now in
    let rest = drop c.args.from (items_in handles p) in
    let now = c.loop-at.invariant in
    let i = c.loop-at.at in
    let gives = c.in-Some.ensures.steps in
    let left = sym now.left ∙ took_some parsed_handle IsParsedHandle _ _ p c.in-Some.item (sym now.payload) gives in
    let at = first_from rest _ i _ left in
    record {
      payload = gives.payload ∙ now.payload;
      left = sym (ap (λ k. drop k rest) (add-one i) ∙ at.2);
      listed = one_more_listed (IsHandlePlace p) rest c.args.places.now c.loop-at.places i _ _ at.0 (omega (arith, c.requires.room, c.loop-at-test.true)) at.1 c.place_of.ensures now.listed;
    }

pub returns-in_default : goal.returns-in_default
returns-in_default c =
    let items = items_in handles c.args.payload.now in
    let rest = drop c.args.from items in
    let none : drop c.loop-at.at rest ≡ [] = sym c.loop-at.invariant.left ∙ (next_none c.loop-at.items.window c.next.new.self.window c.in_default.ensures.steps.step).0 in
    absurd (omega (arith, ap (λ (xs : List Handle). length xs) none, length-drop c.loop-at.at rest, length-drop c.args.from items, c.loop-at-test.true, c.requires.inside))

pub returns : goal.returns
returns c =
    let p = c.args.payload.now in
    let end : c.loop-at.at ≡ c.args.count = omega (arith, c.loop-at-test.false) in
    subst (λ n. AreAt (IsHandlePlace p) (take n (drop c.args.from (items_in handles p))) c.args.places.now c.loop-at.places) end c.loop-at.invariant.listed
