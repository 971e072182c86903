use Rattle.std.proofs.Common.{◌≡◌, ◌+◌, [], length, drop, Some, None, refl, arith, rules, sym, ap, ◌∙◌, subst}
use Rattle.sst_block_core.specs.Body.{items_at}
use Rattle.sst_block_core.specs.Passes.{last_passed, HasNoHead}
use Rattle.sst_block_core.proofs.Check.PassSteps.{along_none, head_place, no_heads, last_ranges, not_filled, read_whole, read_to_end}
use Rattle.sst_block_core.proofs.table.block.check.pass.pass_over.Goals as goal

pub loop-place-init : goal.loop-place-init
loop-place-init g c = record {
  upto = omega arith;
  row = λ h. omega arith;
  number = omega arith;
  goes = (
    record { 0 = 0; 1 = 0 },
    record {
      items = [];
      count = refl;
      along = along_none g.Item.BlockItem.kind g.Item.BlockItem.valid g.Item.Checkable.fits g.Item.BlockItem.is_kind c.args.restart_interval c.requires.some c.args.body.now c.args.pointers.now
          (λ i. let f = c.type_inv.body i in omega arith) c.least.result c.least.ensures;
      besides = λ b start. start;
    },
  );
}

pub pass_head-requires-clause-number : goal.pass_head-requires-clause-number
pass_head-requires-clause-number g c =
    let p = head_place c.args.restart_interval c.loop-place.number c.loop-place.place c.requires.some (c.loop-place.invariant.row c.loop-place-test.true) in
    let k = c.requires.pointers c.loop-place.place c.loop-place-test.true in
    omega (arith, k, p.1)

pub pass_head-requires-clause-inside : goal.pass_head-requires-clause-inside
pass_head-requires-clause-inside g c = c.loop-place.invariant.goes.1.along.read.inside

pub pass_head-requires-clause-last : goal.pass_head-requires-clause-last
pass_head-requires-clause-last g c =
    let k = c.loop-place.invariant.goes.1 in
    last_ranges g.Item.BlockItem.kind c.args.body.now c.loop-place.at.last (last_passed k.items) k.along.last_is

pub pass_rest-requires-clause-base : goal.pass_rest-requires-clause-base
pass_rest-requires-clause-base g c = c.in_ok-base.ensures.base

pub pass_rest-requires-clause-inside : goal.pass_rest-requires-clause-inside
pass_rest-requires-clause-inside g c =
    let goes = c.loop-place.invariant.goes in
    let head = c.in_ok-base.ensures.exact c.args.restart_interval goes.1.items goes.0 c.requires.some (goes.1.count ∙ c.loop-place.invariant.row c.loop-place-test.true) goes.1.along in
    head.along.read.inside

pub pass_rest-requires-clause-last : goal.pass_rest-requires-clause-last
pass_rest-requires-clause-last g c =
    let goes = c.loop-place.invariant.goes in
    let head = c.in_ok-base.ensures.exact c.args.restart_interval goes.1.items goes.0 c.requires.some (goes.1.count ∙ c.loop-place.invariant.row c.loop-place-test.true) goes.1.along in
    last_ranges g.Item.BlockItem.kind c.args.body.now c.in_ok-base.head.last (last_passed head.items) head.along.last_is

pub loop-place-preserved : goal.loop-place-preserved
loop-place-preserved g c =
    let r = c.args.restart_interval in
    let goes = c.loop-place.invariant.goes in
    let k = goes.1 in
    let test = c.loop-place-test.true in
    let row = c.loop-place.invariant.row test in
    let n = c.loop-place.invariant.number in
    let len = c.rest_len-len.ensures in
    let head = c.in_ok-base.ensures.exact r k.items goes.0 c.requires.some (k.count ∙ row) k.along in
    let place : c.loop-place.place + 1 ≡ length head.items = sym (head.count ∙ ap (λ m. m + 1) k.count) in
    let none : HasNoHead r (length head.items) c.rest_len-len.result =
    subst (λ m. HasNoHead r m c.rest_len-len.result) place (no_heads r c.loop-place.number c.loop-place.place c.rest_len-len.result c.requires.some row len.few) in
    let rest = c.in_ok-at.ensures.exact r c.args.pointers.now head.items c.requires.some none head.along in
    let count = rest.count in
    let inside = len.inside in
    record {
      upto = omega (arith, inside, test);
      row = λ more. let f = len.full (omega (arith, more)) in omega (arith, row, f);
      number = omega (arith, n);
      goes = (
        c.in_ok-base.base,
        record {
          items = rest.items;
          count = omega (arith, count, place);
          along = rest.along;
          besides = λ b start. rest.besides b (head.besides b (k.besides b start));
        },
      );
    }

pub returns-in_err-base-clause-exact : goal.returns-in_err-base-clause-exact
returns-in_err-base-clause-exact g c =
    let goes = c.loop-place.invariant.goes in
    let k = goes.1 in
    let test = c.loop-place-test.true in
    let place = k.count in
    let stop : (items_at g.Item.BlockItem.kind c.args.restart_interval 0 c.args.count [] c.args.body.now ≡ None) =
    c.in_err-base.ensures.exact c.args.restart_interval k.items goes.0 c.requires.some (k.count ∙ c.loop-place.invariant.row test) k.along c.args.count (omega (arith, place, test)) in
    search (rules, stop)

pub returns-in_err-at-clause-exact : goal.returns-in_err-at-clause-exact
returns-in_err-at-clause-exact g c =
    let r = c.args.restart_interval in
    let goes = c.loop-place.invariant.goes in
    let k = goes.1 in
    let test = c.loop-place-test.true in
    let row = c.loop-place.invariant.row test in
    let len = c.rest_len-len.ensures in
    let head = c.in_ok-base.ensures.exact r k.items goes.0 c.requires.some (k.count ∙ row) k.along in
    let place : c.loop-place.place + 1 ≡ length head.items = sym (head.count ∙ ap (λ m. m + 1) k.count) in
    let none : HasNoHead r (length head.items) c.rest_len-len.result =
    subst (λ m. HasNoHead r m c.rest_len-len.result) place (no_heads r c.loop-place.number c.loop-place.place c.rest_len-len.result c.requires.some row len.few) in
    let inside = len.inside in
    let stop : (items_at g.Item.BlockItem.kind r 0 c.args.count [] c.args.body.now ≡ None) =
    c.in_err-at.ensures.exact r c.args.pointers.now head.items c.requires.some none head.along c.args.count (omega (arith, place, inside, test)) in
    search (rules, stop)

pub returns-then-at-body-clause-exact : goal.returns-then-at-body-clause-exact
returns-then-at-body-clause-exact g c =
    let k = c.loop-place.invariant.goes.1 in
    let count = k.count in
    let end : length k.items ≡ c.args.count = let i = c.loop-place.invariant.upto in let f = c.loop-place-test.false in omega arith in
    not_filled g.Item.BlockItem.kind c.args.restart_interval c.args.count c.args.body.now k.items c.loop-place.at.offset
    (subst (λ n. items_at g.Item.BlockItem.kind c.args.restart_interval 0 n [] c.args.body.now ≡ Some (k.items, drop c.loop-place.at.offset c.args.body.now)) end k.along.read.reads) k.along.read.inside c.if-at-body.true

pub returns-clause-exact : goal.returns-clause-exact
returns-clause-exact g c =
    let k = c.loop-place.invariant.goes.1 in
    let count = k.count in
    let end : length k.items ≡ c.args.count = let i = c.loop-place.invariant.upto in let f = c.loop-place-test.false in omega arith in
    record {
      items = k.items;
      reads = read_to_end g.Item.BlockItem.kind c.args.restart_interval c.args.count c.args.body.now k.items c.loop-place.at.offset
          (subst (λ n. items_at g.Item.BlockItem.kind c.args.restart_interval 0 n [] c.args.body.now ≡ Some (k.items, drop c.loop-place.at.offset c.args.body.now)) end k.along.read.reads) c.if-at-body.false;
      judged = k.along.judged;
    }

pub returns-clause-taken : goal.returns-clause-taken
returns-clause-taken g c = λ b xs start whole.
    let k = c.loop-place.invariant.goes.1 in
    let count = k.count in
    let end : length k.items ≡ c.args.count = let i = c.loop-place.invariant.upto in let f = c.loop-place-test.false in omega arith in
    let same = read_whole g.Item.BlockItem.kind c.args.restart_interval c.args.count c.args.body.now k.items xs _
    (subst (λ n. items_at g.Item.BlockItem.kind c.args.restart_interval 0 n [] c.args.body.now ≡ Some (k.items, drop c.loop-place.at.offset c.args.body.now)) end k.along.read.reads) whole in
    subst (λ ys. g.Sink.KeySink.has_taken c.args.restart_interval b c.args.body.now c.loop-place.sink ys) same (k.besides b start)
