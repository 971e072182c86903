use Rattle.std.proofs.Common.{ℕ, ◌≡◌, ◌+◌, ◌%◌, ◌≤◌, [], None, length, arith, sym, ap, ◌∙◌, rules}
use Rattle.std.proofs.lemmas.List.{length_push}
use Rattle.sst_block_core.specs.Body.{items_at}
use Rattle.sst_block_core.proofs.Check.ItemReads.{read_rest, stop_rest}
use Rattle.sst_block_core.proofs.Check.PassSteps.{along_rest}
use Rattle.sst_block_core.proofs.table.block.check.pass.pass_rest.Goals as goal

pub loop-step-init : goal.loop-step-init
loop-step-init g c = record {
  inside = c.requires.inside;
  last = c.requires.last;
  goes = λ r pointers xs pos none k. record {
    items = xs;
    count = omega arith;
    along = k;
    besides = λ b taken. taken;
  };
}

pub keeps_order-requires-clause-version : goal.keeps_order-requires-clause-version
keeps_order-requires-clause-version g c = (c.version_of-version.ensures c.args.body.now c.in_ok-item.ensures.found).ranges

pub take-requires : goal.take-requires
take-requires g c = (c.version_of-version.ensures c.args.body.now c.in_ok-item.ensures.found).ranges

pub returns-in_err-item : goal.returns-in_err-item
returns-in_err-item g c = record {
  exact = λ r pointers xs pos none k.
      let goes = c.loop-step.invariant.goes r pointers xs pos none k in
      let place = goes.count in
      let test = c.loop-step-test.true in
      let other : (length goes.items % r ≡ 0 → ⊥) = λ z. none c.loop-step.step (omega arith) (ap (λ m. m % r) (sym place) ∙ z) in
      let stop : ((n : ℕ) → length xs + c.args.len ≤ n → items_at g.Item.BlockItem.kind r 0 n [] c.args.body.now ≡ None) = λ n long.
      stop_rest g.Item.BlockItem.kind r c.args.body.now goes.items (length goes.items) c.loop-step.at.offset _ goes.along.read other c.in_err-item.ensures.exact n (omega (arith, place, long, test)) in
      search (rules, stop);
}

pub loop-step-preserved : goal.loop-step-preserved
loop-step-preserved g c =
    let kind = g.Item.BlockItem.kind in
    let body = c.args.body.now in
    let e = c.in_ok-item.ensures in
    let item = g.Parsed.ParsedItem.item_of body c.in_ok-item.item in
    let version = c.version_of-version.ensures body e.found in
    record {
      inside = e.exact.0;
      last = version.ranges;
      goes = λ r pointers xs pos none k.
          let goes = c.loop-step.invariant.goes r pointers xs pos none k in
          let place = goes.count in
          let test = c.loop-step-test.true in
          let other : (length goes.items % r ≡ 0 → ⊥) = λ z. none c.loop-step.step (omega arith) (ap (λ m. m % r) (sym place) ∙ z) in
          let read = read_rest kind r body goes.items (length goes.items) c.loop-step.at.offset _ goes.along.read item c.in_ok-item.offset other e.exact.0 e.exact.1 in
          record {
            items = _;
            count = omega (arith, place, length_push goes.items item);
            along = along_rest kind g.Item.BlockItem.valid g.Item.Checkable.fits g.Item.BlockItem.is_kind r pos body pointers (λ i. let f = c.type_inv.body i in omega arith)
                goes.items c.args.base.now c.loop-step.at goes.along item c.version_of-version.result c.in_ok-item.offset c.fits.result c.keeps_order.result
                (let f = c.version_of-version.type_inv in omega arith) version (c.fits.ensures body) c.keeps_order.ensures other read;
            besides = λ b taken. c.take.ensures r b goes.items item pos (goes.besides b taken) ((λ h. cc h), (λ h. absurd (other h))) version.key;
          };
    }

pub returns : goal.returns
returns g c = record {
  exact = λ r pointers xs pos none k.
      let goes = c.loop-step.invariant.goes r pointers xs pos none k in
      let place = goes.count in
      let a = c.loop-step.auto.step-end in
      let f = c.loop-step-test.false in
      record { items = goes.items; count = omega (arith, place, a, f); along = goes.along; besides = goes.besides };
}
