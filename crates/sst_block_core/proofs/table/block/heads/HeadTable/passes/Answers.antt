use Rattle.std.proofs.Common.{◌≡◌, ◌∙◌, sym, ap, refl, Some, nat_lt, Bool, true, false, if◌then◌else◌, arith}
use mir.Val.{bool_byte}
use Rattle.std.proofs.lemmas.Option.{slice_get-get_or}
use Rattle.std.proofs.lemmas.List.{get_or_read}
use Rattle.sst_block_core.specs.declared.table.block.heads.Head.{Head}
use Rattle.sst_block_core.proofs.Search.Cuts.{some_some}
use Rattle.sst_block_core.proofs.Heads.Fronts.{half_small}
use Rattle.sst_block_core.proofs.Heads.TableSearches.{told_apart, told_tied, number_small}
use Rattle.sst_block_core.proofs.table.block.heads.HeadTable.passes.Goals as goal

-- a truth value as a byte
byte_of : (b : Bool) → bool_byte b ≡ (if b then 1 else 0)
byte_of true = refl
byte_of false = refl

pub is_below-requires-clause-left : goal.is_below-requires-clause-left
is_below-requires-clause-left c =
    let table = rw (← c.self.view_is) at c.requires.table in
    let inside = rw (← c.self.view_is) at c.requires.inside in
    let count = table.count in
    let own = get_or_read _ c.args.j c.index-own.result.now (omega (arith, count, inside)) c.index-own.ensures 0 in
    number_small c.args.payload.now c.args.bound.now.needle.now c.args.bound.now.from _ table c.args.j c.index-own.result.now inside
    (λ k. let h = c.type_inv.payload k in omega (arith, h)) own

pub is_below-requires-clause-right : goal.is_below-requires-clause-right
is_below-requires-clause-right c =
    let small = half_small c.args.rest.now (λ k. let h = c.type_inv.rest k in omega (arith, h)) in
    omega (arith, c.requires.number, small)

pub compare_rest-requires-clause-undecided : goal.compare_rest-requires-clause-undecided
compare_rest-requires-clause-undecided c =
    let table = rw (← c.self.view_is) at c.requires.table in
    let inside = rw (← c.self.view_is) at c.requires.inside in
    let count = table.count in
    let own = get_or_read _ c.args.j c.index-own.result.now (omega (arith, count, inside)) c.index-own.ensures 0 in
    rw (← c.self.view_is) (omega (arith, own, c.requires.number, c.if-own-number.false))

pub returns-then-own-number-clause-tells : goal.returns-then-own-number-clause-tells
returns-then-own-number-clause-tells c =
    let table = rw (← c.self.view_is) at c.requires.table in
    let inside = rw (← c.self.view_is) at c.requires.inside in
    let behind = rw (← c.self.view_is) at c.requires.rest in
    let count = table.count in
    let own = get_or_read _ c.args.j c.index-own.result.now (omega (arith, count, inside)) c.index-own.ensures 0 in
    record {
      answer = nat_lt c.index-own.result.now c.args.number;
      tells = rw (← c.self.view_is) (told_apart c.args.payload.now c.args.bound.now.needle.now c.args.bound.now.from _ table c.args.rest.now behind c.args.j c.index-own.result.now c.args.number inside
          (λ k. let h = c.type_inv.payload k in omega (arith, h)) (λ k. let h = c.type_inv.rest k in omega (arith, h)) own c.requires.number c.if-own-number.true);
      is = c.is_below.ensures;
    }

pub returns-clause-tells : goal.returns-clause-tells
returns-clause-tells c =
    let table = rw (← c.self.view_is) at c.requires.table in
    let inside = rw (← c.self.view_is) at c.requires.inside in
    let behind = rw (← c.self.view_is) at c.requires.rest in
    let rest = rw (← c.self.view_is) at c.compare_rest.ensures in
    let there = slice_get-get_or _ c.args.j c.index.result.now inside ∙ ap (λ g. Some g) (sym c.index.ensures) in
    record {
      answer = c.passes_order.result;
      tells = rw (← c.self.view_is) (rw c.passes_order.ensures (told_tied c.args.payload.now c.args.bound.now.needle.now c.args.bound.now.from _ table c.args.rest.now behind c.args.j c.compare_rest.result c.index.result.now.seqno inside
          (λ h at. (rest h at, ap (λ (g : Head). g.seqno) (some_some (sym there ∙ at))))));
      is = c.from.ensures ∙ byte_of c.passes_order.result;
    }
