use Rattle.std.proofs.Common.{◌≡◌, ◌∙◌, ◌+◌, ◌-◌, List, ◌++◌, length, take, drop, reverse, sym, ap, arith, subst}
use Rattle.std.proofs.lemmas.List.{drop-drop}
use Rattle.sst_calls.specs.Batches.{Lists}
use Rattle.sst_calls.specs.declared.data_block.SstPlace.{SstPlace}
use Rattle.sst_calls.proofs.Lists.BlockWindows.{between}
use Rattle.sst_calls.proofs.Lists.Reversed.{lists_turned, turned, whole_listed}
use Rattle.sst_calls.proofs.run_scan.list_turned.Goals as goal

pub returns : goal.returns
returns c =
    let items = c.args.part.now.block.items in
    let old = c.args.places.now in
    let mid = c.list_front.new.places in
    let a = c.args.count.now in
    let b = c.list_front.new.count in
    let r = c.list_front.ensures in
    let back = c.reverse.new.self in
    let end = whole_listed c.args.below items c.args.from c.list_front.result c.args.to a b (length old) r.range.0 r.range.1 c.requires.room r.all r.lists.count in
    let lists = subst (λ n. Lists c.args.bytes.now c.args.below (between items c.args.from n) old mid a b) end r.lists in
    let listed = lists_turned c.args.bytes.now c.args.below (between items c.args.from c.args.to) old mid a b lists in
    let whole : a + (b - a) ≡ b = omega (arith, r.lists.count) in
    let rest : drop (b - a) (drop a mid) ≡ drop b mid = drop-drop (b - a) a mid ∙ ap (λ n. drop n mid) whole in
    let after : back ≡ reverse (take (b - a) (drop a mid)) = c.reverse.ensures.after in
    let same : turned a b mid ≡ take a mid ++ (back ++ drop (b - a) (drop a mid)) =
    ap (λ (v : List SstPlace). take a mid ++ (v ++ drop b mid)) (sym after) ∙ ap (λ (v : List SstPlace). take a mid ++ (back ++ v)) (sym rest) in
    subst (λ v. Lists c.args.bytes.now c.args.below (reverse (between items c.args.from c.args.to)) old v a b) same listed
