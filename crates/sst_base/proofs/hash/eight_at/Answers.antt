use Rattle.std.proofs.Common.{◌≤◌, ◌∙◌, ap, sym, subst, take, length, arith, length-drop}
use Rattle.std.specs.List.{fold}
use Rattle.sst_base.specs.Bytes.{IsBytes}
use Rattle.sst_base.specs.Hashes.{times31}
use Rattle.sst_base.specs.BytesLaws.{IsBytes-drop}
use Rattle.sst_base.proofs.hash.eight_at.Goals as goal

pub returns : goal.returns
returns c =
    let bytes = c.args.bytes.now in
    let rest = c.split_at.result.1.now in
    let back = c.split_at.ensures.back in
    let small : IsBytes rest = subst IsBytes (sym back) (IsBytes-drop c.args.at bytes (λ i. let h = c.type_inv.bytes i in omega arith)) in
    let long : 8 ≤ length rest = let l = ap length back in omega (arith, l, length-drop c.args.at bytes, c.requires) in
    c.word_hash.ensures rest small long c.read_u64.ensures ∙ ap (λ xs. fold times31 0 (take 8 xs)) back
