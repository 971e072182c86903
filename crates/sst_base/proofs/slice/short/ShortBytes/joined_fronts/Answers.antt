use Rattle.std.proofs.Common.{◌++◌, ◌∙◌, arith}
use Rattle.sst_base.proofs.Strings.ShortSlices.{cut_front}
use Rattle.sst_base.proofs.slice.short.ShortBytes.joined_fronts.Goals as goal

pub returns-in-Some-Some : goal.returns-in-Some-Some
returns-in-Some-Some c =
    let left = cut_front c.args.left.now c.in-Some-Some.left.now c.args.left_len (omega (arith, c.requires.short)) c.in-Some-Some.ensures.cases in
    let right = cut_front c.args.right.now c.in-Some-Some.right.now c.args.right_len (omega (arith, c.requires.short)) c.in-Some-Some.ensures'.cases in
    c.joined_chunks.ensures ∙ (λ i. left i ++ right i)
