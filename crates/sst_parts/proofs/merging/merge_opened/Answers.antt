use Rattle.std.proofs.Common.{ℕ, List, sym, subst, inl, inr}
use Rattle.std.proofs.lemmas.Result.{IfOk-weaker, IfErr-weaker}
use Rattle.sstable_blocks.specs.RunReading.{hashes}
use Rattle.sst_parts.specs.PartMerges.{IsPartBytes}
use Rattle.sst_parts.proofs.merging.merge_opened.Goals as goal

pub returns-in-Ok-clause-merged : goal.returns-in-Ok-clause-merged
returns-in-Ok-clause-merged g c =
    let h = hashes g.H.BlockHash.hash64 g.H.BlockHash.hash128 in
    let end = c.args.end.now in
    IfOk-weaker c.merge_head.result _ _ (λ f k part is. k part (subst (λ (xs : List ℕ). IsPartBytes h xs part end) (sym c.as_slice.ensures) is) (c.in-Ok.ensures.opened part end is)) c.merge_head.ensures.merged

pub returns-in-Ok-clause-cause : goal.returns-in-Ok-clause-cause
returns-in-Ok-clause-cause g c =
    let h = hashes g.H.BlockHash.hash64 g.H.BlockHash.hash128 in
    let end = c.args.end.now in
    IfErr-weaker c.merge_head.result _ _ (λ e k part is. elim (k part (subst (λ (xs : List ℕ). IsPartBytes h xs part end) (sym c.as_slice.ensures) is) (c.in-Ok.ensures.opened part end is)) [
      | inl p ↦ elim p [
        | inl m ↦ inl (inl m)
        | inr q ↦ elim q [
          | inl f ↦ absurd (f.1 (λ s. tt))
          | inr met ↦ absurd (c.in-Ok.ensures.sound part end is e met)
        ]
      ]
      | inr f ↦ f
    ]) c.merge_head.ensures.cause

pub returns-in-Err-clause-cause : goal.returns-in-Err-clause-cause
returns-in-Err-clause-cause g c = λ part is. inl (inl (c.in-Err.ensures.memory part c.args.end.now is))
