-- Footers of parts.
use Rattle.std.proofs.Common.{◌≡◌, ℕ, ◌-◌, ◌≤◌, List, length, drop, cond, ltb, refl, arith, sym, ◌∙◌, ap, length-drop, inl, inr, Result, Ok, Err}
use Rattle.std.proofs.lemmas.Bool.{cases_Bool, ltb-false}
use Rattle.sstable_blocks.specs.Results.{Error, Truncated}
use Rattle.sstable_blocks.specs.Footer.{table_handles, footer_handles, parts_at, filter_of}
use Rattle.sstable_blocks.specs.declared.run.RunHandles.{RunHandles}

-- a file with a footer has at least its 24 bytes
pub footer_some : (p : List ℕ) (x : RunHandles) → table_handles p ≡ Ok x → 24 ≤ length p
unfolding table_handles footer_handles
footer_some p x e =
    let rest = drop (length p - 24) p in
    let l = length-drop (length p - 24) p in
    elim (cases_Bool (ltb (length rest) 24)) [
      | inl short ↦ (
          let found : Result RunHandles Error = Ok (record { index = parts_at rest; filter = filter_of (parts_at (drop 12 rest)) }) in
          let none : ◌≡◌ {A = Result RunHandles Error} (Err Truncated) (Ok x) = sym (ap (λ b. cond b (Err Truncated) found) short) ∙ e in
          cc)
      | inr long ↦ (let n : 24 ≤ length rest = ltb-false (length rest) 24 long in omega arith)
    ]

-- it is read in its last 24 bytes
pub footer_at : (p : List ℕ) → table_handles p ≡ footer_handles (drop (length p - 24) p)
unfolding table_handles
footer_at p = refl
