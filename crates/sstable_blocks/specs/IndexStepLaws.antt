-- What is counted of searches in an index.
use Rattle.std.proofs.Common.{◌≡◌, ℕ, ◌+◌, ◌%◌, ◌≤◌, arith, cond, eqb, sym, ◌∙◌, ap, inl, inr}
use Rattle.std.proofs.lemmas.Bool.{cases_Bool}
use Rattle.std.proofs.lemmas.Nat.{mod_below}
use Rattle.sst_base.specs.Counted.{Counted, CountsExactly}
use Rattle.sst_block_core.specs.Candidates.{scan_cost}
use Rattle.sstable_blocks.specs.ReadCosts.{CountsHandle, handles_most}

-- a handle by its index: no more are decoded than an interval has
pub counts_handle : (old new : Counted) (q i : ℕ) → 1 ≤ q → CountsExactly old new 0 (i % q + 1) → CountsHandle old new q i
counts_handle old new q i some counts = record { exact = counts; most = (let less = mod_below i q (omega (arith, some)) in omega (arith, less)) }

-- the most handles: those of a scan, and one
pub handles_by_scan : (q : ℕ) → handles_most q ≡ scan_cost q + 1
handles_by_scan q = elim (cases_Bool (eqb q 1)) [
  | inl one ↦ ap (λ b. cond b 1 (q + 1)) one ∙ ap (λ b. cond b 0 q + 1) (sym one)
  | inr more ↦ ap (λ b. cond b 1 (q + 1)) more ∙ ap (λ b. cond b 0 q + 1) (sym more)
]
