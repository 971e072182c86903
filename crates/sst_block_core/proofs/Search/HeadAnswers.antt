-- Where a predicate over heads changes from true to false.
use Rattle.std.proofs.Common.{◌≡◌, ℕ, zero, suc, ◌*◌, ◌<◌, ◌≤◌, inl, inr, Bool, List, length, arith, Some}
use Rattle.std.specs.Borrow.{Bor}
use Rattle.std.specs.List.{slice_get}
use Rattle.std.proofs.lemmas.Nat.{mul-le}
use Rattle.std.proofs.lemmas.Option.{slice_get_cases}
use Rattle.sst_block_core.specs.Kind.{Kind}
use Rattle.sst_block_core.specs.Intervals.{Answered}

-- a predicate's result at a head that was read
pub answered_head : {X : Type 0} (kind : Kind X) (post : Bor (List ℕ) → ℕ → Bool → Type 0) (r : ℕ) (items : List X) (j : ℕ) (b : Bool) → j * r < length items → (found : Bor (List ℕ) × ℕ)
    → ((x : X) → slice_get items (j * r) ≡ Some x → (found.0.now ≡ kind.key x) × (found.1 ≡ kind.seqno x)) → post found.0 found.1 b → Answered kind post r items j b
answered_head kind post r items j b h found is got = elim (slice_get_cases items (j * r)).1 [
  | inl at ↦ let e = is at.0 at.2 in record { item = at.0; there = at.2; key = found.0; is = e.0; got = rw e.1 at got }
  | inr past ↦ absurd (omega (arith, h, past.0))
]

pub times_upto : (j k n : ℕ) → j ≤ k → j * n ≤ k * n
times_upto j k n h = mul-le j n k n h (omega arith)

-- where there are items there is a head
pub some_heads : (n count r : ℕ) → 0 < n → n ≤ count * r → 0 < count
some_heads n zero r some all = omega arith
some_heads n (suc count) r some all = omega arith
