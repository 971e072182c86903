-- What an iteration from the back costs.
use Rattle.std.proofs.Common.{◌≡◌, ℕ, zero, suc, ◌+◌, ◌-◌, ◌*◌, ◌/◌, ◌%◌, ◌<◌, ◌≤◌, Bool, true, false, cond, eqb, refl, arith}
use Rattle.std.specs.Prelude.{◌||◌}
use Rattle.std.proofs.Math.Nat.{mod-add-div', le-div_iff_mul-le, div-mul-le_self, mul-le-mul_right}
use Rattle.std.proofs.Math.Bool.{or-true}
use Rattle.std.proofs.lemmas.Bool.{ne_eqb, eq-eqb}
use Rattle.std.proofs.lemmas.Bool.Decides.{nat_tests}
use Rattle.sst_block_core.specs.Backs.{first_of, back_cost}
use Rattle.sst_block_core.specs.Walks.{back_walk_cost}
use Rattle.sst_block_core.specs.BackLaws.{first_of_is}

-- an upper bound of the entries that the steps from the back decode, from an index down to 0
unfoldable back_total_cost : ℕ → ℕ → ℕ → ℕ
back_total_cost r n hi = hi + cond (eqb (hi % r) 0 || eqb hi n) hi (first_of r hi)

rest_upto : (b c : Bool) (m k f : ℕ) → (b ≡ true → m ≤ f) → c ≡ false → k ≤ f → cond (b || c) m k ≤ f
rest_upto true c m k f h e l = h refl
rest_upto false true m k f h e l = cc
rest_upto false false m k f h e l = l

-- an index that begins an interval
pub first_head : (r m : ℕ) → m % r ≡ 0 → m / r * r ≡ m
first_head r m h = let d = mod-add-div' m r in omega (arith, d, h)

pays : (b : Bool) (hi f t : ℕ) → 0 < hi → f ≤ hi → t ≤ f → (1 + cond b (hi - f) 0) + ((hi - 1) + t) ≤ hi + cond b hi f
pays true hi f t h g l = omega arith
pays false hi f t h g l = omega arith

eqb_zero : (m : ℕ) → eqb m 0 ≡ true → m ≡ 0
eqb_zero m e = grind (arith, nat_tests)

-- the cost of one step
back_step_cost : (r n hi : ℕ) → 0 < r → 0 < hi → hi ≤ n → (1 + back_cost r n hi) + back_total_cost r n (hi - 1) ≤ back_total_cost r n hi
unfolding back_cost back_total_cost
back_step_cost r n hi pos some inside =
    let is = first_of_is r hi in
    let prev = first_of_is r (hi - 1) in
    let mono : (hi - 1 - 1) / r * r ≤ (hi - 1) / r * r = mul-le-mul_right r ((le-div_iff_mul-le pos).1 (let d = div-mul-le_self (hi - 1 - 1) r in omega (arith, d))) in
    let d = mod-add-div' (hi - 1) r in
    pays (eqb (hi % r) 0 || eqb hi n) hi (first_of r hi) _ some (omega (arith, is, d))
    (rest_upto (eqb ((hi - 1) % r) 0) (eqb (hi - 1) n) (hi - 1) (first_of r (hi - 1)) (first_of r hi)
    (λ e. let z = eqb_zero ((hi - 1) % r) e in let f = first_head r (hi - 1) z in omega (arith, is, f))
    (ne_eqb (hi - 1) n (λ e. omega (arith, e, some, inside)))
    (omega (arith, is, prev, mono)))

-- the cost of the whole iteration
back_whole_cost : (r n : ℕ) → back_total_cost r n n ≡ 2 * n
unfolding back_total_cost
back_whole_cost r n = rw (eq-eqb n n refl, or-true (eqb (n % r) 0)) (omega arith)

walk_upto : (r n hi : ℕ) → 0 < r → hi ≤ n → back_walk_cost r n hi ≤ back_total_cost r n hi
unfolding back_walk_cost
walk_upto r n zero pos h = omega arith
walk_upto r n (suc hi) pos h =
    let rest = walk_upto r n hi pos (omega arith) in
    let one : suc hi - 1 ≡ hi = omega arith in
    let step = rw one at (back_step_cost r n (suc hi) pos (omega arith) h) in
    omega (arith, rest, step)

-- no entry is decoded more than twice
pub back_walk_twice : (r n : ℕ) → 0 < r → back_walk_cost r n n ≤ 2 * n
back_walk_twice r n pos =
    let all = walk_upto r n n pos (omega arith) in
    let whole = back_whole_cost r n in
    omega (arith, all, whole)
