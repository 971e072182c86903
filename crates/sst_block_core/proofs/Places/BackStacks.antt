-- The back of a window: its stack of places.
use Rattle.std.proofs.Common.{◌≡◌, ℕ, ◌+◌, ◌-◌, ◌*◌, ◌/◌, ◌%◌, ◌<◌, ◌≤◌, inl, inr, Bool, true, eqb, List, [], ◌∷◌, ◌++◌, length, min, refl, sym, ap, subst, ◌∙◌, arith}
use Rattle.std.proofs.Math.Nat.{mul-mod_left, add-mul-mod_self_right, mod-add-div', mod-eq_of_lt}
use Rattle.std.proofs.Math.Bool.{or-true}
use Rattle.std.proofs.lemmas.Bool.{cases_lt, eq-eqb}
use Rattle.std.proofs.lemmas.Bool.Decides.{nat_tests}
use Rattle.std.proofs.lemmas.List.{length_push, get_or_push, get_or_append_left}
use Rattle.sst_block_core.specs.Kind.{Kind}
use Rattle.sst_block_core.specs.Scan.{Listed, IsFormOffset, IsPlace}
use Rattle.sst_block_core.specs.Backs.{first_of, ArePlaces, IsBack, back_cost}
use Rattle.sst_block_core.specs.BackLaws.{first_of_is, first_below}
use Rattle.sst_block_core.specs.declared.table.block.place.Place.{Place}

-- a place of an interval has its distance from the head as its remainder
pub mod_in_interval : (i k r : ℕ) → i % r ≡ 0 → k < r → (i + k) % r ≡ k
mod_in_interval i k r head below =
    let e : i + k ≡ k + i / r * r = let d = mod-add-div' i r in omega (arith, d, head) in
    ap (λ n. n % r) e ∙ add-mul-mod_self_right k (i / r) r ∙ mod-eq_of_lt below

module _ {X : Type 0} (kind : Kind X) (list : Listed X) where
  -- a head's place is a place with any base
  pub any_base : (at other : Place) → other.index ≡ at.index → other.offset ≡ at.offset → other.phase ≡ 0 → at.phase ≡ 0 → IsPlace kind list at → IsPlace kind list other
  any_base at other p o z q s =
      let b = s.is_place in
      record {
        head = s.head;
        is_place = record {
          phase = z ∙ sym q ∙ b.phase ∙ ap (λ n. n % list.interval) (sym p);
          base = λ some. absurd (omega (arith, some, z));
          behind = subst (λ n. IsFormOffset kind list n other.offset s.head) (sym p) (subst (λ n. IsFormOffset kind list at.index n s.head) (sym o) b.behind);
        };
      }

  -- one offset more
  pub stack_push : (stack : List ℕ) (base first : ℕ) (at : Place) → ArePlaces kind list stack base first → at.index ≡ first + length stack → at.phase ≡ length stack → at.base ≡ base → IsPlace kind list at
      → ArePlaces kind list (stack ++ at.offset ∷ []) base first
  stack_push stack base first at places p q e s = λ k h.
      let l = length_push stack at.offset in
      elim (cases_lt k (length stack)) [
        | inl less ↦ rw (get_or_append_left stack (at.offset ∷ []) 0 k less) (places k less)
        | inr ge ↦
            let n : k ≡ length stack = omega (arith, l, h, ge) in
            rw (n, get_or_push stack at.offset 0 (length stack) refl) (subst (IsPlace kind list) (λ i. record { index = p i; phase = q i; offset = at.offset; base = e i }) s)
      ]

  -- a filled stack
  pub is_back_filled : (end : ℕ) (stack : List ℕ) (base : ℕ) → 0 < end → end ≤ length list.items → ArePlaces kind list stack base (first_of list.interval end) → first_of list.interval end + length stack ≡ end
      → IsBack kind list end stack base × (0 < length stack)
  is_back_filled end stack base some inside places count =
      let is = first_of_is list.interval end in
      let below = first_below list.interval end some in
      let more : 0 < length stack = omega (arith, is, below, count) in
      let start : first_of list.interval end ≡ end - length stack = omega (arith, count) in (
        record {
          inside = inside;
          fits = omega (arith, count);
          places = rw start at places;
          head = λ h. rw (← start, is) (mul-mod_left ((end - 1) / list.interval) list.interval);
          ends = λ z. absurd (omega (arith, z, more));
        },
        more,
      )

-- what is decoded for an empty stack
pub back_cost_ends : (r n hi : ℕ) → (0 < hi % r → hi ≡ n) → hi - first_of r hi ≤ back_cost r n hi
unfolding back_cost
back_cost_ends r n hi ends = elim (cases_lt 0 (hi % r)) [
  | inl more ↦ let e : eqb hi n ≡ true = rw (ends more) (eq-eqb n n refl) in rw (e, or-true) (omega arith)
  | inr none ↦ let e : hi % r ≡ 0 = omega (arith, none) in rw e (omega arith)
]

-- the end of an interval
min_ends : (k r n hi : ℕ) → hi ≡ min n (k * r) → 0 < hi % r → hi ≡ n
min_ends k r n hi e h = elim (cases_lt n (k * r)) [
  | inl less ↦ omega (arith, e, less)
  | inr ge ↦
      let same : hi ≡ k * r = omega (arith, e, ge) in
      let rem : hi % r ≡ 0 = ap (λ m. m % r) same ∙ mul-mod_left k r in
      absurd (omega (arith, rem, h))
]

pub is_back_interval : {X : Type 0} (kind : Kind X) (list : Listed X) (k hi : ℕ) (stack : List ℕ) (base : ℕ) → hi ≡ min (length list.items) (k * list.interval) → length stack ≡ 0 → IsBack kind list hi stack base
is_back_interval kind list k hi stack base e none = record {
  inside = omega (arith, e);
  fits = omega (arith, none);
  places = λ j h. absurd (omega (arith, none, h));
  head = λ h. absurd (omega (arith, none, h));
  ends = λ z h. min_ends k list.interval (length list.items) hi e h;
}

pub zero_from_test : (b : Bool) (m : ℕ) → b ≡ eqb m 0 → b ≡ true → m ≡ 0
zero_from_test b m is h = grind (arith, nat_tests)
