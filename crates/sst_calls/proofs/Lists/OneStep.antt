-- A step from the front of a window leaves its list.
use Rattle.std.proofs.Common.{◌≡◌, ◌∙◌, ◌+◌, cond, ap, inl, inr}
use Rattle.std.proofs.lemmas.Bool.{cases_Bool}
use Rattle.sstable_blocks.specs.Prelude.{Answer, Window, next, some_left}

pub next_list : {X : Type 0} (s t : Window X) (a : Answer X) → ◌≡◌ {A = Window X × Answer X} (t, a) (next s) → t.list ≡ s.list
next_list s t a step =
    let moved : t.list ≡ (cond (some_left s) (record s { lo = s.lo + 1 }) s).list = ap (λ (p : Window _ × Answer _). p.0.list) step in
    elim (cases_Bool (some_left s)) [
      | inl some ↦ moved ∙ ap (λ b. (cond b (record s { lo = s.lo + 1 }) s).list) some
      | inr none ↦ moved ∙ ap (λ b. (cond b (record s { lo = s.lo + 1 }) s).list) none
    ]
