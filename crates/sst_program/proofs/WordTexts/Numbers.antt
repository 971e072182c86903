-- The number that decimal digits encode, as a test and as a fact.
use Rattle.std.proofs.Common.{◌≡◌, ℕ, ◌^◌, List, [], ◌∷◌, length, arith, sym, ◌∙◌, ap, refl, true, false, Bool, ◌↔◌, cond}
use Rattle.std.specs.Prelude.{Option, Some, None, IsSome, IfSome, nat_lt}
use Rattle.std.specs.Char.{digit_value}
use Rattle.std.specs.List.{list_all}
use Rattle.std.specs.Str.Parse.{AllDigits, digits_value}
use Rattle.std.proofs.lemmas.Bool.Decides.{nat_tests}
use Rattle.sst_program.specs.Text.{IsNumberText, is_number_text, number_of}

digits-sound : (ds : List ℕ) → list_all (λ c. nat_lt (digit_value c) 10) ds ≡ true → AllDigits 10 ds
digits-sound [] h = tt
digits-sound (c ∷ ds) h =
    let both : (nat_lt (digit_value c) 10 ≡ true) × (list_all (λ c. nat_lt (digit_value c) 10) ds ≡ true) = grind (arith, nat_tests) in
    (grind (arith, nat_tests), digits-sound ds both.1)

digits-complete : (ds : List ℕ) → AllDigits 10 ds → list_all (λ c. nat_lt (digit_value c) 10) ds ≡ true
digits-complete [] h = refl
digits-complete (c ∷ ds) h =
    let here : nat_lt (digit_value c) 10 ≡ true = grind (arith, nat_tests, h.0) in
    rw (here, digits-complete ds h.1) refl

pub number_text-sound : (text : List ℕ) → is_number_text text ≡ true → IsNumberText text
number_text-sound text h =
    let all : list_all (λ c. nat_lt (digit_value c) 10) text ≡ true = grind (arith, nat_tests) in
    ((grind (arith, nat_tests), digits-sound text all), grind (arith, nat_tests))

pub number_text-complete : (text : List ℕ) → IsNumberText text → is_number_text text ≡ true
number_text-complete text h =
    let some : nat_lt 0 (length text) ≡ true = grind (arith, nat_tests, h.0.0) in
    let small : nat_lt (digits_value 10 text) (2 ^ 64) ≡ true = grind (arith, nat_tests, h.1) in
    rw (some, digits-complete text h.0.1, small) refl

pub number_of-some : (text : List ℕ) → IsNumberText text → number_of text ≡ Some (digits_value 10 text)
unfolding number_of
number_of-some text h = rw (number_text-complete text h) refl

number_of-cases : (text : List ℕ) (b : Bool) → b ≡ is_number_text text → (IsNumberText text → ⊥) → cond b (Some (digits_value 10 text)) None ≡ None
number_of-cases text true e h = absurd (h (number_text-sound text (sym e)))
number_of-cases text false e h = refl

pub number_of-none : (text : List ℕ) → (IsNumberText text → ⊥) → number_of text ≡ None
unfolding number_of
number_of-none text h = number_of-cases text (is_number_text text) refl h

-- a number that is returned exactly where digits encode one, and is that one
pub number-exact : (r : Option ℕ) (text : List ℕ) → (IsSome r ↔ IsNumberText text) → IfSome r (λ n. n ≡ digits_value 10 text) → number_of text ≡ r
number-exact None text iff value = number_of-none text (λ h. let wrong : false ≡ true = iff.1 h in cc)
number-exact (Some n) text iff value = number_of-some text (iff.0 refl) ∙ ap Some (sym value)
