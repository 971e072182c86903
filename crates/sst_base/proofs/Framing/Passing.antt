-- Bytes that pass in two steps.
use Rattle.std.proofs.Common.{◌≡◌, ℕ, ◌+◌, ◌-◌, List, ◌++◌, length, Option, Some, None, take, drop, ap, sym, ◌∙◌, append_assoc, subst}
use Rattle.std.specs.Io.KnownBytes.{Appends, Keeps}
use Rattle.std.proofs.Math.Seq.{take-add}
use Rattle.std.proofs.lemmas.List.{take_rest}

appends_then : (a b c : Option (List ℕ)) (buf : List ℕ) (at n : ℕ) → Appends a b (take at buf) → Appends b c (take n (drop at buf)) → Appends a c (take (at + n) buf)
appends_then None b c buf at n h k = tt
appends_then (Some xs) None c buf at n h k = absurd h
appends_then (Some xs) (Some ys) None buf at n h k = absurd k
appends_then (Some xs) (Some ys) (Some zs) buf at n h k =
    k ∙ ap (λ l. l ++ take n (drop at buf)) h ∙ append_assoc xs _ _ ∙ ap (λ l. xs ++ l) (sym (take-add at n buf))

-- known bytes that grow and then stay
pub appends_kept : (a b c : Option (List ℕ)) (xs : List ℕ) → Appends a b xs → Keeps b c → Appends a c xs
appends_kept None b c xs h k = tt
appends_kept (Some xs) None c _ h k = absurd h
appends_kept (Some xs) (Some ys) None _ h k = absurd k
appends_kept (Some xs) (Some ys) (Some zs) _ h k = k ∙ h

-- known bytes that grow by the next n bytes of a buffer
pub appends_step : (a b c : Option (List ℕ)) (buf : List ℕ) (at n to : ℕ) → to ≡ at + n → Appends a b (take at buf) → Appends b c (take n (take (length buf - at) (drop at buf))) → Appends a c (take to buf)
appends_step a b c buf at n to e h k =
    let P : ℕ → Type 0 = λ m. Appends a c (take m buf) in
    let Q : List ℕ → Type 0 = λ l. Appends b c (take n l) in
    subst P (sym e) (appends_then a b c buf at n h (subst Q (take_rest buf at) k))

-- the bytes that passed, and the next n bytes of a buffer
pub passed_step : (old mid new buf : List ℕ) (at n to : ℕ) → to ≡ at + n → mid ≡ old ++ take at buf → new ≡ mid ++ take n (take (length buf - at) (drop at buf)) → new ≡ old ++ take to buf
passed_step old mid new buf at n to e h k =
    k ∙ ap (λ l. mid ++ take n l) (take_rest buf at)
    ∙ ap (λ l. l ++ take n (drop at buf)) h ∙ append_assoc old _ _ ∙ ap (λ l. old ++ l) (sym (take-add at n buf))
    ∙ ap (λ m. old ++ take m buf) (sym e)
