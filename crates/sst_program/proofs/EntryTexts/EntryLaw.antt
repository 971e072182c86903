-- The entry that a line encodes, as a function and as a relation.
use Rattle.std.proofs.Common.{◌≡◌, ◌≢◌, ℕ, ◌<◌, ◌≤◌, ◌^◌, zero, suc, List, [], ◌∷◌, ◌++◌, length, get_or, arith, refl, true, false, Bool, sym, ◌∙◌, ap, ◌↔◌, cond}
use Rattle.std.specs.Prelude.{Option, Some, None, Result, Ok, Err, IfOk, IsSomeAnd, nat_eq, nat_le, nat_lt, ◌&&◌, ◌==◌}
use Rattle.std.specs.Char.{digit_value}
use Rattle.std.specs.Cmp.Lexicographic.{pointwise}
use Rattle.std.specs.Option.{option_map}
use Rattle.std.specs.Result.{result_ok}
use Rattle.std.specs.Str.Parse.{AllDigits, digits_value}
use Rattle.std.proofs.lemmas.Bool.Decides.{nat_tests}
use Rattle.std.proofs.lemmas.Slice.Eq.{bytes_eq-Decides}
use Rattle.hex.specs.Hex.{decode_of, is_hex_digit}
use Rattle.hex.specs.declared.error.FromHexError.{FromHexError}
use Rattle.hex.proofs.HexLemmas.{decode_of-ok}
use Rattle.sstable_blocks.specs.ValueTypes.{ValueType, Value, Tombstone, WeakTombstone, Indirection}
use Rattle.sstable_blocks.specs.Prelude.{Entry, plain_value}
use Rattle.sstable_blocks.specs.BlockLaws.{bind_some}
use Rattle.sst_program.specs.Text.{IsNumberText, is_number_text, number_of, hex_bytes}
use Rattle.sst_program.specs.Line.{letter_of, type_of_letter, type_of_letters, IsLineOf, Encodes, Lacks, cut_at, entry_within_limits, entry_of_parts, entry_of_line}
use Rattle.sst_program.proofs.WordTexts.Numbers.{number_text-sound, number_of-some}
use Rattle.sst_program.proofs.EntryTexts.EntryParts.{line-with_parts, parts-all, limits-kept}

-- what a choice that ends well chose
cond-some : {A : Type 0} (b : Bool) (x y : A) → cond b (Some x) None ≡ Some y → (b ≡ true) × (x ≡ y)
cond-some true x y h = (refl, cc)
cond-some false x y h = let wrong : None ≡ Some y = h in cc

cut-by : (c b : ℕ) (bytes : List ℕ) (p : List ℕ × List ℕ) (t : Bool) → t ≡ nat_eq b c → (rest : Option (List ℕ × List ℕ)) → ((q : List ℕ × List ℕ) → rest ≡ Some q → bytes ≡ q.0 ++ (c ∷ q.1))
    → cond t (Some ([], bytes)) (option_map (λ q. (b ∷ q.0, q.1)) rest) ≡ Some p → b ∷ bytes ≡ p.0 ++ (c ∷ p.1)
cut-by c b bytes p true e rest again h =
    let here : ([], bytes) ≡ p = cc in
    let same : b ≡ c = grind (arith, nat_tests) in
    rw (sym here, same) refl
cut-by c b bytes p false e None again h = let wrong : None ≡ Some p = h in cc
cut-by c b bytes p false e (Some q) again h =
    let later : (b ∷ q.0, q.1) ≡ p = cc in
    rw (sym later) (ap (λ bs. b ∷ bs) (again q refl))

cut-inverse : (c : ℕ) (bytes : List ℕ) (p : List ℕ × List ℕ) → cut_at c bytes ≡ Some p → bytes ≡ p.0 ++ (c ∷ p.1)
unfolding cut_at
cut-inverse c [] p h = let wrong : None ≡ Some p = h in cc
cut-inverse c (b ∷ bytes) p h = cut-by c b bytes p (nat_eq b c) refl (cut_at c bytes) (λ q e. cut-inverse c bytes q e) h

letter-inverse : (b : ℕ) (t : ValueType) → type_of_letter b ≡ Some t → b ≡ letter_of t
letter-inverse b Value h = grind (arith, nat_tests)
letter-inverse b Tombstone h = grind (arith, nat_tests)
letter-inverse b WeakTombstone h = grind (arith, nat_tests)
letter-inverse b Indirection h = grind (arith, nat_tests)

letters-inverse : (bytes : List ℕ) (t : ValueType) → type_of_letters bytes ≡ Some t → bytes ≡ letter_of t ∷ []
letters-inverse [] t h = let wrong : None ≡ Some t = h in cc
letters-inverse (b ∷ []) t h = ap (λ x. x ∷ []) (letter-inverse b t h)
letters-inverse (b ∷ c ∷ bytes) t h = let wrong : None ≡ Some t = h in cc

letters-of : (t : ValueType) → type_of_letters (letter_of t ∷ []) ≡ Some t
letters-of Value = refl
letters-of Tombstone = refl
letters-of WeakTombstone = refl
letters-of Indirection = refl

number-inverse : (text : List ℕ) (n : ℕ) → number_of text ≡ Some n → IsNumberText text × (digits_value 10 text ≡ n)
unfolding number_of
number-inverse text n h =
    let both = cond-some (is_number_text text) (digits_value 10 text) n h in
    (number_text-sound text both.0, both.1)

-- the limits that an entry keeps
limits-inverse : (t : ValueType) (n : ℕ) (k v : List ℕ) (e : Entry) → n < 2 ^ 64 → entry_within_limits t n k v ≡ Some e
    → (record { key = record { user_key = k; seqno = n; value_type = t }; value = plain_value t v } ≡ e) × (1 ≤ length k) × (length k ≤ 65535) × (length v < 2 ^ 32)
limits-inverse t n k v e small h =
    let both = cond-some (nat_le 1 (length k) && nat_le (length k) 65535 && nat_lt (length v) (2 ^ 32)) (record { key = record { user_key = k; seqno = n; value_type = t }; value = plain_value t v }) e h in
    let kept = both.0 in
    (both.1, grind (arith, nat_tests), grind (arith, nat_tests), grind (arith, nat_tests))

plain-length : (t : ValueType) (v : List ℕ) → length (plain_value t v) ≤ length v
plain-length Value v = omega arith
plain-length Tombstone v = omega arith
plain-length WeakTombstone v = omega arith
plain-length Indirection v = omega arith

encoded-by : (letter number key value : List ℕ) (t : ValueType) (n : ℕ) (k v : List ℕ) → letter ≡ letter_of t ∷ [] → IsNumberText number → digits_value 10 number ≡ n
    → hex_bytes key ≡ Some k → hex_bytes value ≡ Some v → 1 ≤ length k → length k ≤ 65535 → length v < 2 ^ 32
    → IsLineOf letter number key value (record { key = record { user_key = k; seqno = n; value_type = t }; value = plain_value t v })
encoded-by letter number key value t n k v l d s p q some short fits = record {
  is_letter = l;
  is_number = d;
  is_seqno = sym s;
  is_key = p;
  is_value = rw q (refl, fits);
  is_entry = record { some = some; user_key = short; seqno = omega (arith, d.1, s); value = omega (arith, plain-length t v) };
}

parts-inverse : (letter number key value : List ℕ) (e : Entry) → entry_of_parts letter number key value ≡ Some e → IsLineOf letter number key value e
unfolding entry_of_parts
parts-inverse letter number key value e h =
    let a = bind_some (type_of_letters letter) _ e h in
    let b = bind_some (number_of number) _ e a.2 in
    let c = bind_some (hex_bytes key) _ e b.2 in
    let d = bind_some (hex_bytes value) _ e c.2 in
    let n = number-inverse number b.0 b.1 in
    let small : b.0 < 2 ^ 64 = omega (arith, n.0.1, n.1) in
    let kept = limits-inverse a.0 b.0 c.0 d.0 e small d.2 in
    rw (sym kept.0) (encoded-by letter number key value a.0 b.0 c.0 d.0 (letters-inverse letter a.0 a.1) n.0 n.1 c.1 d.1 kept.1 kept.2 kept.3)

pub line-inverse : (line : List ℕ) (e : Entry) → entry_of_line line ≡ Some e → Encodes line e
unfolding entry_of_line
line-inverse line e h =
    let a = bind_some (cut_at 32 line) _ e h in
    let b = bind_some (cut_at 32 a.0.1) _ e a.2 in
    let c = bind_some (cut_at 32 b.0.1) _ e b.2 in
    let first = cut-inverse 32 line a.0 a.1 in
    let second = cut-inverse 32 a.0.1 b.0 b.1 in
    let third = cut-inverse 32 b.0.1 c.0 c.1 in (
      a.0.0,
      b.0.0,
      c.0.0,
      c.0.1,
      parts-inverse a.0.0 b.0.0 c.0.0 c.0.1 e c.2,
      first ∙ ap (λ r. a.0.0 ++ (32 ∷ r)) (second ∙ ap (λ r. b.0.0 ++ (32 ∷ r)) third),
    )

lacks-one : (b : ℕ) → b ≢ 32 → Lacks 32 (b ∷ [])
lacks-one b ne zero h = ne
lacks-one b ne (suc k) h = absurd (omega arith)

lacks-letter : (t : ValueType) → Lacks 32 (letter_of t ∷ [])
lacks-letter Value = lacks-one 86 (λ e. absurd (omega arith))
lacks-letter Tombstone = lacks-one 84 (λ e. absurd (omega arith))
lacks-letter WeakTombstone = lacks-one 87 (λ e. absurd (omega arith))
lacks-letter Indirection = lacks-one 73 (λ e. absurd (omega arith))

lacks-digits : (ds : List ℕ) → AllDigits 10 ds → Lacks 32 ds
lacks-digits [] h k lt e = absurd (omega arith)
lacks-digits (d ∷ ds) h zero lt e = let wrong : digit_value 32 < 10 = rw e at h.0 in absurd (omega arith)
lacks-digits (d ∷ ds) h (suc k) lt e = lacks-digits ds h.1 k (omega arith) e

ok-from_result_ok : (r : Result (List ℕ) FromHexError) (bytes : List ℕ) → result_ok r ≡ Some bytes → r ≡ Ok bytes
ok-from_result_ok (Ok x) bytes h = let same : x ≡ bytes = cc in ap Ok same
ok-from_result_ok (Err e) bytes h = let wrong : None ≡ Some bytes = h in cc

lacks-digit_pairs : (text bytes : List ℕ) (b : Bool) → cond b None (result_ok (decode_of text)) ≡ Some bytes → Lacks 32 text
lacks-digit_pairs text bytes true h k lt e = let wrong : None ≡ Some bytes = h in cc
lacks-digit_pairs text bytes false h k lt e =
    let digits = (decode_of-ok text bytes (ok-from_result_ok (decode_of text) bytes h)).1 in
    let digit : is_hex_digit (get_or text k 0) ≡ true = digits k 0 lt in
    let wrong : is_hex_digit 32 ≡ true = rw e at digit in cc

lacks-hex_by : (text bytes : List ℕ) (b : Bool) → b ≡ pointwise nat_eq text (45 ∷ []) → cond b (Some []) (cond (length text == 0) None (result_ok (decode_of text))) ≡ Some bytes → Lacks 32 text
lacks-hex_by text bytes true e h = let hyphen : text ≡ 45 ∷ [] = (bytes_eq-Decides text (45 ∷ [])).0 (sym e) in rw hyphen (lacks-one 45 (λ e. absurd (omega arith)))
lacks-hex_by text bytes false e h = lacks-digit_pairs text bytes (length text == 0) h

lacks-hex : (text bytes : List ℕ) → hex_bytes text ≡ Some bytes → Lacks 32 text
lacks-hex text bytes h = lacks-hex_by text bytes (pointwise nat_eq text (45 ∷ [])) refl h

some-and : {A : Type 0} (o : Option A) (P : A → Type 0) → IsSomeAnd o P → (x : A) × (o ≡ Some x) × P x
some-and None P h = absurd h
some-and (Some x) P h = (x, refl, h)

parts-complete : (letter number key value : List ℕ) (e : Entry) → IsLineOf letter number key value e → entry_of_parts letter number key value ≡ Some e
parts-complete letter number key value e by =
    let t = e.key.value_type in
    let v = some-and (hex_bytes value) (λ bytes. (e.value ≡ plain_value t bytes) × (length bytes < 2 ^ 32)) by.is_value in
    let letters : type_of_letters letter ≡ Some t = ap type_of_letters by.is_letter ∙ letters-of t in
    parts-all letter number key value t (digits_value 10 number) e.key.user_key v.0 letters (number_of-some number by.is_number) by.is_key v.1
    ∙ limits-kept t (digits_value 10 number) e.key.user_key v.0 by.is_entry.some by.is_entry.user_key v.2.1
    ∙ ap (λ n. Some (record { key = record { user_key = e.key.user_key; seqno = n; value_type = t }; value = plain_value t v.0 })) (sym by.is_seqno)
    ∙ ap (λ x. Some (record { key = e.key; value = x })) (sym v.2.0)

pub line-complete : (line : List ℕ) (e : Entry) → Encodes line e → entry_of_line line ≡ Some e
line-complete line e (letter, number, key, value, by, joined) =
    let first : Lacks 32 letter = rw by.is_letter (lacks-letter e.key.value_type) in
    line-with_parts line letter (number ++ (32 ∷ (key ++ (32 ∷ value)))) number (key ++ (32 ∷ value)) key value
    joined first refl (lacks-digits number by.is_number.0.1) refl (lacks-hex key e.key.user_key by.is_key)
    ∙ parts-complete letter number key value e by

-- the law, for what a call returns
pub law-along : {E : Type 0} (line : List ℕ) (expected : Option Entry) (r : Result (Option Entry) E) → entry_of_line line ≡ expected → IfOk r (λ found. found ≡ expected)
    → IfOk r (λ found. (e : Entry) → (found ≡ Some e) ↔ Encodes line e)
law-along line expected (Err e) h k = tt
law-along line expected (Ok found) h k = λ e. (λ p. line-inverse line e (h ∙ sym k ∙ p), λ p. k ∙ sym h ∙ line-complete line e p)
