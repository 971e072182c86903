-- Laws of varints: each number has one encoding, none is a prefix of another, and what is decoded was encoded.
use Rattle.std.proofs.Common.{◌≡◌, ℕ, ◌+◌, ◌*◌, ◌/◌, ◌%◌, ◌<◌, ◌≤◌, ◌-◌, ◌^◌, zero, suc, List, [], ◌∷◌, ◌++◌, length, take, drop, get_or, drop-cons, nat_eq, if◌then◌else◌, IfSome, IfNone, refl, arith, sym, ◌∙◌, ap, subst, inl, inr, append_assoc, Option, Some, None, lit<}
use Rattle.std.proofs.lemmas.Bool.{cases_lt, cases_eq}
use Rattle.std.proofs.Math.Nat.{pow-succ', pow-le-pow_right, mul-le-mul_left}
use Rattle.std.proofs.lemmas.Nat.{div_below, pow-add, pow_pos}
use Rattle.std.proofs.lemmas.List.{take-append-drop, drop_all}
use Rattle.std.proofs.lemmas.Bool.Decides.{nat_tests}
use Rattle.sst_base.specs.Bytes.{IsBytes}
use Rattle.sst_base.specs.Varint.{IsVarint, IsWidth, varint_within, varint, varint_up_to, varint_at, with_digit, with_digits}

-- one more digit before an encoding
pub IsVarint-more : (digit high : ℕ) (bs : List ℕ) → digit < 128 → 0 < high → IsVarint bs high → IsVarint ((digit + 128) ∷ bs) (digit + 128 * high)
IsVarint-more digit high [] d h v = absurd v
IsVarint-more digit high (c ∷ bs) d h v = (omega arith, omega arith, high, h, omega arith, v)

pub varint_within_small : (k n : ℕ) → n < 128 → varint_within k n ≡ n ∷ []
unfolding varint_within
varint_within_small zero n h = refl
varint_within_small (suc k) n h = search (arith, nat_tests)

pub varint_within_more : (k n : ℕ) → 128 ≤ n → varint_within (suc k) n ≡ (n % 128 + 128) ∷ varint_within k (n / 128)
unfolding varint_within
varint_within_more k n h = search (arith, nat_tests)

-- a digit more, and the rest of the encoding after it
pub digit_pushed : (encoded xs : List ℕ) (rest more less : ℕ) → more ≡ suc less → 128 ≤ rest → xs ++ varint_within more rest ≡ encoded
    → (xs ++ (rest % 128 + 128) ∷ []) ++ varint_within less (rest / 128) ≡ encoded
digit_pushed encoded xs rest more less e h so_far =
    append_assoc xs ((rest % 128 + 128) ∷ []) (varint_within less (rest / 128))
    ∙ ap (λ ys. xs ++ ys) (sym (varint_within_more less rest h) ∙ ap (λ k. varint_within k rest) (sym e))
    ∙ so_far

-- the last digit
pub last_pushed : (encoded xs : List ℕ) (rest more : ℕ) → rest < 128 → xs ++ varint_within more rest ≡ encoded → xs ++ rest ∷ [] ≡ encoded
last_pushed encoded xs rest more h so_far = ap (λ ys. xs ++ ys) (sym (varint_within_small more rest h)) ∙ so_far

pub IsVarint-varint_within : (k n : ℕ) → n < 128 ^ (suc k) → IsVarint (varint_within k n) n
unfolding varint_within
IsVarint-varint_within zero n h = (h, refl)
IsVarint-varint_within (suc k) n h =
    elim (cases_lt n 128) [
      | inl small ↦ rw (varint_within_small (suc k) n small) (small, refl)
      | inr large ↦ rw (varint_within_more k n large)
          (let below : n / 128 < 128 ^ suc k = div_below n 128 (128 ^ suc k) (omega arith) (omega (arith, h, pow-succ' 128 (suc k))) in
          let some : 0 < n / 128 = omega arith in
          let digit : n % 128 < 128 = omega arith in
          let whole : n % 128 + 128 * (n / 128) ≡ n = omega arith in
          subst (λ m. IsVarint ((n % 128 + 128) ∷ varint_within k (n / 128)) m) whole (IsVarint-more (n % 128) (n / 128) (varint_within k (n / 128)) digit some (IsVarint-varint_within k (n / 128) below)))
    ]

pub one_form_lem : (a b x y : List ℕ) (m n : ℕ) → IsVarint a m → IsVarint b n → a ++ x ≡ b ++ y → (a ≡ b) × (m ≡ n)
one_form_lem [] b x y m n v w e = absurd v
one_form_lem (c ∷ a) [] x y m n v w e = absurd w
one_form_lem (c ∷ []) (d ∷ []) x y m n v w e = (let h : c ≡ d = cc in ap (λ z. z ∷ []) h, cc)
one_form_lem (c ∷ []) (d ∷ d' ∷ b) x y m n v w e = absurd (let h : c ≡ d = cc in omega arith)
one_form_lem (c ∷ c' ∷ a) (d ∷ []) x y m n v w e = absurd (let h : c ≡ d = cc in omega arith)
one_form_lem (c ∷ c' ∷ a) (d ∷ d' ∷ b) x y m n v w e =
    let t = one_form_lem (c' ∷ a) (d' ∷ b) x y v.2 w.2 v.5 w.5 cc in
    let h : c ≡ d = cc in
    (cc (t.0), omega (arith, t.1))

-- a number without its lowest seven bits is below a limit of seven bits less
pub less_room : (n i : ℕ) → i < 9 → n < 2 ^ (64 - 7 * i) → n / 128 < 2 ^ (64 - 7 * (i + 1))
less_room n i h l = div_below n 128 (2 ^ (64 - 7 * (i + 1))) (omega arith)
    (let e : 64 - 7 * i ≡ (64 - 7 * (i + 1)) + 7 = omega arith in
    let p = pow-add 2 (64 - 7 * (i + 1)) 7 in
    omega (arith, ap (λ k. 2 ^ k) e, p))

pub one_encoding : (a b : List ℕ) (n : ℕ) → IsVarint a n → IsVarint b n → a ≡ b
one_encoding [] b n v w = absurd v
one_encoding (c ∷ a) [] n v w = absurd w
one_encoding (c ∷ []) (d ∷ []) n v w = let e : c ≡ d = omega arith in ap (λ z. z ∷ []) e
one_encoding (c ∷ []) (d ∷ d' ∷ b) n v w = absurd (omega arith)
one_encoding (c ∷ c' ∷ a) (d ∷ []) n v w = absurd (omega arith)
one_encoding (c ∷ c' ∷ a) (d ∷ d' ∷ b) n v w =
    let h : v.2 ≡ w.2 = omega arith in
    let e : c ≡ d = omega arith in
    let t = one_encoding (c' ∷ a) (d' ∷ b) v.2 v.5 (subst (IsVarint (d' ∷ b)) (sym h) w.5) in
    cc (t, e)

at_small : (max b : ℕ) (bs : List ℕ) → b < 128 → b ≤ max → varint_up_to max (b ∷ bs) ≡ Some (b, 1)
unfolding varint_up_to
at_small max b bs h k = search (arith, nat_tests)

at_wide : (max b : ℕ) (bs : List ℕ) → b < 128 → max < b → varint_up_to max (b ∷ bs) ≡ None
unfolding varint_up_to
at_wide max b bs h k = search (arith, nat_tests)

at_full : (max b : ℕ) (bs : List ℕ) → 128 ≤ b → max < 128 → varint_up_to max (b ∷ bs) ≡ None
unfolding varint_up_to
at_full max b bs h k = search (arith, nat_tests)

pub at_more : (max b : ℕ) (bs : List ℕ) → 128 ≤ b → 128 ≤ max → varint_up_to max (b ∷ bs) ≡ with_digit (b - 128) (varint_up_to ((max - (b - 128)) / 128) bs)
unfolding varint_up_to
at_more max b bs h k = search (arith, nat_tests)

with_digit_some : (d : ℕ) (o : Option (ℕ × ℕ)) (n len : ℕ) → with_digit d o ≡ Some (n, len) → (high : ℕ) × (l : ℕ) × (o ≡ Some (high, l)) × (0 < high) × (n ≡ d + 128 * high) × (len ≡ l + 1)
with_digit_some d None n len e = cc
with_digit_some d (Some p) n len e = elim (cases_eq p.0 0) [
  | inl zero' ↦ (let f : with_digit d (Some p) ≡ None = search (arith, nat_tests) in cc)
  | inr some ↦ (let f : with_digit d (Some p) ≡ Some (d + 128 * p.0, p.1 + 1) = search (arith, nat_tests) in
      let q : (n, len) ≡ (d + 128 * p.0, p.1 + 1) = cc in
      (p.0, p.1, refl, omega arith, ap (λ (t : ℕ × ℕ). t.0) q, ap (λ (t : ℕ × ℕ). t.1) q))
]

some_digit : (d high l : ℕ) → 0 < high → with_digit d (Some (high, l)) ≡ Some (d + 128 * high, l + 1)
some_digit d high l h = search (arith, nat_tests)

pub larger : (b high n : ℕ) (xs : List ℕ) → b < 256 → 128 ≤ b → n ≡ (b - 128) + 128 * high → 0 < high → IsVarint xs high → IsVarint (b ∷ xs) n
larger b high n [] l h e p v = absurd v
larger b high n (c ∷ xs) l h e p v = (h, l, high, p, omega arith, v)

pub read_takes : (bs : List ℕ) (max n len : ℕ) → IsBytes bs → varint_up_to max bs ≡ Some (n, len) → IsVarint (take len bs) n × (n ≤ max) × (len ≤ length bs)
unfolding varint_up_to
read_takes [] max n len bytes e = cc
read_takes (b ∷ bs) max n len bytes e = elim (cases_lt b 128) [
  | inl small ↦ elim (cases_lt max b) [
    | inl wide ↦ (let f = at_wide max b bs small wide in cc)
    | inr fits ↦
        (let f = at_small max b bs small fits in
        let q : (b, 1) ≡ (n, len) = cc in
        let n_is : b ≡ n = ap (λ (t : ℕ × ℕ). t.0) q in
        let len_is : 1 ≡ len = ap (λ (t : ℕ × ℕ). t.1) q in
        subst (λ l. IsVarint (take l (b ∷ bs)) n × (n ≤ max) × (l ≤ length (b ∷ bs))) len_is ((small, sym n_is), omega arith, omega arith))
  ]
  | inr large ↦ elim (cases_lt max 128) [
    | inl full ↦ (let f = at_full max b bs large full in cc)
    | inr room ↦
        (let f = at_more max b bs large room in
        let g = with_digit_some (b - 128) (varint_up_to ((max - (b - 128)) / 128) bs) n len (sym f ∙ e) in
        let r = read_takes bs ((max - (b - 128)) / 128) g.0 g.1 (λ i. bytes (suc i)) g.2 in
        let len_is : suc g.1 ≡ len = omega arith in
        let v : IsVarint (b ∷ take g.1 bs) n = larger b g.0 n (take g.1 bs) (bytes 0) large g.4 g.3 r.0 in
        subst (λ l. IsVarint (take l (b ∷ bs)) n × (n ≤ max) × (l ≤ length (b ∷ bs))) len_is (v, omega (arith, g.4, r.1), omega (arith, r.2)))
  ]
]

-- an encoding is decoded, whatever follows
pub reads_again : (bs rest : List ℕ) (max n : ℕ) → IsVarint bs n → n ≤ max → varint_up_to max (bs ++ rest) ≡ Some (n, length bs)
reads_again [] rest max n v h = absurd v
reads_again (b ∷ []) rest max n v h = at_small max b rest v.0 (omega arith) ∙ ap (λ m. Some (m, 1)) (sym v.1)
reads_again (b ∷ c ∷ bs) rest max n v h =
    let r = reads_again (c ∷ bs) rest ((max - (b - 128)) / 128) v.2 v.5 (omega arith) in
    at_more max b ((c ∷ bs) ++ rest) v.0 (omega arith)
    ∙ ap (with_digit (b - 128)) r
    ∙ some_digit (b - 128) v.2 (length (c ∷ bs)) v.3
    ∙ ap (λ (t : ℕ × ℕ). Some t) (let e : (b - 128) + 128 * v.2 ≡ n = omega arith in let f : length (c ∷ bs) + 1 ≡ length (b ∷ c ∷ bs) = omega arith in ap (λ m. (m, length (c ∷ bs) + 1)) e ∙ ap (λ l. (n, l)) f)

-- the encoding of a number meets the grammar
pub IsVarint-varint : (n : ℕ) → n < 2 ^ 64 → IsVarint (varint n) n
unfolding varint
IsVarint-varint n h = IsVarint-varint_within 9 n (omega arith)

-- an encoded number is decoded, whatever follows, at each width that holds it
pub varint_at-varint : (bits n : ℕ) (rest : List ℕ) → n < 2 ^ bits → n < 2 ^ 64 → varint_at bits (varint n ++ rest) ≡ Some (n, length (varint n))
unfolding varint_at
varint_at-varint bits n rest h k = reads_again (varint n) rest (2 ^ bits - 1) n (IsVarint-varint n k) (omega arith)

-- what is decoded was encoded so
pub varint_at_takes : (bytes : List ℕ) (bits n len : ℕ) → IsBytes bytes → bits ≤ 64 → varint_at bits bytes ≡ Some (n, len) → (take len bytes ≡ varint n) × (n < 2 ^ bits) × (len ≤ length bytes)
unfolding varint_at
varint_at_takes bytes bits n len b h e =
    let r = read_takes bytes (2 ^ bits - 1) n len b e in
    let below : n < 2 ^ bits = omega (arith, pow_pos bits) in
    let most : 2 ^ bits ≤ 2 ^ 64 = pow-le-pow_right (lit< tt) h in
    (one_encoding (take len bytes) (varint n) n r.0 (IsVarint-varint n (omega arith)), below, r.2)

-- and is read at every width
pub varint_at_small : (bits b : ℕ) (bs : List ℕ) → IsWidth bits → b < 128 → varint_at bits (b ∷ bs) ≡ Some (b, 1)
unfolding varint_at
varint_at_small bits b bs w h = elim w [
  | inl e ↦ rw e (at_small (2 ^ 16 - 1) b bs h (omega arith))
  | inr w ↦ elim w [
    | inl e ↦ rw e (at_small (2 ^ 32 - 1) b bs h (omega arith))
    | inr e ↦ rw e (at_small (2 ^ 64 - 1) b bs h (omega arith))
  ]
]

-- each width has at least 16 bits
width_some : (bits : ℕ) → IsWidth bits → 16 ≤ bits
width_some bits w = elim w [
  | inl e ↦ omega (arith, e)
  | inr w ↦ elim w [
    | inl e ↦ omega (arith, e)
    | inr e ↦ omega (arith, e)
  ]
]

-- a number below a lesser power of two fits a greater
power_fits : (least bits : ℕ) → least ≤ bits → 2 ^ least - 1 ≤ 2 ^ bits - 1
power_fits least bits h = let p : 2 ^ least ≤ 2 ^ bits = pow-le-pow_right (lit< tt) h in omega (arith, p)

-- two bytes encode a number that fits each width
pub varint_at_two : (bits a b : ℕ) (bs : List ℕ) → IsWidth bits → 128 ≤ a → a < 256 → 0 < b → b < 128 → varint_at bits (a ∷ b ∷ bs) ≡ Some ((a - 128) + 128 * b, 2)
unfolding varint_at
varint_at_two bits a b bs w h k p q =
    let more : (max : ℕ) → 2 ^ 16 - 1 ≤ max → varint_up_to max (a ∷ b ∷ bs) ≡ Some ((a - 128) + 128 * b, 2) = λ max l.
    at_more max a (b ∷ bs) h (omega arith)
    ∙ ap (with_digit (a - 128)) (at_small ((max - (a - 128)) / 128) b bs q (omega arith))
    ∙ some_digit (a - 128) b 1 p in
    more (2 ^ bits - 1) (power_fits 16 bits (width_some bits w))

-- three bytes encode a number that fits each width but the least
pub varint_at_three : (bits a b c : ℕ) (bs : List ℕ) → IsWidth bits → 32 ≤ bits → 128 ≤ a → a < 256 → 128 ≤ b → b < 256 → 0 < c → c < 128 → varint_at bits (a ∷ b ∷ c ∷ bs) ≡ Some ((a - 128) + 128 * (b - 128) + 16384 * c, 3)
unfolding varint_at
varint_at_three bits a b c bs w wide h k i l p q =
    let more : (max : ℕ) → 2 ^ 32 - 1 ≤ max → varint_up_to max (a ∷ b ∷ c ∷ bs) ≡ Some ((a - 128) + 128 * (b - 128) + 16384 * c, 3) = λ max m.
    let sum : (a - 128) + 128 * ((b - 128) + 128 * c) ≡ (a - 128) + 128 * (b - 128) + 16384 * c = omega arith in
    at_more max a (b ∷ c ∷ bs) h (omega arith)
    ∙ ap (with_digit (a - 128)) (at_more ((max - (a - 128)) / 128) b (c ∷ bs) i (omega arith)
    ∙ ap (with_digit (b - 128)) (at_small ((((max - (a - 128)) / 128) - (b - 128)) / 128) c bs q (omega arith))
    ∙ some_digit (b - 128) c 1 p)
    ∙ some_digit (a - 128) ((b - 128) + 128 * c) 2 (omega arith)
    ∙ ap (λ n. Some (n, 3)) sum in
    more (2 ^ bits - 1) (power_fits 32 bits wide)

-- four bytes encode a number that fits each width but the least
pub varint_at_four : (bits a b c d : ℕ) (bs : List ℕ) → IsWidth bits → 32 ≤ bits → 128 ≤ a → a < 256 → 128 ≤ b → b < 256 → 128 ≤ c → c < 256 → 0 < d → d < 128
    → varint_at bits (a ∷ b ∷ c ∷ d ∷ bs) ≡ Some ((a - 128) + 128 * (b - 128) + 16384 * (c - 128) + 2097152 * d, 4)
unfolding varint_at
varint_at_four bits a b c d bs w wide h k i l j o p q =
    let more : (max : ℕ) → 2 ^ 32 - 1 ≤ max → varint_up_to max (a ∷ b ∷ c ∷ d ∷ bs) ≡ Some ((a - 128) + 128 * (b - 128) + 16384 * (c - 128) + 2097152 * d, 4) = λ max m.
    let sum : (a - 128) + 128 * ((b - 128) + 128 * ((c - 128) + 128 * d)) ≡ (a - 128) + 128 * (b - 128) + 16384 * (c - 128) + 2097152 * d = omega arith in
    let second = (max - (a - 128)) / 128 in
    let third = (second - (b - 128)) / 128 in
    let fourth = (third - (c - 128)) / 128 in
    let r : 33554430 ≤ second = omega arith in
    let s : 262142 ≤ third = omega (arith, r, l) in
    let t : 2046 ≤ fourth = omega (arith, s, o) in
    at_more max a (b ∷ c ∷ d ∷ bs) h (omega arith)
    ∙ ap (with_digit (a - 128)) (at_more second b (c ∷ d ∷ bs) i (omega (arith, r))
    ∙ ap (with_digit (b - 128)) (at_more third c (d ∷ bs) j (omega (arith, s))
    ∙ ap (with_digit (c - 128)) (at_small fourth d bs q (omega (arith, t, q)))
    ∙ some_digit (c - 128) d 1 p)
    ∙ some_digit (b - 128) ((c - 128) + 128 * d) 2 (omega arith))
    ∙ some_digit (a - 128) ((b - 128) + 128 * ((c - 128) + 128 * d)) 3 (omega arith)
    ∙ ap (λ n. Some (n, 4)) sum in
    more (2 ^ bits - 1) (power_fits 32 bits wide)

with_digits_some : (len sum scale high l : ℕ) → 0 < high → with_digits len sum scale (Some (high, l)) ≡ Some (sum + scale * high, len + l)
with_digits_some len sum scale high l h = search (arith, nat_tests)

-- one digit more
with_digits_more : (len sum scale d : ℕ) (o : Option (ℕ × ℕ)) → with_digits len sum scale (with_digit d o) ≡ with_digits (len + 1) (sum + scale * d) (scale * 128) o
with_digits_more len sum scale d None = refl
with_digits_more len sum scale d (Some p) = elim (cases_eq p.0 0) [
  | inl zero' ↦
      (let f : with_digit d (Some p) ≡ None = search (arith, nat_tests) in
      let g : with_digits (len + 1) (sum + scale * d) (scale * 128) (Some p) ≡ None = search (arith, nat_tests) in
      ap (with_digits len sum scale) f ∙ sym g)
  | inr some ↦
      (let f : with_digit d (Some p) ≡ Some (d + 128 * p.0, p.1 + 1) = search (arith, nat_tests) in
      let g : with_digits (len + 1) (sum + scale * d) (scale * 128) (Some p) ≡ Some ((sum + scale * d) + (scale * 128) * p.0, (len + 1) + p.1) = search (arith, nat_tests) in
      let a : sum + scale * (d + 128 * p.0) ≡ (sum + scale * d) + (scale * 128) * p.0 = omega arith in
      let b : len + (p.1 + 1) ≡ (len + 1) + p.1 = omega arith in
      ap (with_digits len sum scale) f ∙ with_digits_some len sum scale (d + 128 * p.0) (p.1 + 1) (omega arith)
      ∙ ap (λ m. Some (m, len + (p.1 + 1))) a ∙ ap (λ l. Some ((sum + scale * d) + (scale * 128) * p.0, l)) b ∙ sym g)
]

-- a digit is digits
pub with_digit-with_digits : (d : ℕ) (o : Option (ℕ × ℕ)) → with_digit d o ≡ with_digits 1 d 128 o
with_digit-with_digits d None = refl
with_digit-with_digits d (Some p) = ap (λ l. if nat_eq p.0 0 then None else Some (d + 128 * p.0, l)) (let e : p.1 + 1 ≡ 1 + p.1 = omega arith in e)

byte_at : (bytes : List ℕ) (i b : ℕ) → i < length bytes → b ≡ get_or bytes i 0 → drop i bytes ≡ b ∷ drop (i + 1) bytes
byte_at bytes i b h e = drop-cons bytes i 0 h ∙ ap (λ y. y ∷ drop (suc i) bytes) (sym e) ∙ (let f : suc i ≡ i + 1 = omega arith in ap (λ n. b ∷ drop n bytes) f)

module _ (bytes : List ℕ) (i sum scale room : ℕ) (whole : Option (ℕ × ℕ)) (so_far : with_digits i sum scale (varint_up_to room (drop i bytes)) ≡ whole) where
  pub digits_end : length bytes ≤ i → None ≡ whole
  unfolding varint_up_to
  digits_end h = ap (λ xs. with_digits i sum scale (varint_up_to room xs)) (sym (drop_all i bytes h)) ∙ so_far

  module _ (b : ℕ) (h : i < length bytes) (e : b ≡ get_or bytes i 0) where
    here : with_digits i sum scale (varint_up_to room (b ∷ drop (i + 1) bytes)) ≡ whole
    here = ap (λ xs. with_digits i sum scale (varint_up_to room xs)) (sym (byte_at bytes i b h e)) ∙ so_far

    pub digits_last : b < 128 → 0 < b → b ≤ room → Some (sum + scale * b, i + 1) ≡ whole
    digits_last s p l = sym (with_digits_some i sum scale b 1 p) ∙ ap (with_digits i sum scale) (sym (at_small room b (drop (i + 1) bytes) s l)) ∙ here

    pub digits_zero : b ≡ 0 → None ≡ whole
    digits_zero z =
        let s : b < 128 = omega arith in
        let none : with_digits i sum scale (Some (b, 1)) ≡ None = ap (λ n. with_digits i sum scale (Some (n, 1))) z in
        sym none ∙ ap (with_digits i sum scale) (sym (at_small room b (drop (i + 1) bytes) s (omega arith))) ∙ here

    pub digits_wide : b < 128 → room < b → None ≡ whole
    digits_wide s w = ap (with_digits i sum scale) (sym (at_wide room b (drop (i + 1) bytes) s w)) ∙ here

    pub digits_full : 128 ≤ b → room < 128 → None ≡ whole
    digits_full l f = ap (with_digits i sum scale) (sym (at_full room b (drop (i + 1) bytes) l f)) ∙ here

    pub digits_more : 128 ≤ b → 128 ≤ room → with_digits (i + 1) (sum + scale * (b - 128)) (scale * 128) (varint_up_to ((room - (b - 128)) / 128) (drop (i + 1) bytes)) ≡ whole
    digits_more l r =
        sym (with_digits_more i sum scale (b - 128) (varint_up_to ((room - (b - 128)) / 128) (drop (i + 1) bytes)))
        ∙ ap (with_digits i sum scale) (sym (at_more room b (drop (i + 1) bytes) l r)) ∙ here

-- a digit and what is left of the limit after it
pub less_left : (sum scale room d max : ℕ) → d ≤ room → sum + scale * room ≤ max → (sum + scale * d) + (scale * 128) * ((room - d) / 128) ≤ max
less_left sum scale room d max h fits =
    let q : d + 128 * ((room - d) / 128) ≤ room = omega arith in
    let m : scale * (d + 128 * ((room - d) / 128)) ≤ scale * room = mul-le-mul_left scale q in
    omega arith

-- what is returned is the number and the length of a varint
pub varint_at_found : (bits : ℕ) (bytes : List ℕ) (o : Option (ℕ × ℕ)) → IsBytes bytes → bits ≤ 64 → o ≡ varint_at bits bytes
    → IfSome o (λ f. f.1 ≤ length bytes) × IfSome o (λ f. f.0 < 2 ^ bits) × IfSome o (λ f. IsVarint (take f.1 bytes) f.0)
varint_at_found bits bytes None b h e = (tt, tt, tt)
varint_at_found bits bytes (Some p) b h e =
    let r = varint_at_takes bytes bits p.0 p.1 b h (sym e) in
    let most : 2 ^ bits ≤ 2 ^ 64 = pow-le-pow_right (lit< tt) h in
    (r.2, r.1, subst (λ xs. IsVarint xs p.0) (sym r.0) (IsVarint-varint p.0 (omega (arith, r.1))))

-- where nothing is returned, no prefix of the bytes is a varint
pub varint_at_none : (bits : ℕ) (bytes : List ℕ) (o : Option (ℕ × ℕ)) → o ≡ varint_at bits bytes → IfNone o ((n len : ℕ) → n < 2 ^ bits → IsVarint (take len bytes) n → ⊥)
unfolding varint_at
varint_at_none bits bytes None e = λ n len h v.
    let r = reads_again (take len bytes) (drop len bytes) (2 ^ bits - 1) n v (omega arith) in
    let again : None ≡ Some (n, length (take len bytes)) = e ∙ ap (varint_up_to (2 ^ bits - 1)) (sym (take-append-drop len bytes)) ∙ r in
    cc (again)
varint_at_none bits bytes (Some p) e = tt
