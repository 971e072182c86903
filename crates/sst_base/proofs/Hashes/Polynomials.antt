-- The polynomial hash, with or without the multiples of the modulus left out at each step.
use Rattle.std.proofs.Common.{◌≡◌, ℕ, ◌+◌, ◌*◌, ◌%◌, ◌^◌, ◌≤◌, List, [], ◌∷◌, length, take, drop, ◌++◌, refl, arith, sym, ◌∙◌, ap, take-add, length-drop}
use Rattle.std.specs.List.{fold}
use Rattle.std.proofs.lemmas.List.{length-take-le, take-append-drop}
use Rattle.std.proofs.lemmas.Nat.{mul-mod_first}
use Rattle.sst_base.specs.Hashes.{times31, poly31_from}
use Rattle.sst_base.specs.HashLaws.{add-mod_first, fold-append, fold31-mod}

-- a step modulo a power of two
abbrev pub wrapped31 : ℕ → ℕ → ℕ → ℕ
wrapped31 bits so_far byte = ((so_far * 31) % 2 ^ bits + byte) % 2 ^ bits

steps_mod : (bits h : ℕ) (bytes : List ℕ) → fold (wrapped31 bits) (h % 2 ^ bits) bytes ≡ fold times31 h bytes % 2 ^ bits
steps_mod bits h [] = refl
steps_mod bits h (b ∷ bytes) =
    ap (λ s. fold (wrapped31 bits) s bytes) (ap (λ k. (k + b) % 2 ^ bits) (mul-mod_first h 31 (2 ^ bits)) ∙ add-mod_first (h * 31) b (2 ^ bits))
    ∙ steps_mod bits (h * 31 + b) bytes

pub poly31_from_steps : (bits so_far : ℕ) (bytes : List ℕ) → so_far ≡ so_far % 2 ^ bits → fold (wrapped31 bits) so_far bytes ≡ poly31_from bits so_far bytes
poly31_from_steps bits so_far bytes h = ap (λ s. fold (wrapped31 bits) s bytes) h ∙ steps_mod bits so_far bytes

-- eight bytes more
pub eight_steps : (h : ℕ) (w : List ℕ) → length w ≡ 8 → fold times31 h w ≡ h * 852891037441 + fold times31 0 w
eight_steps h [] l = absurd (omega arith)
eight_steps h (a ∷ []) l = absurd (omega arith)
eight_steps h (a ∷ b ∷ []) l = absurd (omega arith)
eight_steps h (a ∷ b ∷ c ∷ []) l = absurd (omega arith)
eight_steps h (a ∷ b ∷ c ∷ d ∷ []) l = absurd (omega arith)
eight_steps h (a ∷ b ∷ c ∷ d ∷ e ∷ []) l = absurd (omega arith)
eight_steps h (a ∷ b ∷ c ∷ d ∷ e ∷ f ∷ []) l = absurd (omega arith)
eight_steps h (a ∷ b ∷ c ∷ d ∷ e ∷ f ∷ g ∷ []) l = absurd (omega arith)
eight_steps h (a ∷ b ∷ c ∷ d ∷ e ∷ f ∷ g ∷ i ∷ []) l = omega arith
eight_steps h (a ∷ b ∷ c ∷ d ∷ e ∷ f ∷ g ∷ i ∷ j ∷ w) l = absurd (omega arith)

-- sixteen bytes more
pub sixteen_steps : (h : ℕ) (w : List ℕ) → length w ≡ 16 → fold times31 h w ≡ h * 727423121747185263828481 + fold times31 0 w
sixteen_steps h w l =
    let first = take 8 w in
    let last = drop 8 w in
    let join : first ++ last ≡ w = take-append-drop 8 w in
    let a : length first ≡ 8 = length-take-le 8 w (omega (arith, l)) in
    let b : length last ≡ 8 = omega (arith, l, length-drop 8 w) in
    let whole : (k : ℕ) → fold times31 k w ≡ (k * 852891037441 + fold times31 0 first) * 852891037441 + fold times31 0 last = λ k.
    ap (fold times31 k) (sym join) ∙ fold-append times31 k first last ∙ eight_steps (fold times31 k first) last b
    ∙ ap (λ m. m * 852891037441 + fold times31 0 last) (eight_steps k first a) in
    let x = whole h in
    let y = whole 0 in
    omega (arith, x, y)

-- n bytes more in each step, which multiplies the hash so far by a power
pub bytes_more : (n power : ℕ) → ((h : ℕ) (w : List ℕ) → length w ≡ n → fold times31 h w ≡ h * power + fold times31 0 w)
    → (bits from : ℕ) (bytes : List ℕ) (i hash product next v : ℕ) → n * i + n ≤ length bytes → hash ≡ poly31_from bits from (take (n * i) bytes)
    → product ≡ (hash * power) % 2 ^ bits → v ≡ fold times31 0 (take n (drop (n * i) bytes)) → next ≡ (product + v) % 2 ^ bits
    → next ≡ poly31_from bits from (take (n * (i + 1)) bytes)
bytes_more n power steps bits from bytes i hash product next v h e p q r =
    let plain = fold times31 from (take (n * i) bytes) in
    let w = take n (drop (n * i) bytes) in
    let more : n * (i + 1) ≡ n * i + n = omega arith in
    let l : length w ≡ n = length-take-le n (drop (n * i) bytes) (omega (arith, h, length-drop (n * i) bytes)) in
    let longer : fold times31 from (take (n * (i + 1)) bytes) ≡ plain * power + v =
    ap (λ k. fold times31 from (take k bytes)) more ∙ ap (fold times31 from) (take-add (n * i) n bytes) ∙ fold-append times31 from (take (n * i) bytes) w ∙ steps plain w l ∙ ap (λ k. plain * power + k) (sym q) in
    r ∙ ap (λ k. (k + v) % 2 ^ bits) (p ∙ ap (λ k. (k * power) % 2 ^ bits) e ∙ mul-mod_first plain power (2 ^ bits)) ∙ add-mod_first (plain * power) v (2 ^ bits) ∙ ap (λ k. k % 2 ^ bits) (sym longer)

-- the bytes after those hashed in steps
pub tail_more : (bits from : ℕ) (bytes tail : List ℕ) (n hash r : ℕ) → hash ≡ poly31_from bits from (take n bytes) → tail ≡ drop n bytes → r ≡ poly31_from bits hash tail → r ≡ poly31_from bits from bytes
tail_more bits from bytes tail n hash r e t p =
    let plain = fold times31 from (take n bytes) in
    p ∙ ap (λ h. poly31_from bits h tail) e ∙ ap (poly31_from bits (plain % 2 ^ bits)) t
    ∙ fold31-mod (2 ^ bits) plain (drop n bytes)
    ∙ ap (λ k. k % 2 ^ bits) (sym (fold-append times31 from (take n bytes) (drop n bytes)) ∙ ap (fold times31 from) (take-append-drop n bytes))
