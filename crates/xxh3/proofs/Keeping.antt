-- What a stream holds, as bytes come.
use Rattle.std.proofs.Common.{◌≡◌, ℕ, ◌+◌, ◌-◌, ◌*◌, ◌/◌, ◌%◌, ◌^◌, ◌<◌, ◌≤◌, true, false, List, ◌++◌, length, take, drop, get_or, refl, sym, ap, ◌∙◌, inl, inr, eqb, arith, length-append, length-drop}
use Rattle.std.proofs.lemmas.List.{get_or-drop, get_or-take, get_or-append-add, get_or_append_left, length-take-le, ext_get_or}
use Rattle.std.proofs.lemmas.Bool.{cases_lt, lt-leb}
use Rattle.std.proofs.lemmas.Bool.Decides.{nat_tests}
use Rattle.std.proofs.lemmas.Nat.{mul-mod_first}
use Rattle.xxh3.specs.declared.state.State.{State}
use Rattle.xxh3.specs.Pieces.{IsSame, IsPut}
use Rattle.xxh3.specs.Held.{IsFedAt}
use Rattle.xxh3.specs.declared.words.Halves.{Halves}
use Rattle.xxh3.specs.Xxh3.{default_secret, first_sums, with_stripe, with_stripes, message_sums, merged_sums, halves, hash64_by, hash64_long, hash128_by, hash128_long, xxh3_64, xxh3_128}
use Rattle.xxh3.proofs.SameBytes.{with_stripe-same, with_stripes-same, message-more}

-- a read, and the place of another
moved : (xs : List ℕ) (i j : ℕ) → i ≡ j → get_or xs i 0 ≡ get_or xs j 0
moved xs i j e = ap (λ (k : ℕ). get_or xs k 0) e

put_before : (old new : List ℕ) (place : ℕ) (bytes : List ℕ) → IsPut old new place bytes → (k : ℕ) → k < place → get_or new k 0 ≡ get_or old k 0
put_before old new place bytes p k l = moved new k (0 + k) (omega arith) ∙ p.before.each k l ∙ moved old (0 + k) k (omega arith)

put_inside : (old new : List ℕ) (place : ℕ) (bytes : List ℕ) → IsPut old new place bytes → (k : ℕ) → k < length bytes → get_or new (place + k) 0 ≡ get_or bytes k 0
put_inside old new place bytes p k l = p.inside.each k l ∙ moved bytes (0 + k) k (omega arith)

-- the bytes of a message stay where they are as it grows
pub grown : (m d : List ℕ) (n : ℕ) → n ≤ length m → IsSame m 0 (m ++ d) 0 n
grown m d n fits = record { each = λ k l. sym (get_or_append_left m d 0 (0 + k) (omega arith)) }

module _ (s t : State) (m d : List ℕ) (n : ℕ) (h : IsFedAt s m n) where
  -- bytes that wait after the others
  pub waits_more : IsPut s.window t.window (64 + s.filled) d → t.filled ≡ s.filled + length d → t.total ≡ (s.total + length d) % 2 ^ 64
      → t.place ≡ s.place → t.has_stripes ≡ s.has_stripes → t.sums ≡ s.sums → IsFedAt t (m ++ d) n
  waits_more p filled total place stripes sums =
      let long = length-append m d in
      let all = h.length_is in
      let so_far = h.total_is in
      record {
        length_is = omega arith;
        total_is = omega arith;
        place_is = place ∙ h.place_is;
        some = λ e. h.some (sym stripes ∙ e);
        none = λ e. h.none (sym stripes ∙ e);
        sums_are = sums ∙ h.sums_are ∙ with_stripes-same default_secret first_sums m 0 (m ++ d) 0 0 n (grown m d (64 * n) (omega arith));
        last = λ some. record {
          each = λ k l.
              let q = (h.last some).each k l in
              moved t.window (0 + k) k (omega arith) ∙ put_before s.window t.window (64 + s.filled) d p k (omega arith) ∙ moved s.window k (0 + k) (omega arith) ∙ q
              ∙ sym (get_or_append_left m d 0 (64 * n - 64 + k) (omega arith));
        };
        behind = record {
          each = λ k l. elim (cases_lt k s.filled) [
            | inl few ↦
                put_before s.window t.window (64 + s.filled) d p (64 + k) (omega arith) ∙ h.behind.each k few ∙ sym (get_or_append_left m d 0 (64 * n + k) (omega arith))
            | inr many ↦
                let j = k - s.filled in
                moved t.window (64 + k) (64 + s.filled + j) (omega arith) ∙ put_inside s.window t.window (64 + s.filled) d p j (omega arith)
                ∙ sym (get_or-append-add m d j 0) ∙ moved (m ++ d) (length m + j) (64 * n + k) (omega arith)
          ];
        };
      }

  -- stripes of bytes that come when none wait
  pub takes_stripes : (w rest : List ℕ) (count : ℕ) → s.filled ≡ 0 → s.has_stripes ≡ true → 0 < length d → count ≡ (length d - 1) / 64
      → t.sums ≡ with_stripes default_secret s.sums d 0 s.place count → IsSame w 0 (m ++ d) (64 * (n + count) - 64) 64 → IsPut w t.window 64 rest
      → rest ≡ drop (64 * count) d → t.filled ≡ length d - 64 * count → t.place ≡ (s.place + count) % 16 → t.total ≡ (s.total + length d) % 2 ^ 64
      → t.has_stripes ≡ s.has_stripes → IsFedAt t (m ++ d) (n + count)
  takes_stripes w rest count empty stripes some count_is sums front p rest_is filled place total kept =
      let long = length-append m d in
      let all = h.length_is in
      let so_far = h.total_is in
      let placed = h.place_is in
      let four = h.some stripes in
      let rest_long : length rest ≡ length d - 64 * count = ap length rest_is ∙ length-drop (64 * count) d in
      record {
        length_is = omega arith;
        total_is = omega arith;
        place_is = omega arith;
        some = λ e. omega arith;
        none = λ e. cc;
        sums_are =
            message-more default_secret (m ++ d) d n count 0 s.place s.sums t.sums
            (h.sums_are ∙ with_stripes-same default_secret first_sums m 0 (m ++ d) 0 0 n (grown m d (64 * n) (omega arith))) h.place_is
            (record { each = λ k l. moved d (0 + k) k (omega arith) ∙ sym (get_or-append-add m d k 0) ∙ moved (m ++ d) (length m + k) (64 * n + k) (omega arith) }) sums;
        last = λ _. record {
          each = λ k l.
              moved t.window (0 + k) k (omega arith) ∙ put_before w t.window 64 rest p k l ∙ moved w k (0 + k) (omega arith) ∙ front.each k l;
        };
        behind = record {
          each = λ k l.
              put_inside w t.window 64 rest p k (omega arith) ∙ ap (λ (xs : List ℕ). get_or xs k 0) rest_is ∙ get_or-drop (64 * count) d k 0
              ∙ sym (get_or-append-add m d (64 * count + k) 0) ∙ moved (m ++ d) (length m + (64 * count + k)) (64 * (n + count) + k) (omega arith);
        };
      }

  -- the last stripe that comes
  pub front_stripe : (w stripe : List ℕ) (count : ℕ) → s.filled ≡ 0 → 0 < count → 64 * count ≤ length d → IsPut s.window w 0 stripe
      → stripe ≡ drop (64 * (count - 1)) (take (64 * count) d) → length stripe ≡ 64 → IsSame w 0 (m ++ d) (64 * (n + count) - 64) 64
  front_stripe w stripe count empty some fits p stripe_is long =
      let all = h.length_is in
      record {
        each = λ k l.
            put_inside s.window w 0 stripe p k (omega arith) ∙ ap (λ (xs : List ℕ). get_or xs k 0) stripe_is ∙ get_or-drop (64 * (count - 1)) (take (64 * count) d) k 0
            ∙ get_or-take (64 * count) d (64 * (count - 1) + k) 0 (omega arith)
            ∙ sym (get_or-append-add m d (64 * (count - 1) + k) 0) ∙ moved (m ++ d) (length m + (64 * (count - 1) + k)) (64 * (n + count) - 64 + k) (omega arith);
      }

  -- no stripe comes
  pub front_kept : (w : List ℕ) (count : ℕ) → count ≡ 0 → s.has_stripes ≡ true → w ≡ s.window → IsSame w 0 (m ++ d) (64 * (n + count) - 64) 64
  front_kept w count none stripes kept =
      let all = h.length_is in
      let four = h.some stripes in
      record {
        each = λ k l.
            ap (λ (xs : List ℕ). get_or xs (0 + k) 0) kept ∙ (h.last four).each k l ∙ sym (get_or_append_left m d 0 (64 * n - 64 + k) (omega arith))
            ∙ moved (m ++ d) (64 * n - 64 + k) (64 * (n + count) - 64 + k) (omega arith);
      }

  -- the last stripe that comes, or the one before
  pub front_stays : (w stripes : List ℕ) (count : ℕ) → s.filled ≡ 0 → s.has_stripes ≡ true → stripes ≡ take (64 * count) d → 64 * count ≤ length d
      → (64 ≤ length stripes → IsPut s.window w 0 (drop (length stripes - 64) stripes)) → (length stripes < 64 → w ≡ s.window) → IsSame w 0 (m ++ d) (64 * (n + count) - 64) 64
  front_stays w stripes count empty has stripes_are fits p kept =
      let long : length stripes ≡ 64 * count = ap length stripes_are ∙ length-take-le (64 * count) d fits in
      let at_last : length stripes - 64 ≡ 64 * (count - 1) = omega arith in
      elim (cases_lt 0 count) [
        | inl some ↦
            front_stripe w (drop (length stripes - 64) stripes) count empty some fits (p (omega arith)) (λ i. drop (at_last i) (stripes_are i))
            (length-drop (length stripes - 64) stripes ∙ omega arith)
        | inr none ↦ front_kept w count (omega arith) has (kept (omega arith))
      ]

-- the four stripes that wait
pub takes_buffer : (s t : State) (m : List ℕ) (n : ℕ) → IsFedAt s m n → (last : List ℕ) → s.filled ≡ 256
    → t.sums ≡ with_stripes default_secret s.sums s.window 64 s.place 4 → IsPut s.window t.window 0 last → last ≡ take 64 (drop 256 s.window) → length last ≡ 64
    → t.filled ≡ 0 → t.place ≡ (s.place + 4) % 16 → t.has_stripes ≡ true → t.total ≡ s.total → IsFedAt t m (n + 4)
takes_buffer s t m n h last full sums p last_is long filled place stripes total =
    let all = h.length_is in
    let placed = h.place_is in
    record {
      length_is = omega arith;
      total_is = total ∙ h.total_is;
      place_is = omega arith;
      some = λ e. omega arith;
      none = λ e. cc;
      sums_are =
          message-more default_secret m s.window n 4 64 s.place s.sums t.sums h.sums_are h.place_is
          (record { each = λ k l. h.behind.each k (omega arith) }) sums;
      last = λ _. record {
        each = λ k l.
            put_inside s.window t.window 0 last p k (omega arith) ∙ ap (λ (xs : List ℕ). get_or xs k 0) last_is ∙ get_or-take 64 (drop 256 s.window) k 0 l ∙ get_or-drop 256 s.window k 0
            ∙ moved s.window (256 + k) (64 + (192 + k)) (omega arith) ∙ h.behind.each (192 + k) (omega arith)
            ∙ moved m (64 * n + (192 + k)) (64 * (n + 4) - 64 + k) (omega arith);
      };
      behind = record { each = λ k l. absurd (omega arith) };
    }

-- the sums at the end of the message
pub ends : (s : State) (m : List ℕ) (n : ℕ) → IsFedAt s m n → 4 ≤ n → 0 < s.filled → (count : ℕ) → count ≡ (s.filled - 1) / 64 → (sums result : List ℕ)
    → sums ≡ with_stripes default_secret s.sums s.window 64 s.place count → result ≡ with_stripe default_secret sums s.window s.filled 121 → result ≡ message_sums default_secret m
unfolding message_sums
ends s m n h four waits count count_is sums result sums_is result_is =
    let all = h.length_is in
    let stripes : n + count ≡ (length m - 1) / 64 = omega arith in
    let before =
    message-more default_secret m s.window n count 64 s.place s.sums sums h.sums_are h.place_is
    (record { each = λ k l. h.behind.each k (omega arith) }) sums_is in
    let same : IsSame s.window s.filled m (length m - 64) 64 = record {
      each = λ k l. elim (cases_lt (s.filled + k) 64) [
        | inl few ↦
            moved s.window (s.filled + k) (0 + (s.filled + k)) (omega arith) ∙ (h.last four).each (s.filled + k) few
            ∙ moved m (64 * n - 64 + (s.filled + k)) (length m - 64 + k) (omega arith)
        | inr many ↦
            let j = s.filled + k - 64 in
            moved s.window (s.filled + k) (64 + j) (omega arith) ∙ h.behind.each j (omega arith) ∙ moved m (64 * n + j) (length m - 64 + k) (omega arith)
      ];
    } in
    result_is ∙ with_stripe-same default_secret sums s.window s.filled m (length m - 64) 121 same
    ∙ ap (λ (x : List ℕ). with_stripe default_secret x m (length m - 64) 121) (before ∙ ap (with_stripes default_secret first_sums m 0 0) stripes)

-- a message of which no stripe is in the sums
pub whole : (s : State) (m : List ℕ) (n : ℕ) → IsFedAt s m n → s.has_stripes ≡ false → length s.window ≡ 320 → s.filled ≤ 256 → (k : ℕ) → k ≡ s.filled
    → take k (drop 64 s.window) ≡ m
whole s m n h empty long fits k k_is =
    let all = h.length_is in
    let none = h.none empty in
    let left : length (drop 64 s.window) ≡ 256 = length-drop 64 s.window ∙ omega arith in
    ext_get_or 0 (take k (drop 64 s.window)) m (length-take-le k (drop 64 s.window) (omega arith) ∙ omega arith)
    (λ i l.
    let inside : i < k = omega (arith, length-take-le k (drop 64 s.window) (omega arith)) in
    get_or-take k (drop 64 s.window) i 0 inside ∙ get_or-drop 64 s.window i 0 ∙ h.behind.each i (omega arith) ∙ moved m (64 * n + i) i (omega arith))

lt-not-eqb : (a b : ℕ) → b < a → eqb a b ≡ false
lt-not-eqb a b h = grind (arith, nat_tests)

-- a message of more than 240 bytes
pub hash64_of_long : (secret m : List ℕ) → 240 < length m → hash64_by secret m ≡ hash64_long secret m
unfolding hash64_by
hash64_of_long secret m h =
    rw (lt-not-eqb (length m) 0 (omega arith), lt-leb (length m) 3 (omega arith), lt-leb (length m) 8 (omega arith), lt-leb (length m) 16 (omega arith), lt-leb (length m) 128 (omega arith), lt-leb (length m) 240 h) refl

pub hash128_of_long : (secret m : List ℕ) → 240 < length m → hash128_by secret m ≡ hash128_long secret m
unfolding hash128_by
hash128_of_long secret m h =
    rw (lt-not-eqb (length m) 0 (omega arith), lt-leb (length m) 3 (omega arith), lt-leb (length m) 8 (omega arith), lt-leb (length m) 16 (omega arith), lt-leb (length m) 128 (omega arith), lt-leb (length m) 240 h) refl

module _ (s : State) (m : List ℕ) (n : ℕ) (h : IsFedAt s m n) (stripes : s.has_stripes ≡ true) (waits : 0 < s.filled) (sums : List ℕ)
    (sums_are : sums ≡ message_sums default_secret m) where
  -- a product with the length, from its remainder
  times_length : (p : ℕ) → (s.total * p) % 2 ^ 64 ≡ (length m * p) % 2 ^ 64
  times_length p = ap (λ (k : ℕ). (k * p) % 2 ^ 64) h.total_is ∙ mul-mod_first (length m) p (2 ^ 64)

  long : 240 < length m
  long = let all = h.length_is in let four = h.some stripes in omega arith

  pub low_end : (r : ℕ) → r ≡ merged_sums default_secret sums 11 ((s.total * 0x9E3779B185EBCA87) % 2 ^ 64) → r ≡ hash64_long default_secret m
  unfolding hash64_long
  low_end r e = e ∙ (λ i. merged_sums default_secret (sums_are i) 11 (times_length 0x9E3779B185EBCA87 i))

  pub ends64 : (r : ℕ) → r ≡ merged_sums default_secret sums 11 ((s.total * 0x9E3779B185EBCA87) % 2 ^ 64) → r ≡ xxh3_64 m
  unfolding xxh3_64
  ends64 r e = low_end r e ∙ sym (hash64_of_long default_secret m long)

  pub high_end : (low high : ℕ) → low ≡ merged_sums default_secret sums 11 ((s.total * 0x9E3779B185EBCA87) % 2 ^ 64)
      → high ≡ merged_sums default_secret sums 117 (2 ^ 64 - 1 - (s.total * 0xC2B2AE3D27D4EB4F) % 2 ^ 64) → halves low high ≡ hash128_long default_secret m
  unfolding hash128_long
  high_end low high e f =
      λ i. halves ((e ∙ (λ j. merged_sums default_secret (sums_are j) 11 (times_length 0x9E3779B185EBCA87 j))) i)
      ((f ∙ (λ j. merged_sums default_secret (sums_are j) 117 (2 ^ 64 - 1 - times_length 0xC2B2AE3D27D4EB4F j))) i)

  pub ends128 : (r low high : ℕ) → low ≡ merged_sums default_secret sums 11 ((s.total * 0x9E3779B185EBCA87) % 2 ^ 64)
      → high ≡ merged_sums default_secret sums 117 (2 ^ 64 - 1 - (s.total * 0xC2B2AE3D27D4EB4F) % 2 ^ 64) → r ≡ low + high * 2 ^ 64 → r ≡ xxh3_128 m
  unfolding xxh3_128
  ends128 r low high e f joined =
      joined ∙ ap (λ (x : Halves). x.low + x.high * 2 ^ 64) (high_end low high e f ∙ sym (hash128_of_long default_secret m long))
