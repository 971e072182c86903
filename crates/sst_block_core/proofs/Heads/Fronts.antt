-- Fronts decide where they differ.
use Rattle.std.proofs.Common.{◌≡◌, ◌≢◌, ℕ, ◌+◌, ◌*◌, ◌/◌, ◌^◌, ◌<◌, inl, inr, List, arith, sym, length, slice_index, ◌∙◌, ap}
use Rattle.std.proofs.lemmas.Bool.{cases_lt}
use Rattle.std.proofs.lemmas.List.{get_or_past}
use Rattle.std.specs.Cmp.{nat_cmp_is}
use Rattle.std.specs.Cmp.Lexicographic.{slice_cmp}
use Rattle.std.specs.Ordering.{nat_cmp}
use Rattle.std.specs.declared.cmp.Ordering.TheVariants.{Less, Greater}
use Rattle.byteorder.specs.Endian.{big_number}
use Rattle.byteorder.specs.Numbers.{big_from-lt}
use Rattle.sst_base.specs.Bytes.{IsBytes}
use Rattle.sst_base.specs.NumberLaws.{numbers_decide}
use Rattle.sst_block_core.specs.Heads.{front}

-- a front without its last bit has 63 bits
pub half_small : (xs : List ℕ) → IsBytes xs → front xs / 2 < 2 ^ 63
unfolding front
half_small xs b = let h = big_from-lt 0 8 xs b in omega (arith, h)

-- halves that differ have the order of the wholes
halves_decide : (x y a b : ℕ) → x ≡ a / 2 → y ≡ b / 2 → x ≢ y → nat_cmp x y ≡ nat_cmp a b
halves_decide x y a b e f ne = elim (cases_lt x y) [
  | inl less ↦ sym (nat_cmp_is x y Less less) ∙ nat_cmp_is a b Less (omega (arith, less, e, f))
  | inr ge ↦ sym (nat_cmp_is x y Greater (omega (arith, ge, ne))) ∙ nat_cmp_is a b Greater (omega (arith, ge, ne, e, f))
]

-- fronts that differ also without the last bit decide the order
pub fronts_decide : (xs ys : List ℕ) (x y : ℕ) → IsBytes xs → IsBytes ys → x ≡ front xs / 2 → y ≡ front ys / 2 → x ≢ y → nat_cmp x y ≡ slice_cmp nat_cmp xs ys
unfolding front
fronts_decide xs ys x y b c e f ne =
    halves_decide x y (big_number 8 xs) (big_number 8 ys) e f ne
    ∙ numbers_decide 8 xs ys b c (λ q. ne (e ∙ ap (λ n. n / 2) q ∙ sym f))

-- a short key: the bytes that are there, and zeros
pub front_short : (key : List ℕ) (a b c d e f g : ℕ) → length key < 8 → a ≡ slice_index key 0 → b ≡ slice_index key 1 → c ≡ slice_index key 2 → d ≡ slice_index key 3 → e ≡ slice_index key 4 → f ≡ slice_index key 5 → g ≡ slice_index key 6
    → ((a * 256 + b) * 65536 + c * 256 + d) * 4294967296 + ((e * 256 + f) * 65536 + g * 256) ≡ front key
unfolding front
front_short key a b c d e f g h p q r s t u v =
    let last : slice_index key 7 ≡ 0 = get_or_past key 7 0 (omega arith) in
    omega arith
