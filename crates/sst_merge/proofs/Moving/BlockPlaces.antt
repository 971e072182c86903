-- Laws of lists in blocks: where an item of a block is in the list.
use Rattle.std.proofs.Common.{◌≡◌, ℕ, zero, suc, ◌+◌, ◌<◌, ◌≤◌, List, [], ◌∷◌, ◌++◌, length, take, drop, Some, slice_get, refl, sym, ap, ◌∙◌, arith, length-append}
use Rattle.std.proofs.lemmas.List.{take_all}
use Rattle.std.proofs.lemmas.Option.{slice_get_within}
use Rattle.sstable_blocks.specs.BlockLaws.{some_is}
use Rattle.sstable_blocks.specs.Blocks.{joined}

module _ {X : Type 0} where
  pub before_append : (xs ys : List X) (i : ℕ) (x : X) → slice_get xs i ≡ Some x → slice_get (xs ++ ys) i ≡ Some x
  before_append [] ys i x at = absurd (cc)
  before_append (z ∷ xs) ys zero x at = at
  before_append (z ∷ xs) ys (suc i) x at = before_append xs ys i x at

  pub after_append : (xs ys : List X) (i : ℕ) → slice_get (xs ++ ys) (length xs + i) ≡ slice_get ys i
  after_append [] ys i = ap (slice_get ys) (let e : 0 + i ≡ i = omega arith in e)
  after_append (z ∷ xs) ys i = ap (slice_get (z ∷ xs ++ ys)) (let e : length (z ∷ xs) + i ≡ suc (length xs + i) = omega arith in e) ∙ after_append xs ys i

  -- the item of a block
  pub joined_item : (blocks : List (List X)) (b a : ℕ) (xs : List X) (x : X) → slice_get blocks b ≡ Some xs → slice_get xs a ≡ Some x → slice_get (joined blocks) (length (joined (take b blocks)) + a) ≡ Some x
  joined_item [] b a xs x here at = absurd (cc)
  joined_item (ys ∷ blocks) zero a xs x here at =
      let e : ys ≡ xs = some_is ys xs here in
      ap (slice_get (ys ++ joined blocks)) (let d : 0 + a ≡ a = omega arith in d) ∙ before_append ys (joined blocks) a x (ap (λ zs. slice_get zs a) e ∙ at)
  joined_item (ys ∷ blocks) (suc b) a xs x here at =
      ap (slice_get (ys ++ joined blocks)) (let n = length-append ys (joined (take b blocks)) in let d : length (ys ++ joined (take b blocks)) + a ≡ length ys + (length (joined (take b blocks)) + a) = omega (arith, n) in d)
      ∙ after_append ys (joined blocks) (length (joined (take b blocks)) + a) ∙ joined_item blocks b a xs x here at

  pub before_all : (blocks : List (List X)) (b : ℕ) → length blocks ≤ b → length (joined (take b blocks)) ≡ length (joined blocks)
  before_all blocks b more = ap (λ bs. length (joined bs)) (take_all b blocks more)

  -- an item of a block is inside the list
  pub inside_joined : (blocks : List (List X)) (b a : ℕ) (xs : List X) (x : X) → slice_get blocks b ≡ Some xs → slice_get xs a ≡ Some x → length (joined (take b blocks)) + a < length (joined blocks)
  inside_joined blocks b a xs x here at = slice_get_within (joined blocks) (length (joined (take b blocks)) + a) x (joined_item blocks b a xs x here at)

  -- the first item of what is left of a list
  pub drop_first : (xs : List X) (n : ℕ) (x : X) (ys : List X) → drop n xs ≡ x ∷ ys → (slice_get xs n ≡ Some x) × (ys ≡ drop (suc n) xs) × (n + length (x ∷ ys) ≡ length xs)
  drop_first [] zero x ys e = absurd (cc)
  drop_first [] (suc n) x ys e = absurd (cc)
  drop_first (z ∷ xs) zero x ys e =
      let first : z ≡ x = cc in
      let rest : xs ≡ ys = cc in
      (ap Some first, sym rest ∙ whole xs, (let l = ap length rest in omega (arith, l)))
    where
      whole : (xs : List X) → xs ≡ drop 0 xs
      whole [] = refl
      whole (x ∷ xs) = refl
  drop_first (z ∷ xs) (suc n) x ys e = (let k = drop_first xs n x ys e in (k.0, k.1, (let l = k.2 in omega (arith, l))))

  -- the last item of the first ones of a list
  pub take_last : (xs : List X) (n : ℕ) (x : X) (ys : List X) → take n xs ≡ ys ++ x ∷ [] → (slice_get xs (length ys) ≡ Some x) × (ys ≡ take (length ys) xs) × (length ys < n)
  take_last [] zero x [] e = absurd (cc)
  take_last [] zero x (y ∷ ys) e = absurd (cc)
  take_last [] (suc n) x [] e = absurd (cc)
  take_last [] (suc n) x (y ∷ ys) e = absurd (cc)
  take_last (z ∷ xs) zero x [] e = absurd (cc)
  take_last (z ∷ xs) zero x (y ∷ ys) e = absurd (cc)
  take_last (z ∷ xs) (suc n) x [] e = (let first : z ≡ x = cc in (ap Some first, refl, omega arith))
  take_last (z ∷ xs) (suc n) x (y ∷ ys) e =
      let first : z ≡ y = cc in
      let rest : take n xs ≡ ys ++ x ∷ [] = cc in
      let k = take_last xs n x ys rest in
      (k.0, ap (λ w. w ∷ ys) (sym first) ∙ ap (λ ws. z ∷ ws) k.1, (let l = k.2 in omega (arith, l)))
