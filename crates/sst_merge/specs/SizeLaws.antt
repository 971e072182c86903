-- Laws of the sizes of blocks and tables.
use Rattle.std.proofs.Common.{◌≡◌, ℕ, suc, ◌+◌, ◌-◌, ◌/◌, ◌^◌, ◌<◌, ◌≤◌, ◌⊎◌, min, List, [], ◌∷◌, ◌++◌, length, take, drop, slice_get, is_some, true, Option, Some, None, refl, sym, ap, subst, ◌∙◌, inl, inr, arith, length-append, append-nil}
use Rattle.std.proofs.lemmas.Bool.{cases_lt}
use Rattle.std.proofs.lemmas.List.{length_push, take-append-le, drop-append-le, take_all, drop_all}
use Rattle.std.proofs.lemmas.List.Sums.{sum_by-append}
use Rattle.std.proofs.lemmas.Option.{slice_get-get_or}
use Rattle.std.specs.List.{AllByRecursion}
use Rattle.std.specs.Option.{option_map, IfSome}
use Rattle.sstable_blocks.specs.Prelude.{Entry, varint, body, item_form, entries}
use Rattle.sstable_blocks.specs.BlockLaws.{varint_within_more, varint_within_small, body-append}
use Rattle.sstable_blocks.specs.Blocks.{joined}
use Rattle.sst_sources.specs.Sources.{IsTaken}
use Rattle.sst_merge.specs.TableLaws.{last_of}
use Rattle.sst_merge.specs.Tables.{IsApart, IsFilled, IsShortest, Reaches, capped, block_len, blocks_len}
use Rattle.sstable_blocks.specs.RunLaws.{joined_push}
use Rattle.sstable_blocks.specs.EndLaws.{all_push}

pub reaches_size : (a n size : ℕ) → n ≡ capped a → size ≤ n → size ≤ a
reaches_size a n size e h = omega arith

-- numbers that take one byte as a varint, two, or three
pub one_byte : (n : ℕ) → n < 128 → length (varint n) ≡ 1
unfolding varint
one_byte n h = ap length (varint_within_small 9 n h)

pub two_bytes : (n : ℕ) → 128 ≤ n → n < 16384 → length (varint n) ≡ 2
unfolding varint
two_bytes n h k =
    let below : n / 128 < 128 = omega arith in
    ap length (varint_within_more 8 n h) ∙ ap (λ m. suc m) (ap length (varint_within_small 8 (n / 128) below))

pub three_bytes : (n : ℕ) → 16384 ≤ n → n < 2097152 → length (varint n) ≡ 3
unfolding varint
three_bytes n h k =
    let some : 128 ≤ n = omega arith in
    let more : 128 ≤ n / 128 = omega arith in
    let below : n / 128 / 128 < 128 = omega arith in
    ap length (varint_within_more 8 n some) ∙ ap (λ m. suc m) (ap length (varint_within_more 7 (n / 128) more))
    ∙ ap (λ m. suc (suc m)) (ap length (varint_within_small 7 (n / 128 / 128) below))

-- of no entry
pub len_none : (r : ℕ) → block_len r [] ≡ 0
unfolding body
len_none r = refl

-- of one entry more
pub len_entry : (r : ℕ) → 0 < r → (block : List Entry) (e : Entry) → block_len r (block ++ e ∷ []) ≡ block_len r block + length (item_form entries r (block ++ e ∷ []) (length block) e)
len_entry r pos block e =
    ap length (body-append entries r pos block (e ∷ []))
    ∙ length-append (body entries r block) (item_form entries r (block ++ e ∷ []) (length block) e ++ [])
    ∙ ap (λ bytes. block_len r block + length bytes) (append-nil (item_form entries r (block ++ e ∷ []) (length block) e))

pub len_more : (r : ℕ) → 1 ≤ r → (block more : List Entry) (e : Entry) (n k m : ℕ) → more ≡ block ++ e ∷ [] → n ≡ capped (block_len r block) → k ≡ length (item_form entries r (block ++ e ∷ []) (length block) e) → m ≡ min (n + k) (2 ^ 64 - 1) → m ≡ capped (block_len r more)
len_more r pos block more e n k m is h i j =
    let l : block_len r more ≡ block_len r block + k = ap (block_len r) is ∙ len_entry r pos block e ∙ ap (λ n. block_len r block + n) (sym i) in
    omega (arith, h, j, l)

-- of one block more
pub len_block : (r : ℕ) (blocks : List (List Entry)) (b : List Entry) (n k m : ℕ) → n ≡ capped (blocks_len r blocks) → k ≡ capped (block_len r b) → m ≡ min (n + k) (2 ^ 64 - 1) → m ≡ capped (blocks_len r (blocks ++ b ∷ []))
len_block r blocks b n k m e f g =
    let both : blocks_len r (blocks ++ b ∷ []) ≡ blocks_len r blocks + (0 + block_len r b) = sum_by-append (block_len r) blocks (b ∷ []) in
    omega arith

abbrev pub IsBelow : ℕ → ℕ → List Entry → Type 0
IsBelow r size block = (n : ℕ) → 1 ≤ n → n < length block → block_len r (take n block) < size

-- a block that had no entry, or was below its size, has one more
pub below_more : (r size : ℕ) (block more : List Entry) (e : Entry) (n : ℕ) → size < 2 ^ 64 → more ≡ block ++ e ∷ [] → n ≡ capped (block_len r block) → IsBelow r size block → (length block ≡ 0) ⊎ (n < size) → IsBelow r size more
below_more r size block more e n fits is h below on k one inside =
    let l = ap length is ∙ length_push block e in
    let front : take k more ≡ take k block = ap (take k) is ∙ take-append-le k block (e ∷ []) (omega (arith, l, inside)) in
    subst (λ (xs : List Entry). block_len r xs < size) (sym front) (elim (cases_lt k (length block)) [
      | inl less ↦ below k one less
      | inr all ↦ subst (λ (xs : List Entry). block_len r xs < size) (sym (take_all k block all)) (elim on [
        | inl none ↦ absurd (omega (arith, l, none, one, inside, all))
        | inr less ↦ omega (arith, h, less, fits)
      ])
    ])

-- where nothing was left, nothing is left later
pub none_later : (s t : Option (List Entry)) (items : List Entry) → IfSome s (λ xs. xs ≡ []) → IsTaken s items t → IfSome t (λ xs. xs ≡ [])
none_later None None items h e = tt
none_later None (Some ys) items h e = absurd (cc)
none_later (Some xs) None items h e = tt
none_later (Some xs) (Some ys) items h e = ends items ys (cc)
  where
    ends : (items ys : List Entry) → items ++ ys ≡ [] → ys ≡ []
    ends [] ys e = e
    ends (z ∷ zs) ys e = absurd (cc)

reaches_later : (size len : ℕ) (s t : Option (List Entry)) (items : List Entry) → IsTaken s items t → Reaches size len s → Reaches size len t
reaches_later size len s t items taken h = elim h [
  | inl more ↦ inl more
  | inr none ↦ inr (none_later s t items none taken)
]

filled_later : (r size : ℕ) (s t : Option (List Entry)) (items : List Entry) → IsTaken s items t → (blocks : List (List Entry)) → AllByRecursion (IsFilled r size s) blocks → AllByRecursion (IsFilled r size t) blocks
filled_later r size s t items taken [] all = tt
filled_later r size s t items taken (b ∷ blocks) all = (record { reaches = reaches_later size (block_len r b) s t items taken all.0.reaches; below = all.0.below }, filled_later r size s t items taken blocks all.1)

-- one block more
pub filled_more : (r size : ℕ) (s t : Option (List Entry)) (blocks : List (List Entry)) (b : List Entry) → AllByRecursion (IsFilled r size s) blocks → IsTaken s b t → IsFilled r size t b → AllByRecursion (IsFilled r size t) (blocks ++ b ∷ [])
filled_more r size s t blocks b all taken h = all_push (IsFilled r size t) blocks b (filled_later r size s t b taken blocks all) h

first_of_more : (xs ys : List Entry) (x : Entry) → slice_get xs 0 ≡ Some x → slice_get (xs ++ ys) 0 ≡ Some x
first_of_more [] ys x e = absurd (cc)
first_of_more (z ∷ zs) ys x e = e

-- what is apart from more is apart from the first part
pub apart_from_part : (xs ys zs : List Entry) → IsApart xs (ys ++ zs) → IsApart xs ys
apart_from_part xs ys zs h last next e f = h last next e (first_of_more ys zs next f)

first_part : (xs ys : List Entry) → 1 ≤ length xs → slice_get (xs ++ ys) 0 ≡ slice_get xs 0
first_part [] ys some = absurd (omega arith)
first_part (x ∷ xs) ys some = refl

pub apart_from_all : (xs ys zs : List Entry) → 1 ≤ length ys → IsApart xs ys → IsApart xs (ys ++ zs)
apart_from_all xs ys zs some h last next e f = h last next e (sym (first_part ys zs some) ∙ f)

-- what ends with a part is apart where the part is
part_apart : (xs ys rest : List Entry) → 1 ≤ length ys → IsApart (xs ++ ys) rest → IsApart ys rest
part_apart xs ys rest some h last next e f = h last next (last_of xs ys some ∙ e) f

pub apart_part : (xs ys rest : List Entry) → 1 ≤ length ys → IsApart ys rest → IsApart (xs ++ ys) rest
apart_part xs ys rest some h last next e f = h last next (sym (last_of xs ys some) ∙ e) f

-- one block more, where the table went on
pub shortest_more : (r size : ℕ) (blocks front : List (List Entry)) (last b rest : List Entry) (t : List Entry) → IsShortest r size blocks → blocks ≡ front ++ last ∷ [] → 1 ≤ length last → 1 ≤ length b → rest ≡ b ++ t
    → (IsApart last rest → blocks_len r blocks < size) → IsShortest r size (blocks ++ b ∷ [])
shortest_more r size blocks front last b rest t all ends some filled is on n one inside apart =
    let l = length_push blocks b in
    let a : take n (blocks ++ b ∷ []) ≡ take n blocks = take-append-le n blocks (b ∷ []) (omega (arith, l, inside)) in
    let d : drop n (blocks ++ b ∷ []) ≡ drop n blocks ++ b ∷ [] = drop-append-le n blocks (b ∷ []) (omega (arith, l, inside)) in
    let k : IsApart (joined (take n blocks)) (joined (drop n blocks) ++ b) =
    subst (λ ys. IsApart (joined (take n blocks)) ys) (ap joined d ∙ joined_push (drop n blocks) b) (subst (λ (xs : List (List Entry)). IsApart (joined xs) (joined (drop n (blocks ++ b ∷ [])))) a apart) in
    subst (λ (xs : List (List Entry)). blocks_len r xs < size) (sym a) (elim (cases_lt n (length blocks)) [
      | inl less ↦ all n one less (apart_from_part (joined (take n blocks)) (joined (drop n blocks)) b k)
      | inr more ↦ (
          let whole : take n blocks ≡ blocks = take_all n blocks more in
          let none : drop n blocks ≡ [] = drop_all n blocks more in
          let e : joined blocks ≡ joined front ++ last = ap joined ends ∙ joined_push front last in
          let p : IsApart (joined front ++ last) b = subst (λ xs. IsApart xs b) (ap joined whole ∙ e) (subst (λ (xs : List (List Entry)). IsApart (joined (take n blocks)) (joined xs ++ b)) none k) in
          let q : IsApart last rest = subst (λ xs. IsApart last xs) (sym is) (apart_from_all last b t filled (part_apart (joined front) last b some p)) in
          subst (λ (xs : List (List Entry)). blocks_len r xs < size) (sym whole) (on q))
    ])

-- one block more, where the table went on and its list is known
pub shortest_block : (r size : ℕ) (blocks front : List (List Entry)) (last b : List Entry) (before s t : Option (List Entry)) → IsTaken before (joined blocks) s → IsTaken s b t → IfSome before (λ _. IsShortest r size blocks) → blocks ≡ front ++ last ∷ [] → 1 ≤ length last → 1 ≤ length b
    → IfSome s (λ rest. IsApart last rest → blocks_len r blocks < size) → IfSome before (λ _. IsShortest r size (blocks ++ b ∷ []))
shortest_block r size blocks front last b None s t taken more all ends some filled on = tt
shortest_block r size blocks front last b (Some xs) None t taken more all ends some filled on = absurd (cc)
shortest_block r size blocks front last b (Some xs) (Some rest) None taken more all ends some filled on = absurd (cc)
shortest_block r size blocks front last b (Some xs) (Some rest) (Some ys) taken more all ends some filled on = shortest_more r size blocks front last b rest ys all ends some filled (cc) on

pub reaches_by : (s : Option (List Entry)) (len n size : ℕ) → n ≡ capped len → (size ≤ n) ⊎ IfSome s (λ xs. xs ≡ []) → Reaches size len s
reaches_by s len n size e h = elim h [
  | inl more ↦ inl (reaches_size len n size e more)
  | inr none ↦ inr none
]

-- where no first entry is seen, none is left
pub none_peeked : {X Y : Type 0} (f : Y → X) (list : Option (List X)) (r : Option Y) → r ≡ None → IfSome list (λ xs. option_map f r ≡ slice_get xs 0) → IfSome list (λ xs. xs ≡ [])
none_peeked f None r e h = tt
none_peeked f (Some []) r e h = refl
none_peeked f (Some (x ∷ xs)) None e h = absurd (cc)
none_peeked f (Some (x ∷ xs)) (Some y) e h = absurd (cc)

-- entries have a last one
pub some_last : {X : Type 0} (xs : List X) → 1 ≤ length xs → None ≡ slice_get xs (length xs - 1) → ⊥
some_last [] some e = absurd (omega arith)
some_last (x ∷ xs) some e = absurd (let g = slice_get-get_or (x ∷ xs) (length (x ∷ xs) - 1) x (omega arith) in cc)

pub joined_some : (blocks front : List (List Entry)) (b : List Entry) → blocks ≡ front ++ b ∷ [] → 1 ≤ length b → 1 ≤ length (joined blocks)
joined_some blocks front b e some =
    let w : length (joined blocks) ≡ length (joined front) + length b = ap length (ap joined e ∙ joined_push front b) ∙ length-append (joined front) b in
    omega (arith, w, some)

pub some_first : {X Y : Type 0} (f : Y → X) (list : Option (List X)) (r : Option Y) → IfSome list (λ xs. option_map f r ≡ slice_get xs 0) → is_some r ≡ true → IfSome list (λ xs. 1 ≤ length xs)
some_first f None r h e = tt
some_first f (Some []) None h e = absurd (cc)
some_first f (Some []) (Some y) h e = absurd (cc)
some_first f (Some (x ∷ xs)) r h e = omega arith

-- one block is the shortest table
pub one_shortest : (r size : ℕ) (given : Option (List Entry)) (b : List Entry) → IfSome given (λ _. IsShortest r size (b ∷ []))
one_shortest r size None b = tt
one_shortest r size (Some xs) b = λ n one inside apart. absurd (omega arith)
