-- A search over the last items of blocks finds the block of the first match.
use Rattle.std.proofs.Common.{◌≡◌, ◌≢◌, ℕ, ◌+◌, ◌<◌, ◌≤◌, suc, Bool, true, false, cond, ◌&&◌, ltb, List, [], ◌∷◌, ◌++◌, filter, Option, Some, None, refl, arith, sym, ◌∙◌, ap, subst, ◌⊎◌, inl, inr}
use Rattle.std.proofs.lemmas.Bool.{cases_Bool, cases_lt, leb-true, leb-false, lt-ltb, le-leb}
use Rattle.std.proofs.lemmas.Cmp.{upto, nat_list_cmp_total}
use Rattle.std.proofs.lemmas.List.Sums.{sum_by-cons}
use Rattle.std.specs.Cmp.{nat_cmp_is}
use Rattle.std.specs.Cmp.Lexicographic.{slice_cmp}
use Rattle.std.specs.List.{AllZip, slice_get, count_by}
use Rattle.std.specs.Option.{option_map}
use Rattle.std.specs.Ordering.{nat_cmp, is_eq, is_gt, ordering_then}
use Rattle.std.specs.declared.cmp.Ordering.{Ordering}
use Rattle.std.specs.declared.cmp.Ordering.TheVariants.{Less, Equal, Greater}
use Rattle.sst_base.specs.Order.{versions_cmp}
use Rattle.sst_base.specs.KeyOrderLaws.{versions_cmp_total}
use Rattle.sst_block_core.specs.Kind.{Kind, IsOrdered, item_cmp}
use Rattle.sst_block_core.specs.Window.{passes, passes_cmp, is_version, first_match, count_passed}
use Rattle.sstable_blocks.specs.Blocks.{joined}
use Rattle.sstable_blocks.specs.Lookup.{IsEnd, first_in, place_for}
use Rattle.sstable_blocks.specs.EndLaws.{turned, tail_in_order, back_in_order, block_behind}
use Rattle.sst_block_core.specs.VersionLaws.{version_passed}
use Rattle.sst_block_core.specs.ListLaws.{first_filter}

-- a version: a key and a sequence number
abbrev pair_cmp : List ℕ × ℕ → List ℕ × ℕ → Ordering
pair_cmp = versions_cmp (λ v. v.0) (λ v. v.1)

-- what is passed is not after the bound
passed_by : (o : Ordering) (s n : ℕ) → passes_cmp o (Some s) n ≡ true → is_gt (ordering_then o (nat_cmp s n)) ≡ false
passed_by Less s n e = refl
passed_by Equal s n e =
    let most : s ≤ n = leb-true s n e in
    elim (cases_lt s n) [
      | inl less ↦ ap is_gt (sym (nat_cmp_is s n Less less))
      | inr more ↦ ap is_gt (sym (nat_cmp_is s n Equal (omega arith)))
    ]
passed_by Greater s n e = cc

not_behind : (o : Ordering) (s n : ℕ) → is_gt (ordering_then o (nat_cmp s n)) ≡ false → passes_cmp o (Some s) n ≡ true
not_behind Less s n e = refl
not_behind Equal s n e = elim (cases_lt n s) [
  | inl less ↦ (let k : true ≡ false = ap is_gt (nat_cmp_is s n Greater less) ∙ e in cc)
  | inr more ↦ le-leb s n more
]
not_behind Greater s n e = cc

-- what is not passed is a version below the bound, or has a greater key
not_passed : (o : Ordering) (s n : ℕ) → passes_cmp o (Some s) n ≡ false → ((ltb n s && is_eq o) ≡ true) ⊎ (o ≡ Greater)
not_passed Less s n e = cc
not_passed Equal s n e = let less : n < s = leb-false s n e in inl (ap (λ b. b && true) (lt-ltb n s less))
not_passed Greater s n e = inr refl

-- an item with a greater key is no version
greater_no_version : (o : Ordering) (s n : ℕ) → o ≡ Greater → (ltb n s && is_eq o) ≡ false
greater_no_version Less s n e = cc
greater_no_version Equal s n e = cc
greater_no_version Greater s n e = elim (ltb n s) as (λ b. (b && false) ≡ false) [ true ↦ refl | false ↦ refl ]

pub then_first : (o p : Ordering) → ordering_then o p ≢ Less → o ≢ Less
then_first Less p h = absurd (h refl)
then_first Equal p h = λ e. cc
then_first Greater p h = λ e. cc

gt_is : (o : Ordering) → is_gt o ≡ true → o ≡ Greater
gt_is Less e = cc
gt_is Equal e = cc
gt_is Greater e = refl

slice_get-more : {X : Type 0} (x : X) (xs : List X) (n : ℕ) → slice_get (x ∷ xs) (1 + n) ≡ slice_get xs n
slice_get-more x xs n = ap (λ k. slice_get (x ∷ xs) k) (let e : 1 + n ≡ suc n = omega arith in e)

module _ {X : Type 0} (kind : Kind X) (needle : List ℕ) (s : ℕ) where
  abbrev pass : X → Bool
  pass x = passes needle (Some s) (kind.key x) (kind.seqno x)

  abbrev test : X → Bool
  test x = is_version kind needle s x

  -- an item that does not sort after a passed one is passed
  passed_before : (a b : X) → item_cmp kind b a ≢ Less → pass b ≡ true → pass a ≡ true
  passed_before a b h e =
      let o = versions_cmp_total {X = List ℕ × ℕ} (λ v. v.0) (λ v. v.1) in
      let va : List ℕ × ℕ = (kind.key a, kind.seqno a) in
      let vb : List ℕ × ℕ = (kind.key b, kind.seqno b) in
      let first : is_gt (pair_cmp va vb) ≡ false = ap is_gt (o.antisymm va vb) ∙ turned (pair_cmp vb va) h in
      let second : is_gt (pair_cmp vb (needle, s)) ≡ false = passed_by (slice_cmp nat_cmp (kind.key b) needle) s (kind.seqno b) e in
      not_behind (slice_cmp nat_cmp (kind.key a) needle) s (kind.seqno a) (upto o va vb (needle, s) first second)

  -- an item that does not sort before one with a greater key has a greater key
  greater_after : (y z : X) → item_cmp kind y z ≢ Less → slice_cmp nat_cmp (kind.key z) needle ≡ Greater → slice_cmp nat_cmp (kind.key y) needle ≡ Greater
  greater_after y z h g = elim (cases_Bool (is_gt (slice_cmp nat_cmp (kind.key y) needle))) [
    | inl passed ↦ gt_is (slice_cmp nat_cmp (kind.key y) needle) passed
    | inr other ↦ (
        let o = nat_list_cmp_total in
        let k = then_first (slice_cmp nat_cmp (kind.key y) (kind.key z)) (nat_cmp (kind.seqno z) (kind.seqno y)) h in
        let behind : is_gt (slice_cmp nat_cmp (kind.key z) (kind.key y)) ≡ false = ap is_gt (o.antisymm (kind.key z) (kind.key y)) ∙ turned (slice_cmp nat_cmp (kind.key y) (kind.key z)) k in
        let all : is_gt (slice_cmp nat_cmp (kind.key z) needle) ≡ false = upto o (kind.key z) (kind.key y) needle behind other in
        let wrong : true ≡ false = ap is_gt (sym g) ∙ all in
        cc)
  ]

  -- what sorts before a passed item is passed
  passed_front : (x : X) (front : List X) (last : X) (rest : List X) → IsOrdered kind (x ∷ (front ++ last ∷ rest)) → pass last ≡ true → pass x ≡ true
  passed_front x [] last rest h e = passed_before x last h.0 e
  passed_front x (y ∷ front) last rest h e = passed_before x y h.0 (passed_front y front last rest h.1 e)

  -- up to a passed item there is no version
  skip : (front : List X) (last : X) (rest : List X) → IsOrdered kind (front ++ last ∷ rest) → pass last ≡ true → slice_get (filter test (front ++ last ∷ rest)) 0 ≡ slice_get (filter test rest) 0
  skip [] last rest h e =
      first_filter test last rest
      ∙ ap (λ t. cond t (Some last) (slice_get (filter test rest) 0)) (version_passed (slice_cmp nat_cmp (kind.key last) needle) s (kind.seqno last) e)
  skip (x ∷ front) last rest h e =
      let here = passed_front x front last rest h e in
      first_filter test x (front ++ last ∷ rest)
      ∙ ap (λ t. cond t (Some x) (slice_get (filter test (front ++ last ∷ rest)) 0)) (version_passed (slice_cmp nat_cmp (kind.key x) needle) s (kind.seqno x) here)
      ∙ skip front last rest (tail_in_order (item_cmp kind) x (front ++ last ∷ rest) h) e

  -- after a greater key there is no version
  none_after : (z : X) (rest : List X) → IsOrdered kind (z ∷ rest) → slice_cmp nat_cmp (kind.key z) needle ≡ Greater → slice_get (filter test rest) 0 ≡ None
  none_after z [] h g = refl
  none_after z (y ∷ ys) h g =
      let k = greater_after y z h.0 g in
      first_filter test y ys
      ∙ ap (λ t. cond t (Some y) (slice_get (filter test ys) 0)) (greater_no_version (slice_cmp nat_cmp (kind.key y) needle) s (kind.seqno y) k)
      ∙ none_after y ys h.1 k

  -- after an item that is not passed nothing counts
  stop : (front : List X) (last : X) (rest : List X) → IsOrdered kind (front ++ last ∷ rest) → pass last ≡ false → slice_get (filter test (front ++ last ∷ rest)) 0 ≡ slice_get (filter test (front ++ last ∷ [])) 0
  stop [] last rest h e =
      let behind : cond (test last) (Some last) (slice_get (filter test rest) 0) ≡ cond (test last) (Some last) None =
      elim (not_passed (slice_cmp nat_cmp (kind.key last) needle) s (kind.seqno last) e) [
        | inl passed ↦ ap (λ t. cond t (Some last) (slice_get (filter test rest) 0)) passed ∙ sym (ap (λ t. cond t (Some last) None) passed)
        | inr greater ↦ ap (λ o. cond (test last) (Some last) o) (none_after last rest h greater)
      ] in
      first_filter test last rest ∙ behind ∙ sym (first_filter test last [])
  stop (x ∷ front) last rest h e =
      first_filter test x (front ++ last ∷ rest)
      ∙ ap (λ o. cond (test x) (Some x) o) (stop front last rest (tail_in_order (item_cmp kind) x (front ++ last ∷ rest) h) e)
      ∙ sym (first_filter test x (front ++ last ∷ []))

  module _ {Y : Type 0} (ends : Kind Y) where
    abbrev end_pass : Y → Bool
    end_pass y = passes needle (Some s) (ends.key y) (ends.seqno y)

    end_passes : (block : List X) (h : Y) (e : IsEnd kind ends block h) → end_pass h ≡ pass e.last
    end_passes block h e = ap (λ k. passes needle (Some s) k (ends.seqno h)) e.key ∙ ap (λ n. passes needle (Some s) (kind.key e.last) n) e.seqno

    -- one more handle is counted exactly if the last item of its block is passed
    count_none : (block : List X) (y : Y) (hs : List Y) (e : IsEnd kind ends block y) → pass e.last ≡ false → count_by end_pass hs ≡ 0 → count_by end_pass (y ∷ hs) ≡ 0
    count_none block y hs e other more = sum_by-cons (λ h. cond (end_pass h) 1 0) y hs ∙ ap (λ t. cond t 1 0 + count_by end_pass hs) (end_passes block y e ∙ other) ∙ ap (λ n. 0 + n) more

    count_one : (block : List X) (y : Y) (hs : List Y) (e : IsEnd kind ends block y) → pass e.last ≡ true → count_by end_pass (y ∷ hs) ≡ 1 + count_by end_pass hs
    count_one block y hs e passed = sum_by-cons (λ h. cond (end_pass h) 1 0) y hs ∙ ap (λ t. cond t 1 0 + count_by end_pass hs) (end_passes block y e ∙ passed)

    -- after an item that is not passed no end is passed
    none_passed : (z : X) (blocks : List (List X)) (hs : List Y) → AllZip (IsEnd kind ends) blocks hs → IsOrdered kind (z ∷ joined blocks) → pass z ≡ false → count_by end_pass hs ≡ 0
    none_passed z [] [] zip h e = refl
    none_passed z [] (y ∷ hs) zip h e = absurd zip
    none_passed z (b ∷ bs) [] zip h e = absurd zip
    none_passed z (b ∷ bs) (y ∷ hs) zip h e =
        let i = zip.0 in
        let o : IsOrdered kind (z ∷ (i.front ++ i.last ∷ joined bs)) = subst (λ xs. IsOrdered kind (z ∷ xs)) (block_behind kind ends b y i (joined bs)) h in
        let no : pass i.last ≡ false = elim (cases_Bool (pass i.last)) [
          | inl passed ↦ (let k : true ≡ false = sym (passed_front z i.front i.last (joined bs) o passed) ∙ e in cc)
          | inr other ↦ other
        ] in
        let more = none_passed i.last bs hs zip.1 (back_in_order (item_cmp kind) i.front (i.last ∷ joined bs) (tail_in_order (item_cmp kind) z (i.front ++ i.last ∷ joined bs) o)) no in
        count_none b y hs i no more

    abbrev first_at : Option (List X) → Option X
    first_at None = None
    first_at (Some block) = slice_get (filter test block) 0

    find : (blocks : List (List X)) (hs : List Y) → AllZip (IsEnd kind ends) blocks hs → IsOrdered kind (joined blocks) → slice_get (filter test (joined blocks)) 0 ≡ first_at (slice_get blocks (count_by end_pass hs))
    find [] [] zip h = refl
    find [] (y ∷ hs) zip h = absurd zip
    find (b ∷ bs) [] zip h = absurd zip
    find (b ∷ bs) (y ∷ hs) zip h =
        let i = zip.0 in
        let whole = block_behind kind ends b y i (joined bs) in
        let o : IsOrdered kind (i.front ++ i.last ∷ joined bs) = subst (IsOrdered kind) whole h in
        let behind = back_in_order (item_cmp kind) i.front (i.last ∷ joined bs) o in
        elim (cases_Bool (pass i.last)) [
          | inl passed ↦
              ap (λ xs. slice_get (filter test xs) 0) whole ∙ skip i.front i.last (joined bs) o passed
              ∙ find bs hs zip.1 (tail_in_order (item_cmp kind) i.last (joined bs) behind)
              ∙ ap first_at (sym (slice_get-more b bs (count_by end_pass hs)) ∙ ap (slice_get (b ∷ bs)) (sym (count_one b y hs i passed)))
          | inr other ↦ (
              let zero : count_by end_pass (y ∷ hs) ≡ 0 = count_none b y hs i other (none_passed i.last bs hs zip.1 behind other) in
              ap (λ xs. slice_get (filter test xs) 0) whole ∙ stop i.front i.last (joined bs) o other
              ∙ ap (λ xs. slice_get (filter test xs) 0) (sym i.whole)
              ∙ ap (λ n. first_at (slice_get (b ∷ bs) n)) (sym zero))
        ]

    plain_at : (o : Option (List X)) → option_map kind.plain (first_at o) ≡ first_in kind needle s o
    unfolding first_match
    plain_at None = refl
    plain_at (Some block) = refl

    pub first_match-joined : (blocks : List (List X)) (hs : List Y) → AllZip (IsEnd kind ends) blocks hs → IsOrdered kind (joined blocks) → first_match kind needle s (joined blocks) ≡ first_in kind needle s (slice_get blocks (place_for ends needle s hs))
    unfolding first_match count_passed
    first_match-joined blocks hs zip h = ap (option_map kind.plain) (find blocks hs zip h) ∙ plain_at (slice_get blocks (count_by end_pass hs))
