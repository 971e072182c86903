-- The tests of the checks decide the stages.
use Rattle.std.proofs.Common.{◌≡◌, ◌≢◌, ℕ, zero, suc, ◌+◌, ◌*◌, ◌<◌, ◌≤◌, ◌^◌, ◌&&◌, ◌||◌, Bool, true, not, cond, eqb, leb, List, [], ◌∷◌, drop, refl, arith, sym, ◌∙◌, ap, subst, ◌⊎◌, inl, inr}
use Rattle.std.proofs.lemmas.Bool.{le-leb, leb-true, eq-eqb, eqb-true, and_from, and_parts, or_cases, or_left, or_right, ne_eqb, eqb-false, cases_eq, cases_Bool}
use Rattle.std.proofs.lemmas.Bool.Decides.{Decides-and, Decides-eqb, Decides-ltb}
use Rattle.std.specs.Bool.{Decides}
use Rattle.std.specs.List.{AllByRecursion, list_all}
use Rattle.std.specs.Cmp.Lexicographic.{bytes_decides}
use Rattle.std.specs.declared.cmp.Ordering.{Ordering}
use Rattle.std.specs.declared.cmp.Ordering.TheVariants.{Less, Equal, Greater}
use Rattle.std.specs.Ordering.{is_lt}
use Rattle.sst_base.specs.Order.{IsInOrder}
use Rattle.byteorder.specs.Endian.{little_number}
use Rattle.sst_block_core.specs.Kind.{Kind, item_cmp}
use Rattle.sst_block_core.specs.Body.{place_offset, items_at}
use Rattle.sst_block_core.specs.Trailer.{Trailer}
use Rattle.sst_block_core.specs.Pointers.{pointer_width}
use Rattle.sst_block_core.specs.Handles.{handles, EndFits, HasEnds}
use Rattle.sst_block_core.specs.Stages.{body_in, pointer_bytes, reads_all, items_by, HasParts, HasForms, HasOrder, HasPointers, HasBuckets}
use Rattle.sst_block_core.specs.Checks.{all_below, is_in_order, has_parts, has_forms, has_order, has_pointers, has_buckets, end_fits}
use Rattle.sst_block_core.specs.CanonicalLaws.{reads_whole}

decides_below : (test : ℕ → Bool) (P : ℕ → Type 0) → ((k : ℕ) → Decides (test k) (P k)) → (n : ℕ) → Decides (all_below n test) ((k : ℕ) → k < n → P k)
decides_below test P each zero = ((λ e k h. absurd (omega arith)), λ h. refl)
decides_below test P each (suc n) = (
  (λ e. let p = and_parts (all_below n test) (test n) e in
      let before = (decides_below test P each n).0 p.0 in
      λ k h. elim (cases_eq k n) [
        | inl same ↦ subst P (sym same) ((each n).0 p.1)
        | inr other ↦ before k (omega arith)
      ]),
  (λ h. and_from (all_below n test) (test n) ((decides_below test P each n).1 (λ k l. h k (omega arith))) ((each n).1 (h n (omega arith)))),
)

decides_all : {X : Type 0} (test : X → Bool) (P : X → Type 0) → ((x : X) → Decides (test x) (P x)) → (xs : List X) → Decides (list_all test xs) (AllByRecursion P xs)
decides_all test P each [] = ((λ e. tt), λ h. refl)
decides_all test P each (x ∷ xs) = Decides-and (test x) (list_all test xs) (each x) (decides_all test P each xs)

not_less : (o : Ordering) → Decides (not (is_lt o)) (o ≢ Less)
not_less Less = ((λ e. cc), λ h. absurd (h refl))
not_less Equal = ((λ e f. cc), λ h. refl)
not_less Greater = ((λ e f. cc), λ h. refl)

decides_order : {X : Type 0} (cmp : X → X → Ordering) (xs : List X) → Decides (is_in_order cmp xs) (IsInOrder cmp xs)
decides_order cmp [] = ((λ e. tt), λ h. refl)
decides_order cmp (x ∷ []) = ((λ e. tt), λ h. refl)
decides_order cmp (x ∷ y ∷ xs) = Decides-and (not (is_lt (cmp y x))) (is_in_order cmp (y ∷ xs)) (not_less (cmp y x)) (decides_order cmp (y ∷ xs))

pub decides_forms : {X : Type 0} (kind : Kind X) (t : Trailer) (p : List ℕ) → Decides (has_forms kind t p) (HasForms kind t p)
unfolding items_by
decides_forms kind t p = (
  (λ e. reads_whole (items_at kind t.interval 0 t.item_count [] (body_in t p)) e),
  (λ h. ap reads_all h),
)

pub decides_pointers : {X : Type 0} (kind : Kind X) (t : Trailer) (p : List ℕ) → Decides (has_pointers kind t p) (HasPointers kind t p)
decides_pointers kind t p =
    let same : ℕ → Bool = λ j. eqb (little_number t.width (drop (j * t.width) (pointer_bytes t p))) (place_offset kind t.interval (items_by kind t p) (j * t.interval)) in
    let each = decides_below same (λ j. little_number t.width (drop (j * t.width) (pointer_bytes t p)) ≡ place_offset kind t.interval (items_by kind t p) (j * t.interval)) (λ j. Decides-eqb _ _) t.heads in
    let both = Decides-and (all_below t.heads same) (eqb t.width (pointer_width kind t.interval (items_by kind t p))) each (Decides-eqb _ _) in
    ((λ e. record { offsets = (both.0 e).0; width = (both.0 e).1 }), λ h. both.1 (h.offsets, h.width))

pub decides_buckets : {X : Type 0} (kind : Kind X) (hash : List ℕ → ℕ) (t : Trailer) (p : List ℕ) → Decides (has_buckets kind hash t p) (HasBuckets kind hash t p)
decides_buckets kind hash t p = decides_below _ _ (λ q. Decides-eqb _ _) t.hash_len

pub decides_ends : (t : Trailer) (p : List ℕ) → Decides (list_all end_fits (items_by handles t p)) (HasEnds t p)
decides_ends t p = decides_all end_fits EndFits (λ h. Decides-ltb (h.offset + h.size) (2 ^ 64)) (items_by handles t p)

pub decides_in_order : {X : Type 0} (kind : Kind X) (t : Trailer) (p : List ℕ) → Decides (has_order kind t p) (HasOrder kind t p)
decides_in_order kind t p = decides_order (item_cmp kind) (items_by kind t p)

hash_parts : (t : Trailer) → cond (eqb t.hash_len 0) (eqb t.hash_offset 0) (leb t.heads 254 && eqb t.hash_offset (t.index_offset + t.heads * t.width)) ≡ true
    → (t.hash_len ≡ 0 → t.hash_offset ≡ 0) × (0 < t.hash_len → t.heads ≤ 254) × (0 < t.hash_len → t.hash_offset ≡ t.index_offset + t.heads * t.width)
hash_parts t e = elim (cases_Bool (eqb t.hash_len 0)) [
  | inl none ↦ (
      let zero : t.hash_len ≡ 0 = eqb-true _ _ none in
      let offset : t.hash_offset ≡ 0 = eqb-true _ _ (ap (λ b. cond b (eqb t.hash_offset 0) (leb t.heads 254 && eqb t.hash_offset (t.index_offset + t.heads * t.width))) (sym none) ∙ e) in
      ((λ h. offset), (λ h. absurd (omega arith)), (λ h. absurd (omega arith))))
  | inr some ↦ (
      let both = and_parts (leb t.heads 254) (eqb t.hash_offset (t.index_offset + t.heads * t.width)) (ap (λ b. cond b (eqb t.hash_offset 0) (leb t.heads 254 && eqb t.hash_offset (t.index_offset + t.heads * t.width))) (sym some) ∙ e) in
      let other = eqb-false _ _ some in
      ((λ h. absurd (other h)), (λ h. leb-true _ _ both.0), (λ h. eqb-true _ _ both.1)))
]

hash_test : (t : Trailer) → (t.hash_len ≡ 0 → t.hash_offset ≡ 0) → (0 < t.hash_len → t.heads ≤ 254) → (0 < t.hash_len → t.hash_offset ≡ t.index_offset + t.heads * t.width)
    → cond (eqb t.hash_len 0) (eqb t.hash_offset 0) (leb t.heads 254 && eqb t.hash_offset (t.index_offset + t.heads * t.width)) ≡ true
hash_test t a b c = elim (cases_eq t.hash_len 0) [
  | inl same ↦ ap (λ x. cond x (eqb t.hash_offset 0) (leb t.heads 254 && eqb t.hash_offset (t.index_offset + t.heads * t.width))) (eq-eqb _ _ same) ∙ eq-eqb _ _ (a same)
  | inr other ↦
      ap (λ x. cond x (eqb t.hash_offset 0) (leb t.heads 254 && eqb t.hash_offset (t.index_offset + t.heads * t.width))) (ne_eqb _ _ other)
      ∙ and_from (leb t.heads 254) (eqb t.hash_offset (t.index_offset + t.heads * t.width)) (le-leb _ _ (b (omega arith))) (eq-eqb _ _ (c (omega arith)))
]

width_test : (w : ℕ) → (w ≡ 2) ⊎ (w ≡ 4) → (eqb w 2 || eqb w 4) ≡ true
width_test w (inl two) = or_left (eqb w 2) (eqb w 4) (eq-eqb w 2 two)
width_test w (inr four) = or_right (eqb w 2) (eqb w 4) (eq-eqb w 4 four)

pub parts_from : (t : Trailer) (p : List ℕ) → has_parts t p ≡ true → HasParts t p
parts_from t p e =
    let p8 = and_parts _ _ e in
    let p7 = and_parts _ _ p8.0 in
    let p6 = and_parts _ _ p7.0 in
    let p5 = and_parts _ _ p6.0 in
    let p4 = and_parts _ _ p5.0 in
    let p3 = and_parts _ _ p4.0 in
    let p2 = and_parts _ _ p3.0 in
    let p1 = and_parts _ _ p2.0 in
    let hash = hash_parts t p8.1 in
    record {
      interval = leb-true _ _ p1.0;
      width = elim (or_cases (eqb t.width 2) (eqb t.width 4) p1.1) [ inl two ↦ inl (eqb-true _ _ two) | inr four ↦ inr (eqb-true _ _ four) ];
      some = leb-true _ _ p2.1;
      heads = eqb-true _ _ p3.1;
      reserved_bytes = (bytes_decides _ _).0 p4.1;
      offset = leb-true _ _ p5.1;
      marker = eqb-true _ _ p6.1;
      end = eqb-true _ _ p7.1;
      no_hash = hash.0;
      few_heads = hash.1;
      hash_offset = hash.2;
    }

pub parts_to : (t : Trailer) (p : List ℕ) → HasParts t p → has_parts t p ≡ true
parts_to t p h =
    and_from _ _ (and_from _ _ (and_from _ _ (and_from _ _ (and_from _ _ (and_from _ _ (and_from _ _ (and_from _ _
    (le-leb _ _ h.interval) (width_test t.width h.width)) (le-leb _ _ h.some)) (eq-eqb _ _ h.heads)) ((bytes_decides _ _).1 h.reserved_bytes))
    (le-leb _ _ h.offset)) (eq-eqb _ _ h.marker)) (eq-eqb _ _ h.end)) (hash_test t h.no_hash h.few_heads h.hash_offset)
