-- Places in an index by the fronts of its end keys.
use Rattle.std.proofs.Common.{◌≡◌, ◌≢◌, ℕ, zero, suc, ◌+◌, ◌-◌, ◌*◌, ◌/◌, ◌^◌, ◌<◌, ◌≤◌, ◌++◌, List, [], ◌∷◌, length, take, drop, Some, true, false, cond, if◌then◌else◌, nat_lt, rules, refl, sym, ap, subst, ◌∙◌, arith, inl, inr}
use Rattle.std.proofs.lemmas.Bool.{cases_lt}
use Rattle.std.proofs.lemmas.List.{append_assoc, drop-drop, drop-set-lt, get_or_default, get_or-set_same, length-append, length_push, length-set, take_more, take-set}
use Rattle.std.proofs.lemmas.List.Sums.{sum_by-cons}
use Rattle.std.specs.List.{slice_index, slice_index_or, slice_set}
use Rattle.std.specs.List.Sorted.{IsNonDecreasingBy}
use Rattle.std.specs.Cmp.{nat_cmp_is}
use Rattle.std.specs.Cmp.Lexicographic.{slice_cmp}
use Rattle.std.specs.Ordering.{nat_cmp, ordering_then}
use Rattle.std.specs.declared.cmp.Ordering.{Ordering}
use Rattle.std.specs.declared.cmp.Ordering.TheVariants.{Less, Equal, Greater}
use Rattle.sstable_blocks.specs.Prelude.{Handle, handles, IsOrdered, front, count_passed, passes}
use Rattle.sstable_blocks.specs.BlockLaws.{numbers_decide}
use Rattle.sstable_blocks.specs.SearchLaws.{then_first}
use Rattle.sst_calls.specs.Blocks.{bytes_behind}
use Rattle.sst_calls.specs.Fronts.{AreFronts, IsFront}
use Rattle.sst_calls.specs.OpenRuns.{HasTable, index_given, index_payload_given}
use Rattle.sst_calls.specs.declared.open_run.SstOpenRun.{SstOpenRun}

-- what follows a common prefix decides
behind_prefix : (p a b : List ℕ) → slice_cmp nat_cmp (p ++ a) (p ++ b) ≡ slice_cmp nat_cmp a b
behind_prefix [] a b = refl
behind_prefix (x ∷ p) a b = ap (λ o. ordering_then o (slice_cmp nat_cmp (p ++ a) (p ++ b))) (sym (nat_cmp_is x x Equal refl)) ∙ behind_prefix p a b

-- halves that differ have the order of the wholes
halves_order : (n m a b : ℕ) (o : Ordering) → n ≡ a / 2 → m ≡ b / 2 → n ≢ m → nat_cmp a b ≡ o → o ≡ nat_cmp n m
halves_order n m a b o e f ne is = elim (cases_lt n m) [
  | inl less ↦ sym is ∙ sym (nat_cmp_is a b Less (omega (arith, less, e, f))) ∙ nat_cmp_is n m Less less
  | inr ge ↦ sym is ∙ sym (nat_cmp_is a b Greater (omega (arith, ge, ne, e, f))) ∙ nat_cmp_is n m Greater (omega (arith, ge, ne))
]

-- where the fronts of two keys differ, the keys have their order
fronts_decide : (prefix key other : List ℕ) (n m : ℕ) → IsFront prefix n key → IsFront prefix m other → n ≢ m → slice_cmp nat_cmp key other ≡ nat_cmp n m
unfolding front
fronts_decide prefix key other n m f g apart =
    (λ i. slice_cmp nat_cmp (f.whole i) (g.whole i))
    ∙ behind_prefix prefix f.rest g.rest
    ∙ halves_order n m _ _ (slice_cmp nat_cmp f.rest g.rest) f.is g.is apart (numbers_decide 8 f.rest g.rest f.bytes g.bytes (λ e. apart (f.is ∙ ap (λ x. x / 2) e ∙ sym g.is)))

-- the front of a key that is not below another is not below its front
front_rises : (prefix key next : List ℕ) (n m : ℕ) → IsFront prefix n key → IsFront prefix m next → slice_cmp nat_cmp next key ≢ Less → n ≤ m
front_rises prefix key next n m f g order = elim (cases_lt m n) [
  | inl less ↦ absurd (order (fronts_decide prefix next key m n g f (λ e. omega (arith, e, less)) ∙ sym (nat_cmp_is m n Less less)))
  | inr ge ↦ ge
]

-- the first front is not above the others
first_least : (prefix : List ℕ) (n : ℕ) (ns : List ℕ) (h : Handle) (hs : List Handle) → AreFronts prefix (n ∷ ns) (h ∷ hs) → IsOrdered handles (h ∷ hs) → (j d : ℕ) → j < length (n ∷ ns) → n ≤ slice_index_or (n ∷ ns) j d
first_least prefix n ns h hs are order zero d less = omega arith
first_least prefix n [] h hs are order (suc j) d less = absurd (omega (arith, less))
first_least prefix n (m ∷ ns) h [] are order (suc j) d less = absurd are.1
first_least prefix n (m ∷ ns) h (g ∷ hs) are order (suc j) d less =
    let one = front_rises prefix h.end_key g.end_key n m are.0 are.1.0 (then_first (slice_cmp nat_cmp g.end_key h.end_key) (nat_cmp h.seqno g.seqno) order.0) in
    let more = first_least prefix m ns g hs are.1 order.1 j d (omega (arith, less)) in
    omega (arith, one, more)

-- fronts do not fall
pub fronts_rise : (prefix : List ℕ) (ns : List ℕ) (hs : List Handle) → AreFronts prefix ns hs → IsOrdered handles hs → IsNonDecreasingBy (λ n. n) ns
fronts_rise prefix [] hs are order i j d le less = absurd (omega (arith, less))
fronts_rise prefix (n ∷ ns) [] are order i j d le less = absurd are
fronts_rise prefix (n ∷ ns) (h ∷ hs) are order zero j d le less = first_least prefix n ns h hs are order j d less
fronts_rise prefix (n ∷ ns) (h ∷ hs) are order (suc i) zero d le less = absurd (omega (arith, le))
fronts_rise prefix (n ∷ ns) (h ∷ hs) are order (suc i) (suc j) d le less = fronts_rise prefix ns hs are.1 (tail_in_order h hs order) i j d (omega (arith, le)) (omega (arith, less))
  where
    tail_in_order : (h : Handle) (hs : List Handle) → IsOrdered handles (h ∷ hs) → IsOrdered handles hs
    tail_in_order h [] o = tt
    tail_in_order h (g ∷ hs) o = o.1

-- where the first that is not lower is another number, it and all behind are higher
pub above_all : (ns : List ℕ) (number place : ℕ) → IsNonDecreasingBy (λ n. n) ns → place < length ns → number ≤ slice_index_or ns place 0 → slice_index_or ns place 0 ≢ number
    → (i d : ℕ) → place ≤ i → i < length ns → number < slice_index_or ns i d
above_all ns number place rise inside least apart i d from less = omega (arith, rise place i d from less, get_or_default ns place d 0 inside, least, apart)

-- fronts have 63 bits
pub fronts_small : (prefix : List ℕ) (ns : List ℕ) (hs : List Handle) → AreFronts prefix ns hs → (i : ℕ) → i < length ns → slice_index ns i < 2 ^ 63
fronts_small prefix [] hs are i less = absurd (omega (arith, less))
fronts_small prefix (n ∷ ns) [] are i less = absurd are
fronts_small prefix (n ∷ ns) (h ∷ hs) are zero less = are.0.small
fronts_small prefix (n ∷ ns) (h ∷ hs) are (suc i) less = fronts_small prefix ns hs are.1 i (omega (arith, less))

-- the numbers from `base` on, `size` of them, are those of which a search does not know whether they are below one
pub record IsSought (ns : List ℕ) (number base size : ℕ) : Type 0 where
  pub inside : base + size ≤ length ns
  pub below : (i d : ℕ) → i < base → slice_index_or ns i d < number
  pub others : (i d : ℕ) → base + size ≤ i → i < length ns → number ≤ slice_index_or ns i d

-- a step of the search
pub sought_next : (ns : List ℕ) (number base size half bit : ℕ) → IsNonDecreasingBy (λ n. n) ns → IsSought ns number base size → 0 < size → half ≡ size / 2
    → bit ≡ (if nat_lt (slice_index ns (base + half)) number then 1 else 0) → IsSought ns number (base + (size - half) * bit) half
sought_next ns number base size half bit rise s some is told = elim (cases_lt at number) [
  | inl less ↦ (
      let one : bit ≡ 1 = told ∙ (let yes : nat_lt at number ≡ true = search rules in ap (λ b. if b then 1 else 0) yes) in
      subst (λ b. IsSought ns number (base + (size - half) * b) half) (sym one) (record {
        inside = omega (arith, s.inside, is, some);
        below = λ i d le. omega (arith, rise i (base + half) d (omega (arith, le, is, some)) inside, get_or_default ns (base + half) d 0 inside, less);
        others = λ i d from le. s.others i d (omega (arith, from, is, some)) le;
      }))
  | inr ge ↦ (
      let none : bit ≡ 0 = told ∙ (let no : nat_lt at number ≡ false = search rules in ap (λ b. if b then 1 else 0) no) in
      subst (λ b. IsSought ns number (base + (size - half) * b) half) (sym none) (record {
        inside = omega (arith, s.inside, is, some);
        below = λ i d le. s.below i d (omega (arith, le));
        others = λ i d from le. omega (arith, rise (base + half) i d (omega (arith, from)) le, get_or_default ns (base + half) d 0 inside, ge);
      }))
]
  where
    at : ℕ
    at = slice_index ns (base + half)

    inside : base + half < length ns
    inside = omega (arith, s.inside, is, some)

module _ (prefix key : List ℕ) (number : ℕ) (own : IsFront prefix number key) (s : ℕ) where
  -- a handle with a lower front is passed, one with a higher front is not
  passed : (h : Handle) (n : ℕ) → IsFront prefix n h.end_key → n < number → passes key (Some s) h.end_key h.seqno ≡ true
  passed h n f less =
      let order : slice_cmp nat_cmp h.end_key key ≡ Less = fronts_decide prefix h.end_key key n number f own (λ e. omega (arith, e, less)) ∙ sym (nat_cmp_is n number Less less) in
      rw order refl

  not_passed : (h : Handle) (n : ℕ) → IsFront prefix n h.end_key → number < n → passes key (Some s) h.end_key h.seqno ≡ false
  not_passed h n f more =
      let order : slice_cmp nat_cmp h.end_key key ≡ Greater = fronts_decide prefix h.end_key key n number f own (λ e. omega (arith, e, more)) ∙ sym (nat_cmp_is n number Greater more) in
      rw order refl

  -- where the first fronts are lower, and the others higher, a search passes the handles of the first
  pub counted_by : (ns : List ℕ) (hs : List Handle) → AreFronts prefix ns hs → (place : ℕ) → place ≤ length ns
      → ((i d : ℕ) → i < place → slice_index_or ns i d < number)
      → ((i d : ℕ) → place ≤ i → i < length ns → number < slice_index_or ns i d)
      → count_passed handles key (Some s) hs ≡ place
  unfolding count_passed
  counted_by [] [] are place le below above = omega (arith, le)
  counted_by [] (h ∷ hs) are place le below above = absurd are
  counted_by (n ∷ ns) [] are place le below above = absurd are
  counted_by (n ∷ ns) (h ∷ hs) are zero le below above =
      let one = not_passed h n are.0 (above 0 0 (omega arith) (omega arith)) in
      let more = counted_by ns hs are.1 zero (omega arith) (λ i d less. absurd (omega (arith, less))) (λ i d from less. above (suc i) d (omega arith) (omega (arith, less))) in
      let both = sum_by-cons (λ (x : Handle). cond (passes key (Some s) x.end_key x.seqno) 1 0) h hs ∙ ap (λ b. cond b 1 0 + count_passed handles key (Some s) hs) one in
      omega (arith, both, more)
  counted_by (n ∷ ns) (h ∷ hs) are (suc place) le below above =
      let one = passed h n are.0 (below 0 0 (omega arith)) in
      let more = counted_by ns hs are.1 place (omega (arith, le)) (λ i d less. below (suc i) d (omega (arith, less))) (λ i d from less. above (suc i) d (omega (arith, from)) (omega (arith, less))) in
      let both = sum_by-cons (λ (x : Handle). cond (passes key (Some s) x.end_key x.seqno) 1 0) h hs ∙ ap (λ b. cond b 1 0 + count_passed handles key (Some s) hs) one in
      omega (arith, both, more)

-- the fronts of the handles that are done stand at the front of an array, and what is behind is left
pub record IsFilled (prefix : List ℕ) (all left : List Handle) (at : ℕ) (old new : List ℕ) : Type 0 where
  pub done : List Handle
  pub whole : done ++ left ≡ all
  pub count : length done ≡ at
  pub fronts : AreFronts prefix (take at new) done
  pub rest : drop at new ≡ drop at old
  pub len : length new ≡ length old

fronts_push : (prefix : List ℕ) (ns : List ℕ) (hs : List Handle) (n : ℕ) (h : Handle) → AreFronts prefix ns hs → IsFront prefix n h.end_key → AreFronts prefix (ns ++ n ∷ []) (hs ++ h ∷ [])
fronts_push prefix [] [] n h are one = (one, tt)
fronts_push prefix [] (g ∷ hs) n h are one = absurd are
fronts_push prefix (m ∷ ns) [] n h are one = absurd are
fronts_push prefix (m ∷ ns) (g ∷ hs) n h are one = (are.0, fronts_push prefix ns hs n h are.1 one)

module _ (prefix : List ℕ) (all left : List Handle) (at : ℕ) (old new : List ℕ) (f : IsFilled prefix all left at old new) where
  -- what is behind all handles is left
  pub behind_all : drop (length all) new ≡ drop (length all) old
  behind_all =
      let long : at + length left ≡ length all = omega (arith, f.count, length-append f.done left, ap (λ (xs : List Handle). length xs) f.whole) in
      ap (λ n. drop n new) (sym long) ∙ sym (drop-drop (length left) at new) ∙ ap (drop (length left)) f.rest ∙ drop-drop (length left) at old ∙ ap (λ n. drop n old) long

  -- the front of the next handle is done
  pub filled_more : (h : Handle) (more : List Handle) (n : ℕ) → left ≡ h ∷ more → length all ≤ length new → IsFront prefix n h.end_key → IsFilled prefix all more (at + 1) old (slice_set new at n)
  filled_more h more n first room one =
      let long : at + (1 + length more) ≡ length all = omega (arith, f.count, length-append f.done left, ap (λ (xs : List Handle). length xs) f.whole, ap (λ (xs : List Handle). length xs) first) in
      let inside : at < length new = omega (arith, long, room) in
      let size = length-set new at n in
      let front : take (at + 1) (slice_set new at n) ≡ take at new ++ n ∷ [] = take_more (slice_set new at n) at n (omega (arith, inside, size)) ∙ (λ k. take-set new at n k ++ get_or-set_same new at n n inside k ∷ []) in
      record {
        done = f.done ++ h ∷ [];
        whole = append_assoc f.done (h ∷ []) more ∙ ap (λ xs. f.done ++ xs) (sym first) ∙ f.whole;
        count = omega (arith, length_push f.done h, f.count);
        fronts = subst (λ xs. AreFronts prefix xs (f.done ++ h ∷ [])) (sym front) (fronts_push prefix (take at new) f.done n h f.fronts one);
        rest = drop-set-lt (at + 1) new at n (omega arith) ∙ sym (drop-drop 1 at new) ∙ ap (drop 1) f.rest ∙ drop-drop 1 at old;
        len = size ∙ f.len;
      }

-- the table of a run that was opened, as a search takes it
pub table_of : (bytes payload : List ℕ) (o : SstOpenRun) (numbers : List ℕ) (hs : List Handle) → HasTable bytes o numbers → (o.fronts ≡ 0 → ⊥) → payload ≡ index_payload_given bytes o.handles → hs ≡ index_given bytes o.handles
    → AreFronts (take (o.prefix_offset + o.prefix_len - o.prefix_offset) (drop o.prefix_offset payload)) (take o.fronts numbers) hs
table_of bytes payload o numbers hs t some same index = elim t.table [
  | inl none ↦ absurd (some none)
  | inr are ↦ (
      let len : o.prefix_offset + o.prefix_len - o.prefix_offset ≡ o.prefix_len = omega arith in
      let here = subst (λ xs. AreFronts (bytes_behind (index_payload_given bytes o.handles) o.prefix_offset o.prefix_len) (take o.fronts numbers) xs) (sym index) are in
      let there = subst (λ p. AreFronts (bytes_behind p o.prefix_offset o.prefix_len) (take o.fronts numbers) hs) (sym same) here in
      subst (λ n. AreFronts (take n (drop o.prefix_offset payload)) (take o.fronts numbers) hs) (sym len) there)
]
