-- Laws of what reads of several readers count.
use Rattle.std.proofs.Common.{◌≡◌, ℕ, zero, suc, ◌+◌, ◌<◌, ◌≤◌, List, [], ◌∷◌, length, map, take, drop, get_or, Option, Some, None, sym, ap, subst, ◌∙◌, arith}
use Rattle.std.specs.Prelude.{IfSome}
use Rattle.std.specs.List.{sum_by}
use Rattle.std.proofs.Math.ListN.{set}
use Rattle.std.proofs.lemmas.List.{drop_more, drop_all, take_all, get_or-map, length-map, get_or-set_other}
use Rattle.std.proofs.lemmas.List.Sums.{sum_by-cons, sum_by_more}
use Rattle.sstable_blocks.specs.Prelude.{Counted, CountsBetween}
use Rattle.sst_merge.specs.Counts.{most_of}
use Rattle.sst_sources.specs.SourceLaws.{known_split, known_length}
use Rattle.sst_sources.specs.Sources.{all_known}

-- one of those that are known
known_get : {A : Type 0} (os : List (Option A)) (all : List A) (i : ℕ) (d : Option A) (a : A) → all_known os ≡ Some all → i < length os → get_or os i d ≡ Some (get_or all i a)
known_get [] all i d a e inside = absurd (omega arith)
known_get (None ∷ os) all i d a e inside = absurd (cc)
known_get (Some b ∷ os) all zero d a e inside =
    let k = known_split b (all_known os) all e in
    ap (λ bs. Some (get_or bs zero a)) (sym k.is)
known_get (Some b ∷ os) all (suc i) d a e inside =
    let k = known_split b (all_known os) all e in
    known_get os k.rest i d a k.known (omega arith) ∙ ap (λ bs. Some (get_or bs (suc i) a)) (sym k.is)

pub none_counted : (s : Counted) (mosts : List (ℕ × ℕ)) → CountsBetween s s (0, 0) (most_of mosts)
none_counted s mosts = record { heads_least = omega arith; heads_most = omega arith; entries_least = omega arith; entries_most = omega arith }

drop_sum : (f : ℕ × ℕ → ℕ) (mosts : List (ℕ × ℕ)) (j : ℕ) → sum_by f (drop j mosts) ≤ sum_by f mosts
drop_sum f [] j = let e : drop j [] ≡ [] = drop_all {X = ℕ × ℕ} j [] (omega arith) in subst (λ xs. sum_by f xs ≤ 0) (sym e) (omega arith)
drop_sum f (m ∷ mosts) zero = omega arith
drop_sum f (m ∷ mosts) (suc j) =
    let k : sum_by f (drop j mosts) ≤ sum_by f mosts = drop_sum f mosts j in
    let e : sum_by f (m ∷ mosts) ≡ f m + sum_by f mosts = sum_by-cons f m mosts in
    let goes : sum_by f (drop j mosts) ≤ sum_by f (m ∷ mosts) = omega (arith, k, e) in goes

-- what was counted of the last ones is within what is counted of all
pub within_all : (old new : Counted) (mosts : List (ℕ × ℕ)) (j : ℕ) → CountsBetween old new (0, 0) (most_of (drop j mosts)) → CountsBetween old new (0, 0) (most_of mosts)
within_all old new mosts j c =
    let a = drop_sum (λ (m : ℕ × ℕ). m.0) mosts j in
    let b = drop_sum (λ (m : ℕ × ℕ). m.1) mosts j in
    record { heads_least = c.heads_least; heads_most = omega (arith, a, c.heads_most); entries_least = c.entries_least; entries_most = omega (arith, b, c.entries_most) }

module _ {R : Type 0} (most : R → Option (ℕ × ℕ)) where
  -- one reader more
  pub count_more : (rs : List R) (mosts : List (ℕ × ℕ)) (j i : ℕ) (x : R) (old mid new : Counted) → all_known (map most rs) ≡ Some mosts → j < length rs → j + 1 ≡ i → x ≡ get_or rs j x
      → CountsBetween old mid (0, 0) (most_of (drop i mosts)) → IfSome (most x) (CountsBetween mid new (0, 0)) → CountsBetween old new (0, 0) (most_of (drop j mosts))
  count_more rs mosts j i x old mid new known inside next is before step =
      let l : length (map most rs) ≡ length rs = length-map rs most in
      let n : length mosts ≡ length rs = known_length (map most rs) mosts known ∙ l in
      let m : ℕ × ℕ = get_or mosts j (0, 0) in
      let there : most x ≡ Some m = ap most is ∙ sym (get_or-map most rs j x (most x) inside) ∙ known_get (map most rs) mosts j (most x) (0, 0) known (omega (arith, l, inside)) in
      let here : CountsBetween mid new (0, 0) m = subst (λ o. IfSome o (CountsBetween mid new (0, 0))) there step in
      let d : drop j mosts ≡ m ∷ drop i mosts = drop_more mosts j (0, 0) (omega (arith, n, inside)) ∙ ap (λ k. m ∷ drop k mosts) next in
      let a : sum_by (λ (p : ℕ × ℕ). p.0) (drop j mosts) ≡ m.0 + sum_by (λ (p : ℕ × ℕ). p.0) (drop i mosts) = ap (sum_by (λ (p : ℕ × ℕ). p.0)) d ∙ sum_by-cons (λ (p : ℕ × ℕ). p.0) m (drop i mosts) in
      let b : sum_by (λ (p : ℕ × ℕ). p.1) (drop j mosts) ≡ m.1 + sum_by (λ (p : ℕ × ℕ). p.1) (drop i mosts) = ap (sum_by (λ (p : ℕ × ℕ). p.1)) d ∙ sum_by-cons (λ (p : ℕ × ℕ). p.1) m (drop i mosts) in
      record {
        heads_least = omega (arith, before.heads_least, here.heads_least);
        heads_most = omega (arith, a, before.heads_most, here.heads_most);
        entries_least = omega (arith, before.entries_least, here.entries_least);
        entries_most = omega (arith, b, before.entries_most, here.entries_most);
      }

module _ {R : Type 0} (most : R → Option (ℕ × ℕ)) where
  -- one reader more, from the first on
  pub count_next : (rs : List R) (mosts : List (ℕ × ℕ)) (j : ℕ) (x : R) (old mid new : Counted) → all_known (map most rs) ≡ Some mosts → j < length rs → x ≡ get_or rs j x
      → CountsBetween old mid (0, 0) (most_of (take j mosts)) → IfSome (most x) (CountsBetween mid new (0, 0)) → CountsBetween old new (0, 0) (most_of (take (j + 1) mosts))
  count_next rs mosts j x old mid new known inside is before step =
      let l : length (map most rs) ≡ length rs = length-map rs most in
      let n : length mosts ≡ length rs = known_length (map most rs) mosts known ∙ l in
      let m : ℕ × ℕ = get_or mosts j (0, 0) in
      let there : most x ≡ Some m = ap most is ∙ sym (get_or-map most rs j x (most x) inside) ∙ known_get (map most rs) mosts j (most x) (0, 0) known (omega (arith, l, inside)) in
      let here : CountsBetween mid new (0, 0) m = subst (λ o. IfSome o (CountsBetween mid new (0, 0))) there step in
      let a = sum_by_more (λ (p : ℕ × ℕ). p.0) mosts j (0, 0) (omega (arith, n, inside)) in
      let b = sum_by_more (λ (p : ℕ × ℕ). p.1) mosts j (0, 0) (omega (arith, n, inside)) in
      record {
        heads_least = omega (arith, before.heads_least, here.heads_least);
        heads_most = omega (arith, a, before.heads_most, here.heads_most);
        entries_least = omega (arith, before.entries_least, here.entries_least);
        entries_most = omega (arith, b, before.entries_most, here.entries_most);
      }

take_sum : (f : ℕ × ℕ → ℕ) (mosts : List (ℕ × ℕ)) (i j : ℕ) → i ≤ j → sum_by f (take i mosts) ≤ sum_by f (take j mosts)
take_sum f [] i j less =
    let a : take i [] ≡ [] = take_all i [] (omega arith) in
    let b : take j [] ≡ [] = take_all j [] (omega arith) in
    omega (arith, ap (sum_by f) a, ap (sum_by f) b)
take_sum f (m ∷ mosts) zero j less = omega arith
take_sum f (m ∷ mosts) (suc i) zero less = absurd (omega arith)
take_sum f (m ∷ mosts) (suc i) (suc j) less =
    let k : sum_by f (take i mosts) ≤ sum_by f (take j mosts) = take_sum f mosts i j (omega arith) in
    let a = sum_by-cons f m (take i mosts) in
    let b = sum_by-cons f m (take j mosts) in
    omega (arith, k, a, b)

-- what was counted of the first ones is within what is counted of more
pub within_front : (old new : Counted) (mosts : List (ℕ × ℕ)) (i j : ℕ) → i ≤ j → CountsBetween old new (0, 0) (most_of (take i mosts)) → CountsBetween old new (0, 0) (most_of (take j mosts))
within_front old new mosts i j less c =
    let a = take_sum (λ (m : ℕ × ℕ). m.0) mosts i j less in
    let b = take_sum (λ (m : ℕ × ℕ). m.1) mosts i j less in
    record { heads_least = c.heads_least; heads_most = omega (arith, a, c.heads_most); entries_least = c.entries_least; entries_most = omega (arith, b, c.entries_most) }

-- the readers before one that was read are the same
pub front_same : {R : Type 0} (rs all : List R) (j i : ℕ) (new : R) → ((k : ℕ) (d : R) → k < i → get_or rs k d ≡ get_or all k d) → j + 1 ≡ i → (k : ℕ) (d : R) → k < j → get_or (set rs j new) k d ≡ get_or all k d
front_same rs all j i new same next k d less = get_or-set_other rs j k new d (λ e. absurd (omega (arith, e, less))) ∙ same k d (omega (arith, less, next))
