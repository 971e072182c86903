-- Laws of what is known of sources.
use Rattle.std.proofs.Common.{◌≡◌, ℕ, zero, suc, ◌+◌, ◌<◌, ◌≤◌, List, [], ◌∷◌, length, map, get_or, Option, Some, None, Result, Ok, Err, refl, sym, ap, subst, ◌∙◌, arith, Bool, true, false, is_some}
use Rattle.std.specs.Prelude.{IfSome}
use Rattle.std.specs.Option.{option_map}
use Rattle.std.proofs.Math.ListN.{set}
use Rattle.std.proofs.lemmas.List.{set-get_or, map-set, get_or-map, length-map}
use Rattle.std.proofs.lemmas.List.Sums.{sum_by-set}
use Rattle.std.specs.List.{sum_by}
use Rattle.std.specs.declared.cmp.Ordering.{Ordering}
use Rattle.sstable_blocks.specs.Results.{Error}
use Rattle.sstable_blocks.specs.BlockLaws.{some_is}
use Rattle.sstable_blocks.specs.Prelude.{found_item}
use Rattle.sstable_blocks.specs.Scans.{EndsBy}
use Rattle.sst_sources.specs.Merge.{merged}
use Rattle.sst_sources.specs.Picks.{IsPick, list_at, least, least_none, least_some}
use Rattle.sst_sources.specs.Sources.{Left, TakesFirst, PassesFirst, before, left_held, IsHeld, all_known, lists_left, all_left}

same_list : {X : Type 0} (o : Option (List X)) → option_map (before None) o ≡ o
same_list None = refl
same_list (Some xs) = refl

-- what a step took is held before what is left
pub held_before : {X : Type 0} (s t : Left X) (r : Option X) → TakesFirst s r t → option_map (before r) t.list ≡ s.list
held_before s t None h = same_list t.list ∙ h.0
held_before s t (Some x) h = sym h.0

pub held_is : {X : Type 0} (s t : Left X) (r : Option X) → TakesFirst s r t → IsHeld r t.list
held_is s t None h = subst (λ o. IfSome o (λ xs. xs ≡ [])) (sym h.0) h.1
held_is s t (Some x) h = tt

pub held_most : {X : Type 0} (s t : Left X) (r : Option X) → TakesFirst s r t → found_item r + t.most ≤ s.most
held_most s t None h = omega (arith, h.2)
held_most s t (Some x) h = omega (arith, h.1)

-- the item that was held is passed, and the next one is held
pub passed_held : {X : Type 0} (a b : Option Error) (h : Option X) (s t all : Left X) (r : Option X) → left_held h a s ≡ all → is_some h ≡ true → TakesFirst s r t → PassesFirst all true (left_held r b t)
passed_held a b None s t all r e n step = absurd (cc)
passed_held a b (Some x) s t all r e n step =
    let kept : TakesFirst (left_held (Some x) a s) (Some x) (left_held r b t) = (ap (option_map (λ xs. x ∷ xs)) (sym (held_before s t r step)), (let m = held_most s t r step in omega (arith, m))) in
    (x, subst (λ o. TakesFirst o (Some x) (left_held r b t)) e kept)

-- a known list, after an item
known_after : {A : Type 0} (a : A) (o : Option (List A)) → option_map (λ rest. a ∷ rest) o ≡ None → o ≡ None
known_after a None e = refl
known_after a (Some xs) e = absurd (cc)

-- where not all are known, neither are they after one was exchanged for one that is known where it was
pub none_set : {A : Type 0} (os : List (Option A)) (i : ℕ) (d o : Option A) → i < length os → (get_or os i d ≡ None → o ≡ None) → all_known os ≡ None → all_known (set os i o) ≡ None
none_set [] i d o inside same e = absurd (omega arith)
none_set (None ∷ os) zero d o inside same e = ap (λ p. all_known (p ∷ os)) (same refl)
none_set (Some a ∷ os) zero d None inside same e = refl
none_set (Some a ∷ os) zero d (Some b) inside same e = ap (option_map (λ rest. b ∷ rest)) (known_after a (all_known os) e)
none_set (None ∷ os) (suc i) d o inside same e = refl
none_set (Some a ∷ os) (suc i) d o inside same e = ap (option_map (λ rest. a ∷ rest)) (none_set os i d o (omega arith) same (known_after a (all_known os) e))

-- known lists, the first of which is this one
pub record IsKnownFront {A : Type 0} (a : A) (o : Option (List A)) (all : List A) : Type 0 where
  pub rest : List A
  pub known : o ≡ Some rest
  pub is : all ≡ a ∷ rest

pub known_split : {A : Type 0} (a : A) (o : Option (List A)) (all : List A) → option_map (λ rest. a ∷ rest) o ≡ Some all → IsKnownFront a o all
known_split a None all e = absurd (cc)
known_split a (Some rest) all e = record { rest = rest; known = refl; is = cc }

-- one of those that are known
pub known_at : {X : Type 0} (os : List (Option (List X))) (xss : List (List X)) (i : ℕ) (d : Option (List X)) → all_known os ≡ Some xss → i < length os → get_or os i d ≡ Some (list_at xss i)
known_at [] xss i d e inside = absurd (omega arith)
known_at (None ∷ os) xss i d e inside = absurd (cc)
known_at (Some xs ∷ os) xss zero d e inside =
    let k = known_split xs (all_known os) xss e in
    ap (λ yss. Some (list_at yss zero)) (sym k.is)
known_at (Some xs ∷ os) xss (suc i) d e inside =
    let k = known_split xs (all_known os) xss e in
    known_at os k.rest i d k.known (omega arith) ∙ ap (λ yss. Some (list_at yss (suc i))) (sym k.is)

-- and after one was exchanged
pub known_set : {A : Type 0} (os : List (Option A)) (all : List A) (i : ℕ) (a : A) → all_known os ≡ Some all → i < length os → all_known (set os i (Some a)) ≡ Some (set all i a)
known_set [] all i a e inside = absurd (omega arith)
known_set (None ∷ os) all i a e inside = absurd (cc)
known_set (Some b ∷ os) all zero a e inside =
    let k = known_split b (all_known os) all e in
    ap (option_map (λ rest. a ∷ rest)) k.known ∙ ap (λ bs. Some (set bs zero a)) (sym k.is)
known_set (Some b ∷ os) all (suc i) a e inside =
    let k = known_split b (all_known os) all e in
    ap (option_map (λ rest. b ∷ rest)) (known_set os k.rest i a k.known (omega arith)) ∙ ap (λ bs. Some (set bs (suc i) a)) (sym k.is)

-- as many are known as there are
pub known_length : {A : Type 0} (os : List (Option A)) (all : List A) → all_known os ≡ Some all → length all ≡ length os
known_length [] all e = let k : [] ≡ all = some_is [] all e in ap length (sym k)
known_length (None ∷ os) all e = absurd (cc)
known_length (Some a ∷ os) all e =
    let k = known_split a (all_known os) all e in
    let n = known_length os k.rest k.known in
    ap length k.is ∙ ap suc n

-- a step as lists alone know it
abbrev TakesList : {X : Type 0} → Option (List X) → Option X → Option (List X) → Type 0
TakesList s None t = (t ≡ s) × IfSome s (λ xs. xs ≡ [])
TakesList s (Some x) t = s ≡ option_map (λ xs. x ∷ xs) t

list_taken : {X : Type 0} (s t : Left X) (r : Option X) → TakesFirst s r t → TakesList s.list r t.list
list_taken s t None h = (h.0, h.1)
list_taken s t (Some x) h = h.0

module _ {X : Type 0} (cmp : X → X → Ordering) where
  -- what is left of the merge
  abbrev left : List (Option (List X)) → Option (List X)
  left os = option_map (merged cmp) (all_known os)

  -- the item of a list that is known
  taken_some : (xs : List X) (x : X) (o : Option (List X)) → ◌≡◌ {A = Option (List X)} (Some xs) (option_map (λ ys. x ∷ ys) o) → IsKnownFront x o xs
  taken_some xs x None e = absurd (cc)
  taken_some xs x (Some ys) e = record { rest = ys; known = refl; is = cc }

  unknown_taken : (x : X) (o : Option (List X)) → ◌≡◌ {A = Option (List X)} None (option_map (λ ys. x ∷ ys) o) → o ≡ None
  unknown_taken x None e = refl
  unknown_taken x (Some ys) e = absurd (cc)

  taken_known : (os : List (Option (List X))) (xss : List (List X)) (i : ℕ) (old new : Option (List X)) (x : X) → all_known os ≡ Some xss → i < length os → i ≡ least cmp xss → get_or os i old ≡ old
      → old ≡ option_map (λ ys. x ∷ ys) new → left os ≡ option_map (λ ys. x ∷ ys) (left (set os i new))
  taken_known os xss i old new x known inside place is taken =
      let here : old ≡ Some (list_at xss i) = sym is ∙ known_at os xss i old known inside in
      let k = taken_some (list_at xss i) x new (sym here ∙ taken) in
      let there : list_at xss (least cmp xss) ≡ x ∷ k.rest = ap (list_at xss) (sym place) ∙ k.is in
      let after : all_known (set os i new) ≡ Some (set xss i k.rest) = ap (λ o. all_known (set os i o)) k.known ∙ known_set os xss i k.rest known inside in
      ap (option_map (merged cmp)) known
      ∙ ap Some (least_some cmp xss x k.rest there ∙ ap (λ n. x ∷ merged cmp (set xss n k.rest)) (sym place))
      ∙ sym (ap (λ o. option_map (λ ys. x ∷ ys) (option_map (merged cmp) o)) after)

  taken_unknown : (os : List (Option (List X))) (i : ℕ) (old new : Option (List X)) (x : X) → all_known os ≡ None → i < length os → get_or os i old ≡ old
      → old ≡ option_map (λ ys. x ∷ ys) new → left os ≡ option_map (λ ys. x ∷ ys) (left (set os i new))
  taken_unknown os i old new x unknown inside is taken =
      let after : all_known (set os i new) ≡ None = none_set os i old new inside (λ e. unknown_taken x new (sym e ∙ is ∙ taken)) unknown in
      ap (option_map (merged cmp)) unknown ∙ sym (ap (λ o. option_map (λ ys. x ∷ ys) (option_map (merged cmp) o)) after)

  taken_by : (os : List (Option (List X))) (o : Option (List (List X))) (i : ℕ) (old new : Option (List X)) (r : Option X) → all_known os ≡ o → ((xss : List (List X)) → all_known os ≡ Some xss → i ≡ least cmp xss) → i < length os → get_or os i old ≡ old
      → TakesList old r new → TakesList (left os) r (left (set os i new))
  taken_by os (Some xss) i old new (Some x) e place inside is step = taken_known os xss i old new x e inside (place xss e) is step
  taken_by os None i old new (Some x) e place inside is step = taken_unknown os i old new x e inside is step
  taken_by os (Some xss) i old new None e place inside is step =
      let same : set os i new ≡ os = ap (set os i) (step.0 ∙ sym is) ∙ set-get_or os i old in
      let here : old ≡ Some (list_at xss i) = sym is ∙ known_at os xss i old e inside in
      let empty : list_at xss (least cmp xss) ≡ [] = ap (list_at xss) (sym (place xss e)) ∙ subst (λ p. IfSome p (λ xs. xs ≡ [])) here step.1 in
      (ap left same, subst (λ p. IfSome p (λ xs. xs ≡ [])) (sym (ap (option_map (merged cmp)) e)) (least_none cmp xss empty))
  taken_by os None i old new None e place inside is step =
      let same : set os i new ≡ os = ap (set os i) (step.0 ∙ sym is) ∙ set-get_or os i old in
      (ap left same, subst (λ p. IfSome p (λ xs. xs ≡ [])) (sym (ap (option_map (merged cmp)) e)) tt)

  -- the heads' lists at an index
  pub list_of : (ls : List (Left X)) (i : ℕ) (l : Left X) → i < length ls → l ≡ get_or ls i l → get_or (map (λ (s : Left X). s.list) ls) i l.list ≡ l.list
  list_of ls i l inside is = get_or-map (λ (s : Left X). s.list) ls i l l.list inside ∙ ap (λ (s : Left X). s.list) (sym is)

  -- what is taken from the source that has the least is taken from the merge
  taken_list : (ls : List (Left X)) (i : ℕ) (old new : Left X) (r : Option X) → ((xss : List (List X)) → lists_left ls ≡ Some xss → i ≡ least cmp xss) → i < length ls → old ≡ get_or ls i old
      → TakesFirst old r new → TakesList (left (map (λ (s : Left X). s.list) ls)) r (left (map (λ (s : Left X). s.list) (set ls i new)))
  taken_list ls i old new r place inside is step =
      let os = map (λ (s : Left X). s.list) ls in
      let n : length os ≡ length ls = length-map ls (λ (s : Left X). s.list) in
      subst (λ ps. TakesList (left os) r (left ps)) (sym (map-set (λ (s : Left X). s.list) ls i new))
      (taken_by os (all_known os) i old.list new.list r refl place (omega (arith, n, inside)) (list_of ls i old inside is) (list_taken old new r step))

  pub taken_most : (ls : List (Left X)) (i : ℕ) (old new : Left X) (m : ℕ) → i < length ls → old ≡ get_or ls i old → new.most + m ≤ old.most → sum_by (λ (s : Left X). s.most) (set ls i new) + m ≤ sum_by (λ (s : Left X). s.most) ls
  taken_most ls i old new m inside is less =
      let f = λ (s : Left X). s.most in
      let e = sum_by-set f ls i new old inside in
      let o : f (get_or ls i old) ≡ old.most = ap f (sym is) in
      omega (arith, e, o, less)

  taken_both : (a b : Option Error) (ls : List (Left X)) (i : ℕ) (old new : Left X) (r : Option X) → i < length ls → old ≡ get_or ls i old → TakesFirst old r new
      → TakesList (left (map (λ (s : Left X). s.list) ls)) r (left (map (λ (s : Left X). s.list) (set ls i new)))
      → TakesFirst (all_left (merged cmp) a ls) r (all_left (merged cmp) b (set ls i new))
  taken_both a b ls i old new None inside is step lists = (lists.0, lists.1, (let k = taken_most ls i old new 0 inside is (omega (arith, step.2)) in omega (arith, k)))
  taken_both a b ls i old new (Some x) inside is step lists = (lists, (let k = taken_most ls i old new 1 inside is (omega (arith, step.1)) in omega (arith, k)))

  pub taken_from : (a b : Option Error) (ls : List (Left X)) (i : ℕ) (old new : Left X) (r : Option X) → ((xss : List (List X)) → lists_left ls ≡ Some xss → i ≡ least cmp xss) → i < length ls → old ≡ get_or ls i old
      → TakesFirst old r new → TakesFirst (all_left (merged cmp) a ls) r (all_left (merged cmp) b (set ls i new))
  taken_from a b ls i old new r place inside is step = taken_both a b ls i old new r inside is step (taken_list ls i old new r place inside is step)

  -- the same, where the source is the pick of all and what is left is known by another name
  pub taken_merge : (a b : Option Error) (ls : List (Left X)) (i : ℕ) (old new all : Left X) (r : Option X) → all_left (merged cmp) a ls ≡ all → IsPick cmp ls i → old ≡ get_or ls i old
      → TakesFirst old r new → TakesFirst all r (all_left (merged cmp) b (set ls i new))
  taken_merge a b ls i old new all r whole p is step =
      subst (λ o. TakesFirst o r (all_left (merged cmp) b (set ls i new))) whole
      (taken_from a b ls i old new r p.is p.inside is step)

  -- the same of a step that passes it
  pub passed_merge : (a b : Option Error) (ls : List (Left X)) (i : ℕ) (old new all : Left X) (passed : Bool) → all_left (merged cmp) a ls ≡ all → IsPick cmp ls i → old ≡ get_or ls i old
      → PassesFirst old passed new → PassesFirst all passed (all_left (merged cmp) b (set ls i new))
  passed_merge a b ls i old new all true whole p is step = (step.0, taken_merge a b ls i old new all (Some step.0) whole p is step.1)
  passed_merge a b ls i old new all false whole p is step = taken_merge a b ls i old new all None whole p is step

-- as many lists are known as there are sources
pub lists_length : {X : Type 0} (ls : List (Left X)) (xss : List (List X)) → lists_left ls ≡ Some xss → length xss ≡ length ls
lists_length {X = X} ls xss known = known_length (map (λ (s : Left X). s.list) ls) xss known ∙ length-map ls (λ (s : Left X). s.list)

-- a step without an error ends no source, and was one of a source that had not ended
pub same_end : {X : Type 0} (old new : Option Error) (x : X) → EndsBy old new (Ok x) → new ≡ old
same_end None new x h = h.ended
same_end {X = X} (Some e) new x h = absurd (let f : ◌≡◌ {A = Result X Error} (Ok x) (Err e) = h.repeated in cc)
