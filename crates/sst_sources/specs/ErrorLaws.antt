-- Laws of the errors that sources may give.
use Rattle.std.proofs.Common.{◌≡◌, ℕ, zero, suc, ◌<◌, List, [], ◌∷◌, ◌++◌, length, map, get_or, Option, Some, None, Result, Ok, Err, refl, sym, ap, subst, ◌∙◌, arith, inl, inr}
use Rattle.std.specs.Prelude.{◌⊎◌, IfSome, OnOk}
use Rattle.std.specs.Option.{option_map}
use Rattle.std.proofs.Math.ListN.{set}
use Rattle.std.proofs.lemmas.List.{map-set, get_or-map, length-map}
use Rattle.std.specs.declared.cmp.Ordering.{Ordering}
use Rattle.sstable_blocks.specs.Results.{Error}
use Rattle.sstable_blocks.specs.Blocks.{joined}
use Rattle.sst_sources.specs.Merge.{merged}
use Rattle.sst_sources.specs.Picks.{IsPick}
use Rattle.sst_sources.specs.Sources.{Left, IsAmong, MayMeet, MayGive, MeetsNoMore, before, step_errors, left_as, left_held, all_known, errors_of, all_left}
use Rattle.std.specs.Result.{result_err}

-- among known errors
abbrev In : Option (List Error) → Error → Type 0
In o e = IfSome o (IsAmong e)

pub among_left : (e : Error) (xs ys : List Error) → IsAmong e xs → IsAmong e (xs ++ ys)
among_left e [] ys h = absurd h
among_left e (x ∷ xs) ys (inl h) = inl h
among_left e (x ∷ xs) ys (inr h) = inr (among_left e xs ys h)

pub among_right : (e : Error) (xs ys : List Error) → IsAmong e ys → IsAmong e (xs ++ ys)
among_right e [] ys h = h
among_right e (x ∷ xs) ys h = inr (among_right e xs ys h)

pub among_either : (e : Error) (xs ys : List Error) → IsAmong e (xs ++ ys) → IsAmong e xs ⊎ IsAmong e ys
among_either e [] ys h = inr h
among_either e (x ∷ xs) ys (inl h) = inl (inl h)
among_either e (x ∷ xs) ys (inr h) = elim (among_either e xs ys h) [
  | inl l ↦ inl (inr l)
  | inr r ↦ inr r
]

-- an error of reading what is left may be met, whether or not one ended the source
pub met_under : (a : Option Error) (o : Option (List Error)) (e : Error) → In o e → In (option_map (before a) o) e
met_under None None e h = tt
met_under (Some d) None e h = tt
met_under None (Some xs) e h = h
met_under (Some d) (Some xs) e h = inr h

-- and that which ended the source
pub met_end : (a : Option Error) (o : Option (List Error)) (e : Error) → a ≡ Some e → In (option_map (before a) o) e
met_end None None e h = tt
met_end (Some d) None e h = tt
met_end None (Some xs) e h = absurd (cc)
met_end (Some d) (Some xs) e h = inl (cc)

-- where none did, no other may be
pub met_over : (a : Option Error) (o : Option (List Error)) (e : Error) → a ≡ None → In (option_map (before a) o) e → In o e
met_over None None e n h = tt
met_over (Some d) None e n h = tt
met_over None (Some xs) e n h = h
met_over (Some d) (Some xs) e n h = absurd (cc)

-- a source that had not ended and has not ended: nothing more is met where nothing more is met below
pub meets_over : (a b : Option Error) (o p : Option (List Error)) → b ≡ None → ((e : Error) → In p e → In o e) → (e : Error) → In (option_map (before b) p) e → In (option_map (before a) o) e
meets_over a b o p n h e m = met_under a o e (h e (met_over b p e n m))

some_left : (e : Error) (xs : List Error) (o : Option (List (List Error))) → IsAmong e xs → In (option_map joined (option_map (λ rest. xs ∷ rest) o)) e
some_left e xs None h = tt
some_left e xs (Some rest) h = among_left e xs (joined rest) h

some_right : (e : Error) (xs : List Error) (o : Option (List (List Error))) → In (option_map joined o) e → In (option_map joined (option_map (λ rest. xs ∷ rest) o)) e
some_right e xs None h = tt
some_right e xs (Some rest) h = among_right e xs (joined rest) h

-- an error of one source is one of all
pub one_of_all : (os : List (Option (List Error))) (i : ℕ) (o : Option (List Error)) (e : Error) → i < length os → get_or os i o ≡ o → In o e → In (errors_of os) e
one_of_all [] i o e inside is h = absurd (omega arith)
one_of_all (None ∷ os) i o e inside is h = tt
one_of_all (Some xs ∷ os) zero o e inside is h = some_left e xs (all_known os) (subst (λ p. In p e) (sym is) h)
one_of_all (Some xs ∷ os) (suc i) o e inside is h = some_right e xs (all_known os) (one_of_all os i o e (omega arith) is h)

-- known errors, with others before them, where more are known
more_right : (e : Error) (xs : List Error) (p q : Option (List (List Error))) → (In (option_map joined p) e → In (option_map joined q) e) → In (option_map joined (option_map (λ rest. xs ∷ rest) p)) e
    → In (option_map joined (option_map (λ rest. xs ∷ rest) q)) e
more_right e xs p None f h = tt
more_right e xs None (Some r) f h = among_right e xs (joined r) (f tt)
more_right e xs (Some s) (Some r) f h = elim (among_either e xs (joined s) h) [
  | inl l ↦ among_left e xs (joined r) l
  | inr m ↦ among_right e xs (joined r) (f m)
]

more_left : (e : Error) (xs : List Error) (o : Option (List Error)) (os : List (Option (List Error))) (q : Option (List (List Error))) → all_known os ≡ q → (In o e → IsAmong e xs) → In (errors_of (o ∷ os)) e
    → In (option_map joined (option_map (λ rest. xs ∷ rest) q)) e
more_left e xs o os None k f h = tt
more_left e xs None os (Some r) k f h = among_left e xs (joined r) (f tt)
more_left e xs (Some ys) os (Some r) k f h = elim (among_either e ys (joined r) (subst (λ p. In (option_map joined (option_map (λ rest. ys ∷ rest) p)) e) k h)) [
  | inl l ↦ among_left e xs (joined r) (f l)
  | inr m ↦ among_right e xs (joined r) m
]

-- where one source was exchanged for one that meets no more, all meet no more
pub all_no_more : (os : List (Option (List Error))) (i : ℕ) (o p : Option (List Error)) (e : Error) → i < length os → get_or os i o ≡ o → (In p e → In o e) → In (errors_of (set os i p)) e → In (errors_of os) e
all_no_more [] i o p e inside is f h = absurd (omega arith)
all_no_more (None ∷ os) i o p e inside is f h = tt
all_no_more (Some xs ∷ os) zero o p e inside is f h = more_left e xs p os (all_known os) refl (λ m. subst (λ q. In q e) (sym is) (f m)) h
all_no_more (Some xs ∷ os) (suc i) o p e inside is f h = more_right e xs (all_known (set os i p)) (all_known os) (all_no_more os i o p e (omega arith) is f) h

module _ {X : Type 0} (cmp : X → X → Ordering) where
  place : (ls : List (Left X)) (i : ℕ) (l : Left X) → i < length ls → l ≡ get_or ls i l → get_or (map (λ (s : Left X). step_errors s) ls) i (step_errors l) ≡ step_errors l
  place ls i l inside is = get_or-map (λ (s : Left X). step_errors s) ls i l (step_errors l) inside ∙ ap (λ (s : Left X). step_errors s) (sym is)

  -- what the source gives that is picked, the merge may give
  pub merge_gives : (may_fail : Error → Type 0) (a : Option Error) (ls : List (Left X)) (i : ℕ) (old all : Left X) (e : Error) → all_left (merged cmp) a ls ≡ all → IsPick cmp ls i → old ≡ get_or ls i old → MayGive may_fail old e → MayGive may_fail all e
  merge_gives may_fail a ls i old all e whole p is (inl memory) = inl memory
  merge_gives may_fail a ls i old all e whole p is (inr (inl device)) = inr (inl device)
  merge_gives may_fail a ls i old all e whole p is (inr (inr met)) =
      let n : length (map (λ (s : Left X). step_errors s) ls) ≡ length ls = length-map ls (λ (s : Left X). step_errors s) in
      let inside = p.inside in
      inr (inr (subst (λ (s : Left X). MayMeet s e) whole (met_under a (errors_of (map (λ (s : Left X). step_errors s) ls)) e
      (one_of_all (map (λ (s : Left X). step_errors s) ls) i (step_errors old) e (omega (arith, n, inside)) (place ls i old inside is) met))))

  -- where it meets no more, neither does the merge
  pub merge_no_more : (a b : Option Error) (ls : List (Left X)) (i : ℕ) (old new all : Left X) → all_left (merged cmp) a ls ≡ all → b ≡ None → IsPick cmp ls i → old ≡ get_or ls i old → MeetsNoMore old new → MeetsNoMore all (all_left (merged cmp) b (set ls i new))
  merge_no_more a b ls i old new all whole none p is less = λ e h.
      let f = λ (s : Left X). step_errors s in
      let n : length (map f ls) ≡ length ls = length-map ls f in
      let inside = p.inside in
      let met : In (errors_of (set (map f ls) i (f new))) e = subst (λ os. In (errors_of os) e) (map-set f ls i new) (met_over b (errors_of (map f (set ls i new))) e none h) in
      subst (λ (s : Left X). MayMeet s e) whole (met_under a (errors_of (map f ls)) e (all_no_more (map f ls) i (f old) (f new) e (omega (arith, n, inside)) (place ls i old inside is) (less e) met))

-- a source whose first item is held meets no more than it did, where no error ended it
pub new_no_more : {X : Type 0} (h : Option X) (s t : Left X) → MeetsNoMore s t → MeetsNoMore s (left_held h None t)
new_no_more h s t less = λ e m. less e (met_over None (step_errors t) e refl m)

pub held_no_more : {X : Type 0} (h k : Option X) (a b : Option Error) (s t all : Left X) → left_held h a s ≡ all → b ≡ None → MeetsNoMore s t → MeetsNoMore all (left_held k b t)
held_no_more {X = X} h k a b s t all whole none less = λ e m. subst (λ (l : Left X). MayMeet l e) whole (met_under a (step_errors s) e (less e (met_over b (step_errors t) e none m)))

-- nor does what is made of a source by a change of its list
pub as_no_more : {X Y Z : Type 0} (r : Result Z Error) (f k : List X → List Y) (a b : Option Error) (s t : Left X) (all : Left Y) → left_as f a s ≡ all → b ≡ result_err r → OnOk r (MeetsNoMore s t) → OnOk r (MeetsNoMore all (left_as k b t))
as_no_more (Err e) f k a b s t all whole none less = tt
as_no_more {Y = Y} (Ok x) f k a b s t all whole none less = λ e m. subst (λ (l : Left Y). MayMeet l e) whole (met_under a (step_errors s) e (less e (met_over b (step_errors t) e none m)))

-- what is made of a source by a change of its list gives no more than it
pub as_gives : {X Y : Type 0} (may_fail : Error → Type 0) (f : List X → List Y) (s : Left X) (made : Left Y) (e : Error) → made ≡ left_as f None s → MayGive may_fail made e → MayGive may_fail s e
as_gives may_fail f s made e is (inl memory) = inl memory
as_gives may_fail f s made e is (inr (inl device)) = inr (inl device)
as_gives {Y = Y} may_fail f s made e is (inr (inr met)) = inr (inr (met_over None (step_errors s) e refl (subst (λ (l : Left Y). MayMeet l e) is met)))

-- what may be given later may be given
pub gives_more : {X : Type 0} (may_fail : Error → Type 0) (old new : Left X) (e : Error) → MeetsNoMore old new → MayGive may_fail new e → MayGive may_fail old e
gives_more may_fail old new e less (inl memory) = inl memory
gives_more may_fail old new e less (inr (inl device)) = inr (inl device)
gives_more may_fail old new e less (inr (inr met)) = inr (inr (less e met))
