-- What is read of a run at its place is what is read of its source.
use Rattle.std.proofs.Common.{◌≡◌, ℕ, ◌+◌, ◌-◌, ◌<◌, ◌≤◌, List, [], length, take, drop, refl, arith, sym, ◌∙◌, ap, subst, true, false, Option, Some, None, IfSome, Result, Ok, Err, Bool, cond, inl, inr}
use Rattle.std.specs.Prelude.{nat_le}
use Rattle.std.proofs.lemmas.Bool.{cases_Bool, leb-true, leb-false}
use Rattle.std.proofs.lemmas.Bool.Decides.{nat_tests}
use Rattle.std.proofs.lemmas.List.{drop-take, drop-drop, take-take, length-take-le, length-drop}
use Rattle.sst_base.specs.BlockHandle.{HandleParts}
use Rattle.sst_base.specs.Header.{◌>>=◌}
use Rattle.sst_base.specs.declared.error.Error.{Error}
use Rattle.sst_base.specs.declared.error.Error.TheVariants.{BadHandle}
use Rattle.sstable_blocks.specs.Opened.{payload_in}
use Rattle.sstable_blocks.specs.RunPlaces.{IsPlaced, bytes_at, frame_of, part_in, run_in}
use Rattle.sstable_blocks.specs.RunReading.{range_at}
use Rattle.sstable_blocks.specs.Sources.{FailsAs, GivesOr}
use Rattle.sstable_blocks.specs.declared.run.place.RunPlace.{RunPlace}
use Rattle.sstable_blocks.specs.declared.run.place.RunPlace.TheVariants.{Whole, Part}

-- a range of a part
part_of_part : (all : List ℕ) (start len o n : ℕ) → o + n ≤ len → take n (drop o (take len (drop start all))) ≡ take n (drop (start + o) all)
part_of_part all start len o n h =
    let whole : len ≡ o + (len - o) = omega arith in
    ap (λ k. take n (drop o (take k (drop start all)))) whole
    ∙ ap (take n) (drop-take o (len - o) (drop start all))
    ∙ take-take n (len - o) (drop o (drop start all)) (omega arith)
    ∙ ap (take n) (drop-drop o start all)

pub part_long : (all : List ℕ) (g : HandleParts) → g.offset + g.size ≤ length all → length (part_in all g) ≡ g.size
part_long all g h = let l = length-drop g.offset all in length-take-le g.size (drop g.offset all) (omega arith)

-- what is inside a part is read of the source
window_range : (all : List ℕ) (g h : HandleParts) → g.offset + g.size ≤ length all → h.offset + h.size ≤ g.size → range_at (part_in all g) h ≡ range_at all (record { offset = g.offset + h.offset; size = h.size })
unfolding range_at
window_range all g h inside within =
    let part = part_in all g in
    let long = part_long all g inside in
    let first : nat_le (h.offset + h.size) (length part) ≡ true = grind (arith, nat_tests) in
    let second : nat_le (g.offset + h.offset + h.size) (length all) ≡ true = grind (arith, nat_tests) in
    ap (λ b. cond b (Ok (take h.size (drop h.offset part))) (Err BadHandle)) first
    ∙ ap (λ xs. Ok xs) (part_of_part all g.offset g.size h.offset h.size within)
    ∙ sym (ap (λ b. cond b (Ok (take h.size (drop (g.offset + h.offset) all))) (Err BadHandle)) second)

-- the rest is refused
window_refused : (all : List ℕ) (g h : HandleParts) → g.offset + g.size ≤ length all → g.size < h.offset + h.size → range_at (part_in all g) h ≡ Err BadHandle
unfolding range_at
window_refused all g h inside outside =
    let part = part_in all g in
    let long = part_long all g inside in
    let no : nat_le (h.offset + h.size) (length part) ≡ false = grind (arith, nat_tests) in
    ap (λ b. cond b (Ok (take h.size (drop h.offset part))) (Err BadHandle)) no

-- a place of which nothing is known but that it ends below 2^64
pub placed_in_any : (p : RunPlace) (o : Option (List ℕ)) → IsPlaced p o → IsPlaced p None
placed_in_any Whole o is = tt
placed_in_any (Part g) o is = (is.0, tt)

module _ (g h : HandleParts) where
  abbrev here : HandleParts
  here = record { offset = g.offset + h.offset; size = h.size }

  in_part : (f : HandleParts) (b : Bool) → nat_le (h.offset + h.size) g.size ≡ b → frame_of (Part g) h ≡ Some f → (h.offset + h.size ≤ g.size) × (here ≡ f)
  in_part f true less is = (leb-true (h.offset + h.size) g.size less, (let k : Some here ≡ Some f = sym (ap (λ b. cond b (Some here) None) less) ∙ is in cc))
  in_part f false less is = absurd (let k : None ≡ Some f = sym (ap (λ b. cond b (Some here) None) less) ∙ is in cc)

  not_in_part : (b : Bool) → nat_le (h.offset + h.size) g.size ≡ b → frame_of (Part g) h ≡ None → g.size < h.offset + h.size
  not_in_part true less is = absurd (let k : Some here ≡ None = sym (ap (λ b. cond b (Some here) None) less) ∙ is in cc)
  not_in_part false less is = leb-false (h.offset + h.size) g.size less

-- a frame of a run is read where it is in the source, and is refused where it is not inside
pub frame_range_is : (p : RunPlace) (all : List ℕ) (h f : HandleParts) → IsPlaced p (Some all) → frame_of p h ≡ Some f → range_at (run_in p all) h ≡ range_at all f
frame_range_is Whole all h f inside is = (let same : h ≡ f = cc in ap (range_at all) same)
frame_range_is (Part g) all h f inside is =
    let k = in_part g h f (nat_le (h.offset + h.size) g.size) refl is in
    window_range all g h inside.1 k.0 ∙ ap (range_at all) k.1

no_payload : (all : List ℕ) (h : HandleParts) → h.size < 33 → payload_in all h ≡ []
unfolding payload_in
no_payload all h short = let none : h.size - 33 ≡ 0 = omega (arith, short) in ap (λ n. take n (drop (h.offset + 33) all)) none

pub frame_payload_is : (p : RunPlace) (all : List ℕ) (h f : HandleParts) → frame_of p h ≡ Some f → payload_in (run_in p all) h ≡ payload_in all f
unfolding payload_in
frame_payload_is Whole all h f is = (let same : h ≡ f = cc in ap (payload_in all) same)
frame_payload_is (Part g) all h f is =
    let k = in_part g h f (nat_le (h.offset + h.size) g.size) refl is in
    elim (cases_Bool (nat_le 33 h.size)) [
      | inl long ↦
          let few = leb-true 33 h.size long in
          let at : g.offset + (h.offset + 33) ≡ g.offset + h.offset + 33 = omega arith in
          part_of_part all g.offset g.size (h.offset + 33) (h.size - 33) (omega (arith, k.0, few)) ∙ ap (λ n. take (h.size - 33) (drop n all)) at ∙ ap (payload_in all) k.1
      | inr short ↦
          let few = leb-false 33 h.size short in
          no_payload (part_in all g) h few ∙ sym (no_payload all (here g h) few) ∙ ap (payload_in all) k.1
    ]

pub frame_refused_is : (p : RunPlace) (all : List ℕ) (h : HandleParts) → IsPlaced p (Some all) → frame_of p h ≡ None → range_at (run_in p all) h ≡ Err BadHandle
frame_refused_is Whole all h inside is = absurd (let k : Some h ≡ None = is in cc)
frame_refused_is (Part g) all h inside is = window_refused all g h inside.1 (not_in_part g h (nat_le (h.offset + h.size) g.size) refl is)

run_at : (p : RunPlace) (all : List ℕ) → bytes_at p (Some all) ≡ Some (run_in p all)
run_at Whole all = refl
run_at (Part g) all = refl

no_run : (p : RunPlace) → bytes_at p None ≡ None
no_run Whole = refl
no_run (Part g) = refl

-- a fact of the bytes of a source is one of a run in it
pub of_run : (p : RunPlace) (o : Option (List ℕ)) (P : List ℕ → Type 0) → IfSome o (λ all. P (run_in p all)) → IfSome (bytes_at p o) P
of_run p None P is = subst (λ r. IfSome r P) (sym (no_run p)) tt
of_run p (Some all) P is = subst (λ r. IfSome r P) (sym (run_at p all)) is

-- what is read of a frame, by any function of its bytes
pub refused_by : {X : Type 0} (k : List ℕ → Result X Error) (p : RunPlace) (o : Option (List ℕ)) (h : HandleParts) (P R : Type 0) → IsPlaced p o → frame_of p h ≡ None → IfSome (bytes_at p o) (λ all. FailsAs P R (range_at all h >>= k) BadHandle)
refused_by k p o h P R inside is = of_run p o _ (known o inside) where
  known : (o : Option (List ℕ)) → IsPlaced p o → IfSome o (λ all. FailsAs P R (range_at (run_in p all) h >>= k) BadHandle)
  known None inside = tt
  known (Some all) inside = λ other. inr (ap (λ r. r >>= k) (frame_refused_is p all h inside is))

pub passed_by : {X Y : Type 0} (view : X → Y) (k : List ℕ → Result Y Error) (p : RunPlace) (o : Option (List ℕ)) (h f : HandleParts) (P R : Type 0) (r : Result X Error) → IsPlaced p o → frame_of p h ≡ Some f
    → IfSome o (λ all. GivesOr P R view r (range_at all f >>= k)) → IfSome (bytes_at p o) (λ all. GivesOr P R view r (range_at all h >>= k))
passed_by view k p o h f P R r inside is given = of_run p o _ (known o inside given) where
  known : (o : Option (List ℕ)) → IsPlaced p o → IfSome o (λ all. GivesOr P R view r (range_at all f >>= k)) → IfSome o (λ all. GivesOr P R view r (range_at (run_in p all) h >>= k))
  known None inside given = tt
  known (Some all) inside given = subst (λ q. GivesOr P R view r (q >>= k)) (sym (frame_range_is p all h f inside is)) given
