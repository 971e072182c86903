-- Stages 3 to 5 from what a pass over the items knows.
use Rattle.std.proofs.Common.{◌≡◌, ◌↔◌, Bool, ◌&&◌, IsTrue, ℕ, ◌-◌, ◌*◌, ◌/◌, ◌<◌, ◌≤◌, List, [], length, drop, get_or, Some, sym, ap, subst, ◌∙◌, arith, leb, cond, length-drop}
use Rattle.std.proofs.lemmas.List.{length-take-le}
use Rattle.std.proofs.Math.Nat.{div-mul-le_self}
use Rattle.std.specs.List.{AllByRecursion}
use Rattle.byteorder.specs.Endian.{little_number}
use Rattle.sst_block_core.specs.Kind.{Kind, IsOrdered}
use Rattle.sst_block_core.specs.Body.{items_at, place_offset}
use Rattle.sst_block_core.specs.Trailer.{Trailer}
use Rattle.sst_block_core.specs.Pointers.{head_count, head_offsets, last_pointer, pointer_width, pointers_in}
use Rattle.sst_block_core.specs.Stages.{HasParts, HasForms, HasOrder, HasPointers, body_in, pointer_bytes, items_by, items_read}
use Rattle.sst_block_core.specs.Passes.{ArePointed, IsPassed, IsFound}
use Rattle.sst_block_core.proofs.Check.PassSteps.{both}
use Rattle.sst_block_core.specs.OpeningLaws.{length-items_at}
use Rattle.sst_block_core.proofs.Places.HeadPlaces.{head_below, pointers_length}
use Rattle.sst_block_core.specs.PointerLaws.{last_offset}
use Rattle.sst_block_core.proofs.Places.PointerReads.{pointer_is}

pub heads_some : (r n heads : ℕ) → 0 < r → 1 ≤ n → heads ≡ head_count r n → 0 < heads
heads_some r n heads pos some e = let b = (head_below r n 0 pos).1 (omega arith) in omega (arith, b, e)

pub index_length : (t : Trailer) (p : List ℕ) → HasParts t p → length (pointer_bytes t p) ≡ t.heads * t.width
index_length t p parts = let e = parts.end in length-take-le (t.heads * t.width) (drop t.index_offset p) (omega (arith, e, length-drop t.index_offset p))

-- each place has the pointer of its head
pub pointer_inside : (t : Trailer) (p : List ℕ) → HasParts t p → (place : ℕ) → place < t.item_count → place / t.interval < length (pointers_in t.width (pointer_bytes t p))
pointer_inside t p parts place h =
    let d = div-mul-le_self place t.interval in
    let below : place / t.interval < head_count t.interval t.item_count = (head_below t.interval t.item_count (place / t.interval) parts.interval).1 (omega (arith, d, h)) in
    let n = pointers_length t p parts in
    let e = parts.heads in
    omega (arith, below, n, e)

module _ {X : Type 0} (kind : Kind X) (t : Trailer) (p : List ℕ) (parts : HasParts t p) (xs : List X) (reads : items_at kind t.interval 0 t.item_count [] (body_in t p) ≡ Some (xs, [])) where
  found_is : items_by kind t p ≡ xs
  unfolding items_by
  found_is = ap items_read reads

  pub forms_from : HasForms kind t p
  forms_from = reads ∙ ap (λ ys. Some (ys, [])) (sym found_is)

  pub all_from : (fits : X → Type 0) → AllByRecursion fits xs → AllByRecursion fits (items_by kind t p)
  all_from fits all = subst (AllByRecursion fits) (sym found_is) all

  pub all_to : (fits : X → Type 0) → AllByRecursion fits (items_by kind t p) → AllByRecursion fits xs
  all_to fits all = subst (AllByRecursion fits) found_is all

  pub order_from : IsOrdered kind xs → HasOrder kind t p
  order_from o = subst (IsOrdered kind) (sym found_is) o

  pub order_to : HasOrder kind t p → IsOrdered kind xs
  order_to o = subst (IsOrdered kind) found_is o

  count : length xs ≡ t.item_count
  count = length-items_at kind t.interval 0 t.item_count [] (body_in t p) xs [] reads

  -- pointer j, of which there are enough
  pointer_here : (j : ℕ) → j < t.heads → get_or (pointers_in t.width (pointer_bytes t p)) j 0 ≡ little_number t.width (drop (j * t.width) (pointer_bytes t p))
  pointer_here j few = let n = pointers_length t p parts in pointer_is t.width (pointer_bytes t p) j 0 (omega (arith, few, n))

  pub pointers_to : HasPointers kind t p → ArePointed kind t.interval (pointers_in t.width (pointer_bytes t p)) xs
  pointers_to h = λ j below.
      let few : j < t.heads = let b = (head_below t.interval t.item_count j parts.interval).1 (omega (arith, below, count)) in let e = parts.heads in omega (arith, b, e) in
      pointer_here j few ∙ h.offsets j few ∙ ap (λ ys. place_offset kind t.interval ys (j * t.interval)) found_is

  -- the last pointer
  last_is : (last : ℕ) → ArePointed kind t.interval (pointers_in t.width (pointer_bytes t p)) xs → last ≡ get_or (pointers_in t.width (pointer_bytes t p)) (t.heads - 1) 0
      → cond (leb last 65535) 2 4 ≡ pointer_width kind t.interval (items_by kind t p)
  last_is last all e =
      let some = heads_some t.interval t.item_count t.heads parts.interval parts.some parts.heads in
      let below : (t.heads - 1) * t.interval < t.item_count = (head_below t.interval t.item_count (t.heads - 1) parts.interval).0 (let h = parts.heads in omega (arith, some, h)) in
      let place : last ≡ place_offset kind t.interval xs ((t.heads - 1) * t.interval) = e ∙ all (t.heads - 1) (omega (arith, below, count)) in
      let heads : t.heads ≡ head_count t.interval (length xs) = parts.heads ∙ ap (head_count t.interval) (sym count) in
      let at_end : last_pointer (head_offsets kind t.interval xs) ≡ place_offset kind t.interval xs ((head_count t.interval (length xs) - 1) * t.interval) = last_offset kind t.interval xs (omega (arith, some, heads)) in
      ap (λ n. cond (leb n 65535) 2 4) (place ∙ ap (λ h. place_offset kind t.interval xs ((h - 1) * t.interval)) heads ∙ sym at_end)
      ∙ ap (pointer_width kind t.interval) (sym found_is)

  pub pointers_from : (last : ℕ) → ArePointed kind t.interval (pointers_in t.width (pointer_bytes t p)) xs → last ≡ get_or (pointers_in t.width (pointer_bytes t p)) (t.heads - 1) 0
      → t.width ≡ cond (leb last 65535) 2 4 → HasPointers kind t p
  pointers_from last all e w = record {
    offsets = λ j few.
        let below : j * t.interval < t.item_count = (head_below t.interval t.item_count j parts.interval).0 (let h = parts.heads in omega (arith, few, h)) in
        sym (pointer_here j few) ∙ all j (omega (arith, below, count)) ∙ ap (λ ys. place_offset kind t.interval ys (j * t.interval)) (sym found_is);
    width = w ∙ last_is last all e;
  }

  pub width_to : (last : ℕ) → last ≡ get_or (pointers_in t.width (pointer_bytes t p)) (t.heads - 1) 0 → HasPointers kind t p → t.width ≡ cond (leb last 65535) 2 4
  width_to last e h = h.width ∙ sym (last_is last (pointers_to h) e)

-- what a pass over parts of a payload knows, of the payload
module _ {X : Type 0} (kind : Kind X) (fits : X → Type 0) (t : Trailer) (p bytes pointers : List ℕ) (parts : HasParts t p) (e : bytes ≡ body_in t p) (same : pointers ≡ pointers_in t.width (pointer_bytes t p)) where
  passed_in : (a o i : Bool) → IsPassed kind fits t.interval t.item_count bytes pointers a o i → IsPassed kind fits t.interval t.item_count (body_in t p) (pointers_in t.width (pointer_bytes t p)) a o i
  passed_in a o i k =
      subst (λ b. IsPassed kind fits t.interval t.item_count b (pointers_in t.width (pointer_bytes t p)) a o i) e (subst (λ x. IsPassed kind fits t.interval t.item_count bytes x a o i) same k)

  pub found_from : (a o i w : Bool) (last : ℕ) → IsPassed kind fits t.interval t.item_count bytes pointers a o i → last ≡ get_or pointers (t.heads - 1) 0 → IsTrue w ↔ (t.width ≡ cond (leb last 65535) 2 4)
      → IsFound kind fits t p a o (i && w)
  found_from a o i w last known last_is least =
      let k = passed_in a o i known in
      let j = k.judged in
      let at_end : last ≡ get_or (pointers_in t.width (pointer_bytes t p)) (t.heads - 1) 0 = last_is ∙ ap (λ ps. get_or ps (t.heads - 1) 0) same in
      record {
        forms = forms_from kind t p parts k.items k.reads;
        fit = ((λ h. all_from kind t p parts k.items k.reads fits (j.fit.0 h)), (λ h. j.fit.1 (all_to kind t p parts k.items k.reads fits h)));
        ordered = ((λ h. order_from kind t p parts k.items k.reads (j.ordered.0 h)), (λ h. j.ordered.1 (order_to kind t p parts k.items k.reads h)));
        indexed = (
          (λ h. let g = (both i w).1 h in pointers_from kind t p parts k.items k.reads last (j.indexed.0 g.0) at_end (least.0 g.1)),
          (λ h. (both i w).0 (j.indexed.1 (pointers_to kind t p parts k.items k.reads h), least.1 (width_to kind t p parts k.items k.reads last at_end h))),
        );
      }

  pub pointers_inside : (place : ℕ) → place < t.item_count → place / t.interval < length pointers
  pointers_inside place h = let k = pointer_inside t p parts place h in let l = ap length same in omega (arith, k, l)

  pub last_inside : t.heads - 1 < length pointers
  last_inside =
      let n = pointers_length t p parts in
      let l = ap length same in
      let some = heads_some t.interval t.item_count t.heads parts.interval parts.some parts.heads in
      omega (arith, n, l, some)
