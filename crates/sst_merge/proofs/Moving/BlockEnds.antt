-- Laws of the ends of lists in blocks.
use Rattle.std.proofs.Common.{◌≡◌, ℕ, zero, suc, ◌+◌, ◌-◌, ◌<◌, ◌≤◌, ◌^◌, Bool, true, false, nat_lt, List, [], ◌∷◌, ◌++◌, length, map, take, drop, get_or, Option, Some, None, slice_get, refl, sym, ap, subst, ◌∙◌, arith, length-append, length-drop}
use Rattle.std.proofs.lemmas.Bool.{lt-ltb, le-ltb}
use Rattle.std.proofs.lemmas.List.{get_or-map, length-map, length-take-le, take_all, take_rest}
use Rattle.std.proofs.lemmas.Option.{slice_get-get_or, slice_get_past, slice_get_within}
use Rattle.std.specs.List.{AllByRecursion, count_by}
use Rattle.sstable_blocks.specs.Prelude.{found_item, Entry, entries, Window, Answer, count_passed, item, items_left, seek, seek_upper, whole}
use Rattle.sstable_blocks.specs.BlockLaws.{some_is}
use Rattle.sstable_blocks.specs.Blocks.{IsNotEmpty, joined}
use Rattle.sst_merge.specs.Movable.{is_sought, item_before}
use Rattle.sst_merge.specs.MovableBlocks.{HoldsBack, HoldsFront, IsBackIn, IsFrontIn, TakesFirstOf, TakesLastOf, back_place, entries_before, entry_key, front_place, is_block_sought, is_last_sought, window_of}
use Rattle.sst_merge.specs.Moved.{IsStep, Moved, in_memory, step_back, step_front}
use Rattle.sst_merge.specs.declared.movable_blocks.Open.{Open}
use Rattle.sst_merge.proofs.Moving.BlockCounts.{passed_at_most, passed_below}
use Rattle.sstable_blocks.specs.JoinedLaws.{before_le, before_next}
use Rattle.sst_merge.proofs.Moving.BlockPlaces.{drop_first, inside_joined, joined_item, take_last}

-- an item of a mapped list
pub map_item : {A B : Type 0} (f : A → B) (xs : List A) (i : ℕ) (x : A) → i < length xs → x ≡ get_or xs i x → slice_get (map f xs) i ≡ Some (f x)
map_item f xs i x inside is =
    (let n = length-map xs f in slice_get-get_or (map f xs) i (f x) (omega (arith, n, inside)))
    ∙ ap Some (get_or-map f xs i x (f x) inside ∙ ap f (sym is))

-- the last item of a list
last_item : {X : Type 0} (ys : List X) (x : X) → (n : ℕ) → n ≡ length (ys ++ x ∷ []) → item_before (ys ++ x ∷ []) n ≡ Some x
last_item [] x zero e = absurd (omega (arith, e))
last_item [] x (suc zero) e = refl
last_item [] x (suc (suc n)) e = absurd (omega (arith, e))
last_item (y ∷ ys) x zero e = absurd (omega (arith, e))
last_item (y ∷ ys) x (suc zero) e = absurd (let n = length-append ys (x ∷ []) in omega (arith, e, n))
last_item (y ∷ ys) x (suc (suc n)) e = last_item ys x (suc n) (omega (arith, e))

pub last_passes : (needle : List ℕ) (at_most : Bool) (xs ys : List Entry) (x : Entry) → xs ≡ ys ++ x ∷ [] → is_block_sought needle at_most xs ≡ is_sought entry_key needle at_most x
last_passes needle at_most xs ys x is = ap (is_block_sought needle at_most) is ∙ ap (is_last_sought needle at_most) (last_item ys x (length (ys ++ x ∷ [])) refl)

-- what a search leaves of a block
pub drop_zero : {X : Type 0} (xs : List X) → drop 0 xs ≡ xs
drop_zero [] = refl
drop_zero (x ∷ xs) = refl

pub left_from : (key : List ℕ) (items : List Entry) (w v : Window Entry) (a : Answer Entry) (n : ℕ) → w ≡ whole items → (v, a) ≡ seek entries key w → n ≡ count_by (is_sought entry_key key false) items → items_left v ≡ drop n items
left_from key items w v a n is step count =
    let now : v ≡ record w { lo = n } = ap (λ (p : Window Entry × Answer Entry). p.0) step ∙ ap (λ m. record w { lo = m }) (ap (λ (u : Window Entry). passed u.list) is ∙ passed_below key items ∙ sym count) in
    ap items_left (now ∙ ap (λ (u : Window Entry). record u { lo = n }) is) ∙ take_rest items n
  where
    passed : List Entry → ℕ
    passed xs = count_passed entries key None xs

pub left_up_to : (key : List ℕ) (items : List Entry) (w v : Window Entry) (a : Answer Entry) (n : ℕ) → w ≡ whole items → (v, a) ≡ seek_upper entries key w → n ≡ count_by (is_sought entry_key key true) items → items_left v ≡ take n items
left_up_to key items w v a n is step count =
    let now : v ≡ record w { hi = n } = ap (λ (p : Window Entry × Answer Entry). p.0) step ∙ ap (λ m. record w { hi = m }) (ap (λ (u : Window Entry). passed u.list) is ∙ passed_at_most key items ∙ sym count) in
    ap items_left (now ∙ ap (λ (u : Window Entry). record u { hi = n }) is) ∙ ap (take (n - 0)) (drop_zero items) ∙ ap (λ m. take m items) (let e : n - 0 ≡ n = omega arith in e)
  where
    passed : List Entry → ℕ
    passed xs = count_passed entries key (Some 0) xs

abbrev pub dropped : ℕ → List Entry → List Entry
dropped n items = drop n items

abbrev pub taken : ℕ → List Entry → List Entry
taken n items = take n items

pub fewer : (n : ℕ) (items : List Entry) → length (drop n items) ≤ length items
fewer n items = (let e = length-drop n items in omega (arith, e))

-- a block is not empty
pub some_in : (blocks : List (List Entry)) (b : ℕ) (xs : List Entry) → AllByRecursion IsNotEmpty blocks → slice_get blocks b ≡ Some xs → 1 ≤ length xs
some_in [] b xs all at = absurd (cc)
some_in (x ∷ blocks) zero xs all at = (let e = ap length (some_is x xs at) in let h = all.0 in omega (arith, e, h))
some_in (x ∷ blocks) (suc b) xs all at = some_in blocks b xs all.1 at

module _ (blocks : List (List Entry)) (b : ℕ) (items : List Entry) (here : slice_get blocks b ≡ Some items) where
  block_at : (e : Open) → e.block ≡ b → slice_get blocks e.block ≡ Some items
  block_at e is = ap (slice_get blocks) is ∙ here

  -- what holds the first of the entries from an index on is a front there
  pub front_held : (n : ℕ) (views : List Entry) (o : Option Open) → views ≡ drop n items → TakesFirstOf b items views o → HoldsFront blocks o
  front_held n views None is took = tt
  front_held n views (Some e) is took =
      let k = drop_first items n e.held e.views (sym is ∙ took.1) in
      let size = ap length took.1 in
      let place : e.at ≡ n = (let l = k.2 in let t = took.2 in omega (arith, l, t, size)) in
      record {
        items = items;
        block_is = block_at e took.0;
        held_is = ap (slice_get items) place ∙ k.0;
        views_is = k.1 ∙ ap (λ m. drop (suc m) items) (sym place);
        few = took.3;
      }

  pub front_at : (n : ℕ) (views : List Entry) (o : Option Open) → views ≡ drop n items → TakesFirstOf b items views o → n < length items → front_place blocks o ≡ entries_before blocks b + n
  front_at n views None is took less = absurd (let l = length-drop n items in let e = ap length is in let z = ap length took in omega (arith, l, e, z, less))
  front_at n views (Some e) is took less =
      let k = drop_first items n e.held e.views (sym is ∙ took.1) in
      let size = ap length took.1 in
      let place : e.at ≡ n = (let l = k.2 in let t = took.2 in omega (arith, l, t, size)) in
      ap (λ m. entries_before blocks m + e.at) took.0 ∙ ap (λ m. entries_before blocks b + m) place

  -- and what holds the last of those before an index is a back there
  pub back_held : (n : ℕ) (views : List Entry) (o : Option Open) → views ≡ take n items → TakesLastOf b views o → HoldsBack blocks o
  back_held n views None is took = tt
  back_held n views (Some e) is took =
      let k = take_last items n e.held e.views (sym is ∙ took.1) in
      record {
        items = items;
        block_is = block_at e took.0;
        held_is = ap (slice_get items) took.2 ∙ k.0;
        views_is = k.1 ∙ ap (λ m. take m items) (sym took.2);
      }

  pub back_at : (n : ℕ) (views : List Entry) (e : Open) → views ≡ take n items → TakesLastOf b views (Some e) → n ≤ length items → back_place blocks (Some e) ≡ entries_before blocks b + n
  back_at n views e is took inside =
      let l = ap length (sym is ∙ took.1) in
      let t = length-take-le n items inside in
      let a = length-append e.views (e.held ∷ []) in
      let w = took.2 in
      let c = ap (entries_before blocks) took.0 in
      omega (arith, l, t, a, w, c)

  pub back_none : (n : ℕ) (views : List Entry) → views ≡ take n items → TakesLastOf b views None → 1 ≤ length items → n ≤ length items → n ≡ 0
  back_none n views is took some inside = (let l = ap length (sym is ∙ took) in let t = length-take-le n items inside in omega (arith, l, t))

  -- the whole block
  pub back_before : (views : List Entry) (o : Option Open) → views ≡ take (length items) items → TakesLastOf b views o → 1 ≤ length items → back_place blocks o ≡ entries_before blocks (suc b)
  back_before views None is took some = absurd (let n = back_none (length items) views is took some (omega arith) in omega (arith, n, some))
  back_before views (Some e) is took some = (let k = back_at (length items) views e is took (omega arith) in let n = before_next blocks b items here in omega (arith, k, n))

  pub whole_front : items ≡ drop 0 items
  whole_front = sym (drop_zero items)

  pub whole_back : items ≡ take (length items) items
  whole_back = sym (take_all (length items) items (omega arith))

-- The entries at the ends.
pub front_item : (blocks : List (List Entry)) (e : Open) → IsFrontIn blocks e → slice_get (joined blocks) (front_place blocks (Some e)) ≡ Some e.held
front_item blocks e h = joined_item blocks e.block e.at h.items e.held h.block_is h.held_is

pub front_none : (blocks : List (List Entry)) → slice_get (joined blocks) (front_place blocks None) ≡ None
front_none blocks = slice_get_past (joined blocks) (length (joined blocks)) (omega arith)

pub back_item : (blocks : List (List Entry)) (e : Open) → IsBackIn blocks e → item_before (joined blocks) (back_place blocks (Some e)) ≡ Some e.held
back_item blocks e h = joined_item blocks e.block e.at h.items e.held h.block_is h.held_is

-- The steps of the ends.
module _ (blocks : List (List Entry)) (old : Open) where
  pub front_more : (x : Entry) (xs : List Entry) (new : Open) → IsFrontIn blocks old → old.views ≡ x ∷ xs → new.block ≡ old.block → new.at ≡ old.at + 1 → new.views ≡ xs → new.held ≡ x → IsFrontIn blocks new
  front_more x xs new h left block at views held =
      let k = drop_first h.items (suc old.at) x xs (sym h.views_is ∙ left) in
      let place : new.at ≡ suc old.at = omega (arith, at) in
      record {
        items = h.items;
        block_is = ap (slice_get blocks) block ∙ h.block_is;
        held_is = ap (slice_get h.items) place ∙ k.0 ∙ ap Some (sym held);
        views_is = views ∙ k.1 ∙ ap (λ m. drop (suc m) h.items) (sym place);
        few = h.few;
      }

  pub front_ends : IsFrontIn blocks old → old.views ≡ [] → entries_before blocks (old.block + 1) ≡ front_place blocks (Some old) + 1
  front_ends h left =
      let n = before_next blocks old.block h.items h.block_is in
      let l = ap length (sym h.views_is ∙ left) in
      let d = length-drop (suc old.at) h.items in
      let w = slice_get_within h.items old.at old.held h.held_is in
      let e = ap (entries_before blocks) (let f : old.block + 1 ≡ suc old.block = omega arith in f) in
      omega (arith, n, l, d, w, e)

  pub back_more : (x : Entry) (xs : List Entry) (new : Open) → IsBackIn blocks old → old.views ≡ xs ++ x ∷ [] → new.block ≡ old.block → new.at + 1 ≡ old.at → new.views ≡ xs → new.held ≡ x → IsBackIn blocks new
  back_more x xs new h left block at views held =
      let k = take_last h.items old.at x xs (sym h.views_is ∙ left) in
      let w = slice_get_within h.items old.at old.held h.held_is in
      let l = ap length (sym h.views_is ∙ left) in
      let t = length-take-le old.at h.items (omega (arith, w)) in
      let a = length-append xs (x ∷ []) in
      let place : new.at ≡ length xs = omega (arith, l, t, a, at) in
      record {
        items = h.items;
        block_is = ap (slice_get blocks) block ∙ h.block_is;
        held_is = ap (slice_get h.items) place ∙ k.0 ∙ ap Some (sym held);
        views_is = views ∙ k.1 ∙ ap (λ m. take m h.items) (sym place);
      }

  pub back_some : (x : Entry) (xs : List Entry) → IsBackIn blocks old → old.views ≡ xs ++ x ∷ [] → 1 ≤ old.at
  back_some x xs h left =
      let w = slice_get_within h.items old.at old.held h.held_is in
      let l = ap length (sym h.views_is ∙ left) in
      let t = length-take-le old.at h.items (omega (arith, w)) in
      let a = length-append xs (x ∷ []) in
      omega (arith, l, t, a)

  pub back_ends : IsBackIn blocks old → old.views ≡ [] → entries_before blocks old.block + 1 ≡ back_place blocks (Some old)
  back_ends h left =
      let w = slice_get_within h.items old.at old.held h.held_is in
      let l = ap length (sym h.views_is ∙ left) in
      let t = length-take-le old.at h.items (omega (arith, w)) in
      omega (arith, l, t)

  pub back_block : IsBackIn blocks old → old.block < length blocks
  back_block h = slice_get_within blocks old.block h.items h.block_is

-- Whether an entry is left between the ends.
module _ (blocks : List (List Entry)) (f b : Open) (front : IsFrontIn blocks f) (back : IsBackIn blocks b) where
  pub left_later : f.block < b.block → nat_lt (front_place blocks (Some f)) (back_place blocks (Some b)) ≡ true
  left_later less =
      let n = before_next blocks f.block front.items front.block_is in
      let m = before_le blocks (suc f.block) b.block (omega (arith, less)) in
      let w = slice_get_within front.items f.at f.held front.held_is in
      lt-ltb (front_place blocks (Some f)) (back_place blocks (Some b)) (omega (arith, n, m, w))

  pub left_same : f.block ≡ b.block → f.at ≤ b.at → nat_lt (front_place blocks (Some f)) (back_place blocks (Some b)) ≡ true
  left_same same less = (let e = ap (entries_before blocks) same in lt-ltb (front_place blocks (Some f)) (back_place blocks (Some b)) (omega (arith, e, less)))

  pub none_same : f.block ≡ b.block → b.at < f.at → nat_lt (front_place blocks (Some f)) (back_place blocks (Some b)) ≡ false
  none_same same more = (let e = ap (entries_before blocks) same in le-ltb (front_place blocks (Some f)) (back_place blocks (Some b)) (omega (arith, e, more)))

  pub none_earlier : b.block < f.block → nat_lt (front_place blocks (Some f)) (back_place blocks (Some b)) ≡ false
  none_earlier more =
      let n = before_next blocks b.block back.items back.block_is in
      let m = before_le blocks (suc b.block) f.block (omega (arith, more)) in
      let w = slice_get_within back.items b.at b.held back.held_is in
      le-ltb (front_place blocks (Some f)) (back_place blocks (Some b)) (omega (arith, n, m, w))

pub none_at_end : (blocks : List (List Entry)) (back : Option Open) → HoldsBack blocks back → nat_lt (front_place blocks None) (back_place blocks back) ≡ false
none_at_end blocks None h = le-ltb (length (joined blocks)) 0 (omega arith)
none_at_end blocks (Some b) h = (let w = inside_joined blocks b.block b.at h.items b.held h.block_is h.held_is in le-ltb (length (joined blocks)) (back_place blocks (Some b)) (omega (arith, w)))

-- The steps of a window.
module _ (blocks : List (List Entry)) where
  pub takes_front : (old new back : Option Open) (w : Window Entry) (r : Option Entry) → window_of blocks old back ≡ w → r ≡ slice_get (joined blocks) (front_place blocks old) → front_place blocks new ≡ front_place blocks old + found_item r
      → IsStep step_front (in_memory w) r (in_memory (window_of blocks new back))
  takes_front old new back w r is item_is place =
      let to : ℕ → Moved Entry = λ n. in_memory (record (window_of blocks old back) { lo = n }) in
      subst (λ v. IsStep step_front (in_memory v) r (in_memory (window_of blocks new back))) is
      (record { moved = ap to (place ∙ ap (λ x. front_place blocks old + found_item x) item_is); item_is = ap item item_is })

  pub takes_back : (old new front : Option Open) (w : Window Entry) (r : Option Entry) → window_of blocks front old ≡ w → r ≡ item_before (joined blocks) (back_place blocks old) → back_place blocks new + found_item r ≡ back_place blocks old
      → IsStep step_back (in_memory w) r (in_memory (window_of blocks front new))
  takes_back old new front w r is item_is place =
      let to : ℕ → Moved Entry = λ n. in_memory (record (window_of blocks front old) { hi = n }) in
      let less : back_place blocks new ≡ back_place blocks old - found_item r = omega (arith, place) in
      subst (λ v. IsStep step_back (in_memory v) r (in_memory (window_of blocks front new))) is
      (record { moved = ap to (less ∙ ap (λ x. back_place blocks old - found_item x) item_is); item_is = ap item item_is })
