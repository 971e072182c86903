-- Indexes of lists: an item at an index, and the handles between two indexes: the first and the last.
use Rattle.std.proofs.Common.{◌≡◌, ℕ, zero, suc, inl, inr, ◌+◌, ◌-◌, ◌<◌, ◌≤◌, true, cond, ltb, List, [], ◌∷◌, ◌++◌, length, take, drop, refl, arith, sym, ◌∙◌, ap, Option, Some, None}
use Rattle.std.proofs.lemmas.Bool.{lt-ltb}
use Rattle.std.proofs.lemmas.List.{length-take}
use Rattle.std.proofs.lemmas.Option.{slice_get_cases}
use Rattle.std.specs.List.{slice_get}
use Rattle.sst_block_core.specs.Handles.{Handle}
use Rattle.sst_block_core.specs.Window.{Window, Answer, item, next, next_back}
use Rattle.sst_block_core.specs.WindowLaws.{next_some, back_some}
use Rattle.sstable_blocks.specs.Scans.{between}

-- an index within a list has an item
pub item_found : {A : Type 0} (xs : List A) (i : ℕ) → i < length xs → (x : A) × (slice_get xs i ≡ Some x)
item_found [] i h = absurd (omega (arith, h))
item_found (x ∷ xs) zero h = (x, refl)
item_found (x ∷ xs) (suc i) h = item_found xs i (omega (arith, h))

-- where some are between, the first index is less
pub some_between : (hs : List Handle) (lo hi : ℕ) → 1 ≤ length (between hs lo hi) → lo < hi
some_between hs lo hi some = let a = length-take (hi - lo) (drop lo hs) in omega arith

-- the first handle between two indexes
pub first_between : (hs : List Handle) (lo hi : ℕ) → lo < hi → hi ≤ length hs → (h : Handle) × (slice_get hs lo ≡ Some h) × (between hs lo hi ≡ h ∷ between hs (lo + 1) hi)
first_between hs lo hi less inside = elim ((slice_get_cases hs lo).1) [
  | inl here ↦ (
      let h = here.0 in
      let s : Window Handle = record { list = hs; lo = lo; hi = hi } in
      let t : Window Handle = record { list = hs; lo = lo + 1; hi = hi } in
      let some : ltb lo hi ≡ true = lt-ltb lo hi less in
      let step : ◌≡◌ {A = Window Handle × Answer Handle} (t, item (Some h)) (next s) =
      ap (λ (o : Option Handle). (t, item o)) (sym here.2) ∙ ap (λ b. (cond b t s, item (cond b (slice_get hs lo) None))) (sym some) in
      (h, here.2, (next_some s t h step).0))
  | inr past ↦ absurd (let most = past.0 in omega arith)
]

pub none_between : (hs : List Handle) (lo hi : ℕ) → hi ≤ lo → between hs lo hi ≡ []
none_between hs lo hi less = let none : hi - lo ≡ 0 = omega arith in ap (λ n. take n (drop lo hs)) none

-- the last one
pub last_between : (hs : List Handle) (lo hi : ℕ) → lo < hi → hi ≤ length hs → (h : Handle) × (slice_get hs (hi - 1) ≡ Some h) × (between hs lo hi ≡ between hs lo (hi - 1) ++ h ∷ [])
last_between hs lo hi less inside = elim ((slice_get_cases hs (hi - 1)).1) [
  | inl here ↦ (
      let h = here.0 in
      let s : Window Handle = record { list = hs; lo = lo; hi = hi } in
      let t : Window Handle = record { list = hs; lo = lo; hi = hi - 1 } in
      let some : ltb lo hi ≡ true = lt-ltb lo hi less in
      let step : ◌≡◌ {A = Window Handle × Answer Handle} (t, item (Some h)) (next_back s) =
      ap (λ (o : Option Handle). (t, item o)) (sym here.2) ∙ ap (λ b. (cond b t s, item (cond b (slice_get hs (hi - 1)) None))) (sym some) in
      (h, here.2, back_some s t h inside step))
  | inr past ↦ absurd (let most = past.0 in omega arith)
]
