-- The steps of a scan.
use Rattle.std.proofs.Common.{◌≡◌, ℕ, inl, inr, ◌+◌, ◌-◌, ◌<◌, ◌≤◌, true, cond, ltb, List, [], ◌∷◌, ◌++◌, length, map, take, drop, filter, refl, arith, sym, ◌∙◌, ap, subst, append-nil, length-append, Option, Some, None, IfSome, Ok}
use Rattle.std.proofs.lemmas.Bool.{cases_Bool, lt-ltb}
use Rattle.std.proofs.Math.Seq.{take-append_seam}
use Rattle.std.proofs.lemmas.Option.{slice_get_cases}
use Rattle.std.specs.List.{slice_get}
use Rattle.sst_base.specs.Entry.{Entry, plain}
use Rattle.sst_block_core.specs.Window.{Window, Answer, item, items_left, first_left, last_left, next, next_back}
use Rattle.sst_block_core.specs.WindowLaws.{next_some, next_none, back_some, back_none}
use Rattle.sst_block_core.specs.Handles.{Handle}
use Rattle.sstable_blocks.specs.RunReading.{Hashes, handles_at}
use Rattle.sstable_blocks.specs.Scans.{KeyRange, in_range, within, blocks_read, reads_among, AllWithin, between, first_block, end_block, handles_within}
use Rattle.sstable_blocks.specs.Blocks.{joined}
use Rattle.sstable_blocks.specs.Sound.{IsSound}
use Rattle.sstable_blocks.specs.declared.run.RunHandles.{RunHandles}

-- the entries within a range are in it
pub all_within : (r : KeyRange) (xs : List Entry) → AllWithin r (within r xs)
unfolding within
all_within r [] = tt
all_within r (x ∷ xs) = elim (cases_Bool (in_range r x.key.user_key)) [
  | inl is ↦ subst (λ b. AllWithin r (cond b (x ∷ filter (λ y. in_range r y.key.user_key) xs) (filter (λ y. in_range r y.key.user_key) xs))) (sym is) (is, all_within r xs)
  | inr out ↦ subst (λ b. AllWithin r (cond b (x ∷ filter (λ y. in_range r y.key.user_key) xs) (filter (λ y. in_range r y.key.user_key) xs))) (sym out) (all_within r xs)
]

next_rest_by : (w : Window Entry) (o : Option Entry) → first_left w ≡ o → items_left (next w).0 ≡ drop 1 (items_left w)
next_rest_by w None e =
    let t = (next w).0 in
    let step : ◌≡◌ {A = Window Entry × Answer Entry} (t, item None) (next w) = ap (λ (o : Option Entry). (t, item o)) (sym e) in
    let k = next_none w t step in
    k.1 ∙ sym (ap (drop 1) k.0)
next_rest_by w (Some x) e =
    let t = (next w).0 in
    let step : ◌≡◌ {A = Window Entry × Answer Entry} (t, item (Some x)) (next w) = ap (λ (o : Option Entry). (t, item o)) (sym e) in
    sym (ap (drop 1) (next_some w t x step).0)

front_of : (xs : List Entry) (x : Entry) → take (length (xs ++ x ∷ []) - 1) (xs ++ x ∷ []) ≡ xs
front_of xs x =
    let size : length (xs ++ x ∷ []) - 1 ≡ length xs = omega (arith, length-append xs (x ∷ [])) in
    ap (λ n. take n (xs ++ x ∷ [])) size ∙ take-append_seam xs (x ∷ [])

back_rest_by : (w : Window Entry) (o : Option Entry) → w.hi ≤ length w.list → last_left w ≡ o → items_left (next_back w).0 ≡ take (length (items_left w) - 1) (items_left w)
back_rest_by w None inside e =
    let t = (next_back w).0 in
    let step : ◌≡◌ {A = Window Entry × Answer Entry} (t, item None) (next_back w) = ap (λ (o : Option Entry). (t, item o)) (sym e) in
    let k = back_none w t inside step in
    k.1 ∙ sym (ap (λ (xs : List Entry). take (length xs - 1) xs) k.0)
back_rest_by w (Some x) inside e =
    let t = (next_back w).0 in
    let step : ◌≡◌ {A = Window Entry × Answer Entry} (t, item (Some x)) (next_back w) = ap (λ (o : Option Entry). (t, item o)) (sym e) in
    sym (ap (λ (xs : List Entry). take (length xs - 1) xs) (back_some w t x inside step) ∙ front_of (items_left t) x)

-- the window after a step has the others
pub next_rest : (w : Window Entry) → items_left (next w).0 ≡ drop 1 (items_left w)
next_rest w = next_rest_by w (first_left w) refl

pub back_rest : (w : Window Entry) → w.hi ≤ length w.list → items_left (next_back w).0 ≡ take (length (items_left w) - 1) (items_left w)
back_rest w inside = back_rest_by w (last_left w) inside refl

-- a scan of a sound run that begins
module _ (c : Hashes) (r : KeyRange) (hs : List Handle) (h : RunHandles) where
  pub fresh_reads : (o : Option (List ℕ)) (front back : List Entry) (lo hi : ℕ) → front ≡ [] → back ≡ [] → lo ≡ first_block r hs → hi ≡ end_block r hs → IfSome o (λ all. handles_at c all h.index ≡ Ok hs)
      → ((all : List ℕ) (blocks : List (List Entry)) → IsSound c blocks all h → handles_at c all h.index ≡ Ok hs → blocks_read c all r (handles_within r hs) ≡ map Ok (within r (map plain (joined blocks))))
      → IfSome o (λ all. (blocks : List (List Entry)) → IsSound c blocks all h → reads_among c all r front (between hs lo hi) back ≡ map Ok (within r (map plain (joined blocks))))
  unfolding handles_within
  fresh_reads None front back lo hi none none' first last at law = tt
  fresh_reads (Some all) front back lo hi none none' first last at law = λ blocks sound.
      ap (λ xs. map Ok xs ++ (blocks_read c all r (between hs lo hi) ++ map Ok back)) none ∙ ap (λ xs. blocks_read c all r (between hs lo hi) ++ map Ok xs) none'
      ∙ append-nil (blocks_read c all r (between hs lo hi))
      ∙ ap (λ n. blocks_read c all r (between hs n hi)) first ∙ ap (λ n. blocks_read c all r (between hs (first_block r hs) n)) last
      ∙ law all blocks sound at
