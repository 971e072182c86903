-- The entries of runs with where they are: which is at a place, and what is left after the first one.
use Rattle.std.proofs.Common.{◌≡◌, ◌∙◌, ℕ, zero, suc, ◌+◌, ◌-◌, ◌≤◌, ◌<◌, List, [], ◌∷◌, ◌++◌, length, take, drop, map, refl, sym, ap, subst, arith, inl, inr, Some, length-append, length-drop}
use Rattle.std.specs.Prelude.{slice_get}
use Rattle.std.specs.List.{take-map, drop-map}
use Rattle.std.proofs.lemmas.Bool.{cases_lt}
use Rattle.std.proofs.lemmas.List.{length-take, map-append}
use Rattle.std.proofs.lemmas.Option.{slice_get_cases, slice_get_within, same_Some}
use Rattle.sstable_blocks.specs.Prelude.{Entry}
use Rattle.sstable_blocks.specs.Blocks.{joined}
use Rattle.sstable_blocks.specs.JoinedLaws.{before_none}
use Rattle.sst_calls.specs.Placed.{PlacedEntry, placed_blocks, placed_items, placed_left, window_after}
use Rattle.sst_calls.specs.Windows.{IsUpToPlace, IsWindow, count_before, left_in}
use Rattle.sst_calls.specs.declared.window.SstWindow.{SstWindow}
use Rattle.sst_calls.proofs.Lists.BlockWindows.{between, between_front, place_rises}

module _ {X : Type 0} where
  -- an item of two lists joined, by its index: in the first one, or after it
  pub get_left : (xs ys : List X) (i : ℕ) → i < length xs → slice_get (xs ++ ys) i ≡ slice_get xs i
  get_left [] ys i less = absurd (omega (arith, less))
  get_left (x ∷ xs) ys zero less = refl
  get_left (x ∷ xs) ys (suc i) less = get_left xs ys i (omega (arith, less))

  pub get_right : (xs ys : List X) (n i : ℕ) → n ≡ length xs + i → slice_get (xs ++ ys) n ≡ slice_get ys i
  get_right [] ys n i e = let same : n ≡ i = omega (arith, e) in ap (slice_get ys) same
  get_right (x ∷ xs) ys zero i e = absurd (omega (arith, e))
  get_right (x ∷ xs) ys (suc n) i e = get_right xs ys n i (omega (arith, e))

  -- the first of the items between two indexes, and those after it
  pub first_between : (xs : List X) (lo hi : ℕ) (x : X) (rest : List X) → between xs lo hi ≡ x ∷ rest → (lo < hi) × (slice_get xs lo ≡ Some x) × (rest ≡ between xs (suc lo) hi)
  first_between xs lo hi x rest e =
      let size : length (between xs lo hi) ≡ suc (length rest) = ap length e in
      let taken = length-take (hi - lo) (drop lo xs) in
      let dropped = length-drop lo xs in
      let less : lo < hi = omega (arith, size, taken, dropped) in
      let inside : lo < length xs = omega (arith, size, taken, dropped) in
      elim ((slice_get_cases xs lo).1) [
        | inl here ↦ (
            let y = here.0 in
            let front : x ∷ rest ≡ y ∷ between xs (suc lo) hi = sym e ∙ between_front xs lo hi y here.2 less in
            let first : x ≡ y = cc (front) in
            let others : rest ≡ between xs (suc lo) hi = cc (front) in
            (less, here.2 ∙ ap Some (sym first), others))
        | inr past ↦ absurd (omega (arith, past.0, inside))
      ]

-- an entry with where it is
abbrev pub placed_entry : ℕ → List ℕ → ℕ → ℕ → Entry → PlacedEntry
placed_entry run bytes block next e = record { run = run; bytes = bytes; block = block; next = next; entry = e }

-- where an entry is that is at an index of the blocks from one on
pub record IsPlacedAt (run : ℕ) (bytes : List ℕ) (first : ℕ) (blocks : List (List Entry)) (n : ℕ) (x : PlacedEntry) : Type 0 where
  pub block : ℕ
  pub index : ℕ
  pub items : List Entry
  pub there : slice_get blocks block ≡ Some items
  pub inside : index < length items
  pub before : n ≡ count_before blocks block index
  pub is : x ≡ placed_entry run bytes (first + block) (suc index) x.entry

module _ (run : ℕ) (bytes : List ℕ) where
  items_length : (b k : ℕ) (xs : List Entry) → length (placed_items run bytes b k xs) ≡ length xs
  items_length b k [] = refl
  items_length b k (x ∷ xs) = ap suc (items_length b (suc k) xs)

  -- the entry at an index of a block
  items_at : (b k : ℕ) (xs : List Entry) (i : ℕ) (e : Entry) → slice_get xs i ≡ Some e → slice_get (placed_items run bytes b k xs) i ≡ Some (placed_entry run bytes b (suc (k + i)) e)
  items_at b k [] i e h = absurd (cc (h))
  items_at b k (x ∷ xs) zero e h =
      let same : x ≡ e = cc (h) in
      let n : k ≡ k + 0 = omega arith in
      ap (λ y. Some (placed_entry run bytes b (suc k) y)) same ∙ ap (λ m. Some (placed_entry run bytes b (suc m) e)) n
  items_at b k (x ∷ xs) (suc i) e h =
      let n : suc k + i ≡ k + suc i = omega arith in
      items_at b (suc k) xs i e h ∙ ap (λ m. Some (placed_entry run bytes b (suc m) e)) n

  pub blocks_at : (b : ℕ) (blocks : List (List Entry)) (n i : ℕ) (xs : List Entry) (e : Entry) → slice_get blocks n ≡ Some xs → slice_get xs i ≡ Some e
      → slice_get (joined (placed_blocks run bytes b blocks)) (count_before blocks n i) ≡ Some (placed_entry run bytes (b + n) (suc i) e)
  blocks_at b [] n i xs e at there = absurd (cc (at))
  blocks_at b (x ∷ blocks) zero i xs e at there =
      let same : x ≡ xs = cc (at) in
      let here : slice_get x i ≡ Some e = ap (λ v. slice_get v i) same ∙ there in
      let less = slice_get_within x i e here in
      let long = items_length b 0 x in
      let n : count_before (x ∷ blocks) 0 i ≡ i = omega (arith, before_none (x ∷ blocks)) in
      let m : 0 + i ≡ i = omega arith in
      let k : b ≡ b + 0 = omega arith in
      ap (slice_get (placed_items run bytes b 0 x ++ joined (placed_blocks run bytes (suc b) blocks))) n
      ∙ get_left (placed_items run bytes b 0 x) (joined (placed_blocks run bytes (suc b) blocks)) i (omega (arith, less, long))
      ∙ items_at b 0 x i e here
      ∙ ap (λ j. Some (placed_entry run bytes b (suc j) e)) m
      ∙ ap (λ j. Some (placed_entry run bytes j (suc i) e)) k
  blocks_at b (x ∷ blocks) (suc n) i xs e at there =
      let long = items_length b 0 x in
      let size = length-append x (joined (take n blocks)) in
      let k : suc b + n ≡ b + suc n = omega arith in
      get_right (placed_items run bytes b 0 x) (joined (placed_blocks run bytes (suc b) blocks)) (count_before (x ∷ blocks) (suc n) i) (count_before blocks n i) (omega (arith, long, size))
      ∙ blocks_at (suc b) blocks n i xs e at there
      ∙ ap (λ j. Some (placed_entry run bytes j (suc i) e)) k

  -- where the entry is that is at an index
  items_is : (b k : ℕ) (xs : List Entry) (i : ℕ) (x : PlacedEntry) → slice_get (placed_items run bytes b k xs) i ≡ Some x → x ≡ placed_entry run bytes b (suc (k + i)) x.entry
  items_is b k xs i x h = elim ((slice_get_cases xs i).1) [
    | inl here ↦ (
        let e = here.0 in
        let both : x ≡ placed_entry run bytes b (suc (k + i)) e = same_Some x (placed_entry run bytes b (suc (k + i)) e) (sym h ∙ items_at b k xs i e here.2) in
        let entry : x.entry ≡ e = ap (λ (y : PlacedEntry). y.entry) both in
        both ∙ ap (placed_entry run bytes b (suc (k + i))) (sym entry))
    | inr past ↦ absurd (omega (arith, past.0, slice_get_within (placed_items run bytes b k xs) i x h, items_length b k xs))
  ]

  -- an entry after those of the first block
  behind_first : (b : ℕ) (xs : List Entry) (blocks : List (List Entry)) (n : ℕ) (x : PlacedEntry) → length xs ≤ n → IsPlacedAt run bytes (suc b) blocks (n - length xs) x → IsPlacedAt run bytes b (xs ∷ blocks) n x
  behind_first b xs blocks n x past more =
      let size = length-append xs (joined (take more.block blocks)) in
      let k : suc b + more.block ≡ b + suc more.block = omega arith in
      record {
        block = suc more.block;
        index = more.index;
        items = more.items;
        there = more.there;
        inside = more.inside;
        before = omega (arith, more.before, past, size);
        is = more.is ∙ ap (λ j. placed_entry run bytes j (suc more.index) x.entry) k;
      }

  in_first : (b : ℕ) (xs : List Entry) (blocks : List (List Entry)) (n : ℕ) (x : PlacedEntry) → n < length xs → x ≡ placed_entry run bytes b (suc (0 + n)) x.entry → IsPlacedAt run bytes b (xs ∷ blocks) n x
  in_first b xs blocks n x less there =
      let m : 0 + n ≡ n = omega arith in
      let k : b ≡ b + 0 = omega arith in
      record {
        block = 0;
        index = n;
        items = xs;
        there = refl;
        inside = less;
        before = omega (arith, before_none (xs ∷ blocks));
        is = there ∙ ap (λ j. placed_entry run bytes b (suc j) x.entry) m ∙ ap (λ j. placed_entry run bytes j (suc n) x.entry) k;
      }

  pub blocks_is : (b : ℕ) (blocks : List (List Entry)) (n : ℕ) (x : PlacedEntry) → slice_get (joined (placed_blocks run bytes b blocks)) n ≡ Some x → IsPlacedAt run bytes b blocks n x
  blocks_is b [] n x h = absurd (cc (h))
  blocks_is b (xs ∷ blocks) n x h =
      let long = items_length b 0 xs in
      let front = placed_items run bytes b 0 xs in
      let rest = joined (placed_blocks run bytes (suc b) blocks) in
      elim (cases_lt n (length xs)) [
        | inl less ↦ in_first b xs blocks n x less (items_is b 0 xs n x (sym (get_left front rest n (omega (arith, less, long))) ∙ h))
        | inr past ↦ behind_first b xs blocks n x past (blocks_is (suc b) blocks (n - length xs) x (sym (get_right front rest n (n - length xs) (omega (arith, past, long))) ∙ h))
      ]

  -- without where they are they are the entries of the blocks
  items_entries : (b k : ℕ) (xs : List Entry) → map (λ (p : PlacedEntry). p.entry) (placed_items run bytes b k xs) ≡ xs
  items_entries b k [] = refl
  items_entries b k (x ∷ xs) = ap (λ v. x ∷ v) (items_entries b (suc k) xs)

  blocks_entries : (b : ℕ) (blocks : List (List Entry)) → map (λ (p : PlacedEntry). p.entry) (joined (placed_blocks run bytes b blocks)) ≡ joined blocks
  blocks_entries b [] = refl
  blocks_entries b (xs ∷ blocks) =
      map-append (λ (p : PlacedEntry). p.entry) (placed_items run bytes b 0 xs) (joined (placed_blocks run bytes (suc b) blocks))
      ∙ ap (λ v. v ++ map (λ (p : PlacedEntry). p.entry) (joined (placed_blocks run bytes (suc b) blocks))) (items_entries b 0 xs)
      ∙ ap (λ v. xs ++ v) (blocks_entries (suc b) blocks)

  pub left_entries : (blocks : List (List Entry)) (w : SstWindow) → map (λ (p : PlacedEntry). p.entry) (placed_left run bytes blocks w) ≡ left_in blocks w
  left_entries blocks w =
      let all = joined (placed_blocks run bytes 0 blocks) in
      let lo = count_before blocks w.first_block w.first_index in
      let hi = count_before blocks w.end_block w.end_index in
      let entry : PlacedEntry → Entry = λ p. p.entry in
      sym (take-map entry (hi - lo) (drop lo all)) ∙ ap (take (hi - lo)) (sym (drop-map entry lo all) ∙ ap (drop lo) (blocks_entries 0 blocks))

-- the place after an entry of a block is not after a place that is after the entry
up_to_after : (blocks : List (List Entry)) (b i c j : ℕ) (xs ys : List Entry) → slice_get blocks b ≡ Some xs → slice_get blocks c ≡ Some ys → i < length xs → j ≤ length ys
    → count_before blocks b i < count_before blocks c j → IsUpToPlace b (suc i) c j
up_to_after blocks b i c j xs ys here there inside within less = elim (cases_lt b c) [
  | inl before ↦ inl before
  | inr past ↦ elim (cases_lt c b) [
    | inl behind ↦ absurd (let back : count_before blocks c j ≤ count_before blocks b 0 = place_rises blocks c j b 0 ys there within (inl behind) in omega (arith, back, less))
    | inr same ↦ (
        let e : b ≡ c = omega (arith, past, same) in
        let n = ap (λ k. length (joined (take k blocks))) e in
        inr (e, omega (arith, n, less)))
  ]
]

-- what a window has left after its first entry
pub record IsFirstPlaced (run : ℕ) (bytes : List ℕ) (blocks : List (List Entry)) (w : SstWindow) (x : PlacedEntry) (rest : List PlacedEntry) : Type 0 where
  pub run_is : x.run ≡ run
  pub bytes_is : x.bytes ≡ bytes
  pub window : IsWindow blocks (window_after w x)
  pub rest_is : rest ≡ placed_left run bytes blocks (window_after w x)

pub first_placed : (run : ℕ) (bytes : List ℕ) (blocks : List (List Entry)) (w : SstWindow) (x : PlacedEntry) (rest : List PlacedEntry) → IsWindow blocks w → placed_left run bytes blocks w ≡ x ∷ rest
    → IsFirstPlaced run bytes blocks w x rest
first_placed run bytes blocks w x rest window e =
    let all = joined (placed_blocks run bytes 0 blocks) in
    let lo = count_before blocks w.first_block w.first_index in
    let hi = count_before blocks w.end_block w.end_index in
    let first = first_between all lo hi x rest e in
    let at = blocks_is run bytes 0 blocks lo x first.1 in
    let block : x.block ≡ at.block = (let z : 0 + at.block ≡ at.block = omega arith in ap (λ (y : PlacedEntry). y.block) at.is ∙ z) in
    let next : x.next ≡ suc at.index = ap (λ (y : PlacedEntry). y.next) at.is in
    let up = up_to_after blocks at.block at.index w.end_block w.end_index at.items window.end.items at.there window.end.there at.inside window.end.inside (omega (arith, at.before, first.0)) in
    let here : SstWindow → SstWindow = λ v. record v { first_block = at.block; first_index = suc at.index } in
    let after : here w ≡ window_after w x = ap (λ b. record w { first_block = b; first_index = suc at.index }) (sym block) ∙ ap (λ i. record w { first_block = x.block; first_index = i }) (sym next) in
    let is : IsWindow blocks (here w) = record {
      first = record { items = at.items; there = at.there; inside = omega (arith, at.inside) };
      end = window.end;
      uncrossed = up;
    } in
    let n : suc lo ≡ count_before blocks at.block (suc at.index) = omega (arith, at.before) in
    record {
      run_is = ap (λ (y : PlacedEntry). y.run) at.is;
      bytes_is = ap (λ (y : PlacedEntry). y.bytes) at.is;
      window = subst (IsWindow blocks) after is;
      rest_is = first.2 ∙ ap (λ k. between all k hi) n ∙ ap (placed_left run bytes blocks) after;
    }
