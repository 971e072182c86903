-- The blocks of a sound run, as its bytes have them.
use Rattle.std.proofs.Common.{◌≡◌, ◌∙◌, ℕ, suc, ◌<◌, List, [], ◌∷◌, length, map, refl, sym, ap, arith, Some}
use Rattle.std.specs.Prelude.{slice_get}
use Rattle.std.specs.Option.{option_map}
use Rattle.sstable_blocks.specs.BlockLaws.{handle_range}
use Rattle.std.proofs.lemmas.List.{length-map}
use Rattle.std.proofs.lemmas.Option.{slice_get-map, slice_get_within}
use Rattle.sstable_blocks.specs.Prelude.{HandleParts, Entry, Handle, entries, items_in, plain}
use Rattle.sstable_blocks.specs.Opened.{Opened, index_in, payload_in, range_of}
use Rattle.sstable_blocks.specs.declared.run.RunHandles.{RunHandles}
use Rattle.sst_calls.specs.Windows.{IsPlaceIn, blocks_in, stored}
use Rattle.sst_calls.proofs.Lists.BlockLists.{some_range}

-- lists of which each item of one has its like in the other
each_alike : {A B C : Type 0} (f : A → C) (g : B → C) (xs : List A) (ys : List B) → length xs ≡ length ys
    → ((n : ℕ) (x : A) → slice_get xs n ≡ Some x → (y : B) × (slice_get ys n ≡ Some y) × (f x ≡ g y)) → map f xs ≡ map g ys
each_alike f g [] [] len like = refl
each_alike f g [] (y ∷ ys) len like = absurd (omega (arith, len))
each_alike f g (x ∷ xs) [] len like = absurd (omega (arith, len))
each_alike f g (x ∷ xs) (y ∷ ys) len like =
    let first = like 0 x refl in
    let same : y ≡ first.0 = cc (first.1) in
    let front : f x ≡ g y = first.2 ∙ ap g (sym same) in
    let rest = each_alike f g xs ys (omega (arith, len)) (λ n z at. like (suc n) z at) in
    cc

-- a run's blocks are stored as they were written
pub blocks_stored : (hash : List ℕ → ℕ) (blocks : List (List Entry)) (bytes : List ℕ) (h : RunHandles) → Opened hash blocks bytes h → blocks_in bytes h ≡ stored blocks
blocks_stored hash blocks bytes h o =
    each_alike (λ (g : Handle). items_in entries (payload_in bytes (range_of g))) (λ (b : List Entry). map plain b) (index_in bytes h.index) blocks o.count
    (λ n g at. (let there = o.block_open n g at in (there.0, there.1, there.2.items)))

-- the number of the blocks
pub blocks_count : (bytes : List ℕ) (h : RunHandles) → length (blocks_in bytes h) ≡ length (index_in bytes h.index)
blocks_count bytes h = length-map (index_in bytes h.index) (λ (g : Handle). items_in entries (payload_in bytes (range_of g)))

-- the block of the handle at an index
pub block_in : (bytes : List ℕ) (h : RunHandles) (n : ℕ) (g : Handle) → slice_get (index_in bytes h.index) n ≡ Some g → slice_get (blocks_in bytes h) n ≡ Some (items_in entries (payload_in bytes (range_of g)))
block_in bytes h n g at = slice_get-map (λ (k : Handle). items_in entries (payload_in bytes (range_of k))) (index_in bytes h.index) n ∙ cc (at)

-- the same by a range of an index
pub block_of_handle : (bytes : List ℕ) (h : RunHandles) (items : List Handle) (n : ℕ) (k : HandleParts) → items ≡ index_in bytes h.index → Some k ≡ option_map handle_range (slice_get items n)
    → slice_get (blocks_in bytes h) n ≡ Some (items_in entries (payload_in bytes k))
block_of_handle bytes h items n k same at =
    let found = some_range (slice_get (index_in bytes h.index) n) k (ap (λ xs. option_map handle_range (slice_get xs n)) (sym same) ∙ sym at) in
    block_in bytes h n found.0 found.1 ∙ ap (λ r. Some (items_in entries (payload_in bytes r))) found.2

-- a place of a run is in one of its blocks
pub place_inside : (bytes : List ℕ) (h : RunHandles) (block index : ℕ) → IsPlaceIn (blocks_in bytes h) block index → block < length (index_in bytes h.index)
place_inside bytes h block index place = omega (arith, slice_get_within (blocks_in bytes h) block place.items place.there, blocks_count bytes h)
