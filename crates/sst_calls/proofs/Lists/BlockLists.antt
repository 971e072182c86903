-- The block of a sound run at an index.
use Rattle.std.proofs.Common.{◌≡◌, ◌∙◌, ℕ, List, Option, None, Some, refl, sym, ap, subst}
use Rattle.std.specs.Prelude.{slice_get}
use Rattle.std.specs.Option.{option_map}
use Rattle.sstable_blocks.specs.Prelude.{HandleParts, Entry, Handle}
use Rattle.sstable_blocks.specs.BlockLaws.{handle_range}
use Rattle.sstable_blocks.specs.Opened.{IsOpen, Opened, index_in}
use Rattle.sstable_blocks.specs.declared.run.RunHandles.{RunHandles}

pub some_range : (x : Option Handle) (k : HandleParts) → option_map handle_range x ≡ Some k → (g : Handle) × (x ≡ Some g) × (handle_range g ≡ k)
some_range None k e = cc
some_range (Some g) k e = (g, refl, cc)

-- the handle at an index of the index leads to the block at that index
pub block_here : (hash : List ℕ → ℕ) (blocks : List (List Entry)) (bytes : List ℕ) (h : RunHandles) (items : List Handle) (n : ℕ) (k : HandleParts)
    → Opened hash blocks bytes h → items ≡ index_in bytes h.index → Some k ≡ option_map handle_range (slice_get items n)
    → (block : List Entry) × (slice_get blocks n ≡ Some block) × IsOpen hash bytes k block
block_here hash blocks bytes h items n k o same at =
    let found = some_range (slice_get (index_in bytes h.index) n) k (ap (λ xs. option_map handle_range (slice_get xs n)) (sym same) ∙ sym at) in
    let there = o.block_open n found.0 found.1 in
    (there.0, there.1, subst (λ r. IsOpen hash bytes r there.0) found.2 there.2)
