-- The blocks of a sound run, all opened.
use Rattle.std.proofs.Common.{◌≡◌, ℕ, zero, suc, ◌+◌, ◌<◌, List, [], ◌∷◌, ◌++◌, length, map, take, Some, slice_get, refl, sym, ap, subst, ◌∙◌, arith, length-append, add-one}
use Rattle.std.proofs.lemmas.List.{length-map, map-append}
use Rattle.std.specs.List.{AllByRecursion, AllZip}
use Rattle.sst_base.specs.Entry.{Entry, plain}
use Rattle.sst_base.specs.TestLaws.{some_is}
use Rattle.sst_block_core.specs.Entries.{entries}
use Rattle.sst_block_core.specs.Handles.{Handle}
use Rattle.sst_block_core.specs.Kind.{IsOrdered}
use Rattle.sst_block_core.specs.Stages.{items_in}
use Rattle.sstable_blocks.specs.Blocks.{IsNotEmpty, joined}
use Rattle.sstable_blocks.specs.Opened.{Opened, index_in, payload_in, range_of}
use Rattle.sstable_blocks.specs.RunBlocks.{blocks_in}
use Rattle.sstable_blocks.specs.RunReading.{Hashes}
use Rattle.sstable_blocks.specs.Sound.{IsSound, IsStoredBlock, RunParts}
use Rattle.sstable_blocks.specs.declared.run.RunHandles.{RunHandles}
use Rattle.sst_block_core.specs.WindowLaws.{take_one_more}
use Rattle.sstable_blocks.specs.BoundLaws.{joined_plain, plain_ordered}

-- two lists that have the same at each index
same_lists : (f : Handle → List Entry) (hs : List Handle) (blocks : List (List Entry)) → length hs ≡ length blocks
    → ((n : ℕ) (g : Handle) → slice_get hs n ≡ Some g → (block : List Entry) × (slice_get blocks n ≡ Some block) × (f g ≡ map plain block)) → map f hs ≡ map (map plain) blocks
same_lists f [] [] size all = refl
same_lists f [] (b ∷ blocks) size all = absurd (omega (arith, size))
same_lists f (h ∷ hs) [] size all = absurd (omega (arith, size))
same_lists f (h ∷ hs) (b ∷ blocks) size all =
    let here = all zero h refl in
    let is : b ≡ here.0 = some_is b here.0 here.1 in
    ap (λ xs. xs ∷ map f hs) (here.2 ∙ ap (map plain) (sym is)) ∙ ap (λ xss. map plain b ∷ xss) (same_lists f hs blocks (omega (arith, size)) (λ n g at. all (suc n) g at))

pub sound_blocks : (hash64 : List ℕ → ℕ) (blocks : List (List Entry)) (run : RunParts) → Opened hash64 blocks run.bytes run.handles → blocks_in run ≡ map (map plain) blocks
sound_blocks hash64 blocks run o =
    same_lists (λ (h : Handle). items_in entries (payload_in run.bytes (range_of h))) (index_in run.bytes run.handles.index) blocks o.count
    (λ n g at. (let b = o.block_open n g at in (b.0, b.1, b.2.items)))

pub sound_ordered : (c : Hashes) (blocks : List (List Entry)) (bytes : List ℕ) (h : RunHandles) → IsSound c blocks bytes h → IsOrdered entries (joined (map (map plain) blocks))
sound_ordered c blocks bytes h sound = subst (IsOrdered entries) (sym (joined_plain blocks)) (plain_ordered (joined blocks) sound.ordered)

not_empty : (c : Hashes) (bytes : List ℕ) (blocks : List (List Entry)) (hs : List Handle) → AllZip (IsStoredBlock c bytes) blocks hs → AllByRecursion IsNotEmpty (map (map plain) blocks)
not_empty c bytes [] [] all = tt
not_empty c bytes [] (h ∷ hs) all = absurd all
not_empty c bytes (b ∷ blocks) [] all = absurd all
not_empty c bytes (b ∷ blocks) (h ∷ hs) all = (
  (let e = ap length all.0.end.whole in let n = length-append all.0.end.front (all.0.end.last ∷ []) in let m = length-map b plain in omega (arith, e, n, m)),
  not_empty c bytes blocks hs all.1,
)

pub sound_some : (c : Hashes) (blocks : List (List Entry)) (bytes : List ℕ) (h : RunHandles) → IsSound c blocks bytes h → AllByRecursion IsNotEmpty (map (map plain) blocks)
sound_some c blocks bytes h sound = not_empty c bytes blocks sound.handles sound.stored

-- one block more
pub one_more : {A B C : Type 0} (f : A → C) (g : B → C) (xs : List A) (hs : List B) (i : ℕ) (x : A) (h : B) → map f xs ≡ map g (take i hs) → slice_get hs i ≡ Some h → f x ≡ g h → map f (xs ++ x ∷ []) ≡ map g (take (i + 1) hs)
one_more f g xs hs i x h so_far at is =
    map-append f xs (x ∷ []) ∙ ap (λ zs. zs ++ f x ∷ []) so_far ∙ ap (λ z. map g (take i hs) ++ z ∷ []) is ∙ sym (ap (map g) (ap (λ n. take n hs) (add-one i) ∙ take_one_more hs i h at) ∙ map-append g (take i hs) (h ∷ []))
