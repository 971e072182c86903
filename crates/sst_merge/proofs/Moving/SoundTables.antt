-- The blocks of a table over a sound run are known.
use Rattle.std.proofs.Common.{◌≡◌, ℕ, zero, suc, ◌<◌, ◌^◌, Bool, true, not, cond, List, [], ◌∷◌, ◌++◌, length, map, Some, None, Result, Ok, refl, sym, ap, subst, ◌∙◌, arith, length-append}
use Rattle.std.proofs.lemmas.List.{length-map, map-append}
use Rattle.std.specs.Cmp.Derive.{both_true}
use Rattle.std.specs.Cmp.Lexicographic.{slice_cmp}
use Rattle.std.specs.List.{AllByRecursion, AllZip}
use Rattle.std.specs.Ordering.{is_eq, is_lt, nat_cmp}
use Rattle.std.specs.Prelude.{◌&&◌}
use Rattle.sstable_blocks.specs.Prelude.{Entry, IsEntry, plain, data_check, index_check, DataVerdict, IndexVerdict, is_in_order, entries, Handle, handles, IsHandle, IsIndexBlock, IndexPasses, IsOrdered, IsBlock, Passes, items_in, trailer_in, first_match}
use Rattle.sstable_blocks.specs.BlockLaws.{slice_cmp-equal, is_not_lt}
use Rattle.sstable_blocks.specs.Results.{Error}
use Rattle.sstable_blocks.specs.BlockTypes as types
use Rattle.sstable_blocks.specs.Blocks.{joined}
use Rattle.sstable_blocks.specs.BoundLaws.{joined_plain, plain_ordered}
use Rattle.sstable_blocks.specs.RunReading.{Hashes, handles_at, payload_at}
use Rattle.sstable_blocks.specs.Sound.{IsSound, IsStoredBlock}
use Rattle.sstable_blocks.specs.SoundReadLaws.{bind_to, index_of_sound, stored_is_read}
use Rattle.sstable_blocks.specs.declared.run.RunHandles.{RunHandles}
use Rattle.sst_sources.specs.Merge.{entry_cmp}
use Rattle.sst_merge.specs.Movable.{item_before}
use Rattle.sst_sources.specs.TableReads.{order_passes}
use Rattle.sst_merge.specs.MovableTables.{block_reads, ends_with, errors_in, fit_blocks, have_ends, read_blocks, table_blocks, table_errors, with_block}

-- the last entry of a block, as decoded
last_plain : (front : List Entry) (x : Entry) (n : ℕ) → n ≡ length (map plain (front ++ x ∷ [])) → item_before (map plain (front ++ x ∷ [])) n ≡ Some (plain x)
last_plain [] x zero e = absurd (omega (arith, e))
last_plain [] x (suc zero) e = refl
last_plain [] x (suc (suc n)) e = absurd (omega (arith, e))
last_plain (y ∷ front) x zero e = absurd (omega (arith, e))
last_plain (y ∷ front) x (suc zero) e = absurd (let n = length-append front (x ∷ []) in let m = length-map (front ++ x ∷ []) plain in omega (arith, e, n, m))
last_plain (y ∷ front) x (suc (suc n)) e = last_plain front x (suc n) (omega (arith, e))

module _ (c : Hashes) (sums : (bytes : List ℕ) → c.hash128 bytes < 2 ^ 128)
    (data_verdict : (p : List ℕ) → DataVerdict c.hash64 (trailer_in p) p (data_check c.hash64 p))
    (index_verdict : (p : List ℕ) → IndexVerdict (trailer_in p) p (index_check p))
    (data_read : (p : List ℕ) (items : List Entry) (r b : ℕ) → length p < 2 ^ 32 → IsBlock entries IsEntry c.hash64 p items r b → Passes entries c.hash64 p × (items_in entries p ≡ map plain items))
    (index_read : (r : ℕ) (p : List ℕ) (items : List Handle) → length p < 2 ^ 32 → IsIndexBlock p items r → IndexPasses r p × (items_in handles p ≡ items) × ((trailer_in p).interval ≡ r))
    (plain_match : (needle : List ℕ) (seqno : ℕ) (items : List Entry) → first_match entries needle seqno (map plain items) ≡ first_match entries needle seqno items)
    (bytes : List ℕ)
  where
    all_read : (blocks : List (List Entry)) (hs : List Handle) → AllByRecursion IsHandle hs → AllZip (IsStoredBlock c bytes) blocks hs → (read_blocks (block_reads c bytes hs) ≡ Some (map (map plain) blocks)) × (errors_in (block_reads c bytes hs) ≡ [])
    all_read [] [] valid stored = (refl, refl)
    all_read [] (h ∷ hs) valid stored = absurd stored
    all_read (b ∷ bs) [] valid stored = absurd stored
    all_read (b ∷ bs) (h ∷ hs) valid stored =
        let read = stored_is_read c sums data_verdict index_verdict data_read index_read plain_match bytes [] 0 h b valid.0 stored.0 in
        let rest = all_read bs hs valid.1 stored.1 in (
          ap (λ r. with_block r (read_blocks (block_reads c bytes hs))) read ∙ ap (with_block (Ok (map plain b))) rest.0,
          ap (λ r. errors_in (r ∷ block_reads c bytes hs)) read ∙ rest.1,
        )

    ends_plain : (blocks : List (List Entry)) (hs : List Handle) → AllZip (IsStoredBlock c bytes) blocks hs → have_ends hs (map (map plain) blocks) ≡ true
    ends_plain [] [] stored = refl
    ends_plain [] (h ∷ hs) stored = absurd stored
    ends_plain (b ∷ bs) [] stored = absurd stored
    ends_plain (b ∷ bs) (h ∷ hs) stored =
        let i = stored.0.end in
        let last : item_before (map plain b) (length (map plain b)) ≡ Some (plain i.last) =
        ap (λ xs. item_before (map plain xs) (length (map plain xs))) i.whole ∙ last_plain i.front i.last (length (map plain (i.front ++ i.last ∷ []))) refl in
        let key : is_eq (slice_cmp nat_cmp h.end_key i.last.key.user_key) ≡ true = ap is_eq ((slice_cmp-equal h.end_key i.last.key.user_key).1 i.key) in
        both_true (ap (ends_with h) last ∙ key) (ends_plain bs hs stored.1)

    fits : (hs : List Handle) (blocks : List (List Entry)) → IsOrdered entries (joined blocks) → have_ends hs (map (map plain) blocks) ≡ true → fit_blocks hs (Some (map (map plain) blocks)) ≡ Some (map (map plain) blocks)
    fits hs blocks up ends =
        let ordered = order_passes (map plain (joined blocks)) (plain_ordered (joined blocks) up) in
        let t = both_true (ap (is_in_order entry_cmp) (joined_plain blocks) ∙ ordered) ends in
        ap (λ q. cond q (Some (map (map plain) blocks)) None) t

    known_by : (blocks : List (List Entry)) (hs : List Handle) → AllByRecursion IsHandle hs → AllZip (IsStoredBlock c bytes) blocks hs → IsOrdered entries (joined blocks) → (table_blocks c (Some bytes) hs ≡ Some (map (map plain) blocks)) × (table_errors c (Some bytes) hs ≡ Some [])
    unfolding table_blocks table_errors
    known_by blocks hs valid stored up =
        let k = all_read blocks hs valid stored in
        (ap (fit_blocks hs) k.0 ∙ fits hs blocks up (ends_plain blocks hs stored), ap Some k.1)

    -- the blocks of a sound run are known, and reading them gives no error
    pub sound_known : (blocks : List (List Entry)) (h : RunHandles) (index : List Handle) → IsSound c blocks bytes h → handles_at c bytes h.index ≡ Ok index → (table_blocks c (Some bytes) index ≡ Some (map (map plain) blocks)) × (table_errors c (Some bytes) index ≡ Some [])
    sound_known blocks h index d at =
        let i = index_of_sound c sums data_verdict index_verdict data_read index_read plain_match bytes [] 0 blocks h d in
        let is : handles_at c bytes h.index ≡ Ok d.handles = bind_to (payload_at c types.Index bytes h.index) index_check d.index.payload (Ok d.handles) i.0 i.1 in
        let same : ◌≡◌ {A = Result (List Handle) Error} (Ok d.handles) (Ok index) = sym is ∙ at in
        let hs : d.handles ≡ index = cc in
        let valid = d.index.is_block.block.encoding.are_valid in
        subst (λ g. (table_blocks c (Some bytes) g ≡ Some (map (map plain) blocks)) × (table_errors c (Some bytes) g ≡ Some [])) hs (known_by blocks d.handles valid d.stored d.ordered)
