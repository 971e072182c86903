-- A scan of a sound run reads its entries within the range.
use Rattle.std.proofs.Common.{◌≡◌, ℕ, ◌<◌, ◌^◌, List, [], ◌∷◌, length, map, refl, arith, sym, ◌∙◌, ap, subst, Result, Ok}
use Rattle.std.specs.List.{AllZip, AllByRecursion}
use Rattle.sst_base.specs.Entry.{Entry, IsEntry, plain}
use Rattle.sst_base.specs.Header.{◌>>=◌}
use Rattle.sst_base.specs.declared.error.Error.{Error}
use Rattle.sst_base.specs.declared.table.block.block_type.BlockType.TheVariants as types
use Rattle.sst_block_core.specs.Checks.{data_check, index_check, DataVerdict, IndexVerdict}
use Rattle.sst_block_core.specs.Entries.{entries}
use Rattle.sst_block_core.specs.Payload.{IsBlock}
use Rattle.sst_block_core.specs.Stages.{Passes, items_in}
use Rattle.sst_block_core.specs.Trailer.{trailer_in}
use Rattle.sst_block_core.specs.Window.{first_match}
use Rattle.sst_block_core.specs.Handles.{Handle, handles, IsHandle, IsIndexBlock, IndexPasses}
use Rattle.sstable_blocks.specs.Blocks.{joined}
use Rattle.sstable_blocks.specs.Opened.{range_of, index_in}
use Rattle.sstable_blocks.specs.OpeningLaws.{framed_size, frame_range}
use Rattle.sstable_blocks.specs.RangeReadLaws.{IsRead, read_all, reads_within}
use Rattle.sstable_blocks.specs.RunReading.{Hashes, payload_at, block_items_at, handles_at}
use Rattle.sstable_blocks.specs.Scans.{KeyRange, Read, within, handles_within, block_within, reads_of, blocks_read, IsBlockRead, IsReadRun}
use Rattle.sstable_blocks.specs.Sound.{IsStoredBlock, IsSound}
use Rattle.sstable_blocks.specs.SoundReadLaws.{bind_to, index_of_sound, stored_is_read}
use Rattle.sstable_blocks.specs.declared.run.RunHandles.{RunHandles}

module _ (c : Hashes) (sums : (bytes : List ℕ) → c.hash128 bytes < 2 ^ 128)
    (data_verdict : (p : List ℕ) → DataVerdict c.hash64 (trailer_in p) p (data_check c.hash64 p))
    (index_verdict : (p : List ℕ) → IndexVerdict (trailer_in p) p (index_check p))
    (data_read : (p : List ℕ) (items : List Entry) (r b : ℕ) → length p < 2 ^ 32 → IsBlock entries IsEntry c.hash64 p items r b → Passes entries c.hash64 p × (items_in entries p ≡ map plain items))
    (index_read : (r : ℕ) (p : List ℕ) (items : List Handle) → length p < 2 ^ 32 → IsIndexBlock p items r → IndexPasses r p × (items_in handles p ≡ items) × ((trailer_in p).interval ≡ r))
    (plain_match : (needle : List ℕ) (seqno : ℕ) (items : List Entry) → first_match entries needle seqno (map plain items) ≡ first_match entries needle seqno items)
    (bytes : List ℕ)
  where
    -- the block of a handle
    read_of : (h : Handle) (b : List Entry) → IsHandle h → IsStoredBlock c bytes b h → IsBlockRead c bytes h
    read_of h b valid k =
        let p = k.payload in
        let size = framed_size c types.Data bytes p (range_of h) k.frame in
        let less : h.size < 2 ^ 32 = valid.size in
        let short : length p < 2 ^ 32 = omega arith in
        let read = data_read p b k.interval k.buckets short k.is_block in
        let f = frame_range c types.Data bytes p (range_of h) k.frame in
        stored_is_read c sums data_verdict index_verdict data_read index_read plain_match bytes [] 0 h b valid k ∙ ap (λ xs. Ok xs) (sym (ap (items_in entries) f.1 ∙ read.1))

    all_read : (blocks : List (List Entry)) (hs : List Handle) → AllByRecursion IsHandle hs → AllZip (IsStoredBlock c bytes) blocks hs → AllByRecursion (IsBlockRead c bytes) hs
    all_read [] [] valid stored = tt
    all_read [] (h ∷ hs) valid stored = absurd stored
    all_read (b ∷ bs) [] valid stored = tt
    all_read (b ∷ bs) (h ∷ hs) valid stored = (read_of h b valid.0 stored.0, all_read bs hs valid.1 stored.1)

    -- what is read of the block of a handle, in a range
    abbrev read_at : KeyRange → Handle → List Read
    read_at r h = reads_of (block_within c bytes r h)

    one_within : (r : KeyRange) (h : Handle) (b : List Entry) → IsHandle h → IsStoredBlock c bytes b h → IsRead r (read_at r) (blocks_read c bytes r) refl (λ k ks. refl) b h
    one_within r h b valid k = record { end = k.end; read = ap (λ q. reads_of (q >>= (λ (xs : List Entry). Ok (within r xs)))) (stored_is_read c sums data_verdict index_verdict data_read index_read plain_match bytes [] 0 h b valid k) }

    all_within : (r : KeyRange) (blocks : List (List Entry)) (hs : List Handle) → AllByRecursion IsHandle hs → AllZip (IsStoredBlock c bytes) blocks hs → AllZip (IsRead r (read_at r) (blocks_read c bytes r) refl (λ k ks. refl)) blocks hs
    all_within r [] [] valid stored = tt
    all_within r [] (h ∷ hs) valid stored = absurd stored
    all_within r (b ∷ bs) [] valid stored = absurd stored
    all_within r (b ∷ bs) (h ∷ hs) valid stored = (one_within r h b valid.0 stored.0, all_within r bs hs valid.1 stored.1)

    -- a sound run is read
    pub read_run : (blocks : List (List Entry)) (h : RunHandles) → IsSound c blocks bytes h → IsReadRun c bytes h
    read_run blocks h d =
        let i = index_of_sound c sums data_verdict index_verdict data_read index_read plain_match bytes [] 0 blocks h d in
        let is : handles_at c bytes h.index ≡ Ok d.handles = bind_to (payload_at c types.Index bytes h.index) index_check d.index.payload (Ok d.handles) i.0 i.1 in
        let k = d.index in
        let framed = k.framed in
        let f = frame_range c types.Index bytes k.payload h.index k.frame in
        let same : index_in bytes h.index ≡ d.handles = ap (items_in handles) f.1 ∙ (index_read k.interval k.payload d.handles (omega arith) k.is_block).1 in
        let valid = k.is_block.block.encoding.are_valid in
        record {
          index = is ∙ ap (λ hs. Ok hs) (sym same);
          blocks = subst (AllByRecursion (IsBlockRead c bytes)) (sym same) (all_read blocks d.handles valid d.stored);
        }

    pub scan_sound : (blocks : List (List Entry)) (h : RunHandles) (r : KeyRange) (hs : List Handle) → IsSound c blocks bytes h → handles_at c bytes h.index ≡ Ok hs
        → blocks_read c bytes r (handles_within r hs) ≡ map Ok (within r (map plain (joined blocks)))
    scan_sound blocks h r hs d at =
        let i = index_of_sound c sums data_verdict index_verdict data_read index_read plain_match bytes [] 0 blocks h d in
        let is : handles_at c bytes h.index ≡ Ok d.handles = bind_to (payload_at c types.Index bytes h.index) index_check d.index.payload (Ok d.handles) i.0 i.1 in
        let e : ◌≡◌ {A = Result (List Handle) Error} (Ok hs) (Ok d.handles) = sym at ∙ is in
        let same : hs ≡ d.handles = cc in
        let valid = d.index.is_block.block.encoding.are_valid in
        ap (λ ks. blocks_read c bytes r (handles_within r ks)) same
        ∙ reads_within r (read_at r) (blocks_read c bytes r) refl (λ k ks. refl) blocks d.handles (all_within r blocks d.handles valid d.stored) d.ordered
