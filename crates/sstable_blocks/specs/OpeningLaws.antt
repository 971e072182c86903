-- A sound run is what a reader finds.
use Rattle.std.proofs.Common.{◌≡◌, ℕ, zero, suc, ◌+◌, ◌-◌, ◌<◌, ◌^◌, List, [], ◌∷◌, ◌++◌, length, map, take, drop, refl, arith, sym, ◌∙◌, ap, subst, Option, Some, None, IfSome, Ok}
use Rattle.std.proofs.lemmas.List.{drop_at, drop-drop, drop-take, length-take-le, length-drop}
use Rattle.std.specs.List.{AllZip, AllByRecursion, slice_get}
use Rattle.sst_base.specs.BlockHandle.{HandleParts}
use Rattle.sst_base.specs.Entry.{Entry, IsEntry, plain}
use Rattle.sst_base.specs.Frame.{frame, header_for}
use Rattle.sst_base.specs.FrameLaws.{length-header, length-frame}
use Rattle.sst_base.specs.Header.{header}
use Rattle.sst_base.specs.declared.table.block.block_type.BlockType.{BlockType}
use Rattle.sst_base.specs.declared.table.block.block_type.BlockType.TheVariants as types
use Rattle.sst_block_core.specs.Payload.{IsBlock}
use Rattle.sst_block_core.specs.Entries.{entries}
use Rattle.sst_block_core.specs.Stages.{items_in}
use Rattle.sst_block_core.specs.Window.{first_match}
use Rattle.sst_block_core.specs.Handles.{Handle, handles, IsHandle, IsIndexBlock}
use Rattle.sstable_blocks.specs.Blocks.{joined}
use Rattle.sstable_blocks.specs.Filter.{Filter, filter_at}
use Rattle.sstable_blocks.specs.Lookup.{IsEnd, first_in, place_for}
use Rattle.sstable_blocks.specs.Opened.{range_of, IsFrameRange, payload_in, index_in, IsDenied, IsOpen, Opened}
use Rattle.sstable_blocks.specs.RunReading.{Hashes, IsFramedAt}
use Rattle.sstable_blocks.specs.Sound.{IsStoredBlock, IsStoredFilter, IsSound}
use Rattle.sstable_blocks.specs.declared.run.RunHandles.{RunHandles}
use Rattle.sstable_blocks.specs.FilterReadLaws.{denied}
use Rattle.sstable_blocks.specs.SearchLaws.{first_match-joined}

-- the size of a handle in whose range a frame is
pub framed_size : (c : Hashes) (t : BlockType) (bytes p : List ℕ) (h : HandleParts) → IsFramedAt c t bytes h p → h.size ≡ 33 + length p
framed_size c t bytes p h s =
    let inside = s.inside in
    let l = length-drop h.offset bytes in
    sym (length-take-le h.size (drop h.offset bytes) (omega arith)) ∙ ap length s.whole ∙ length-frame c.hash128 t p

-- the range of a handle, where a frame is in it
pub frame_range : (c : Hashes) (t : BlockType) (bytes p : List ℕ) (h : HandleParts) → IsFramedAt c t bytes h p → IsFrameRange bytes h × (payload_in bytes h ≡ p)
unfolding payload_in frame
frame_range c t bytes p h s =
    let head = header c.hash128 (header_for c.hash128 t p) in
    let size = framed_size c t bytes p h s in
    let whole : 33 + (h.size - 33) ≡ h.size = omega arith in (
      record { inside = s.inside; header = omega arith },
      ap (λ xs. take (h.size - 33) xs) (sym (drop-drop 33 h.offset bytes)) ∙ sym (drop-take 33 (h.size - 33) (drop h.offset bytes)) ∙ ap (λ n. drop 33 (take n (drop h.offset bytes))) whole ∙ ap (drop 33) s.whole
          ∙ ap (λ n. drop n (head ++ p)) (sym (length-header c.hash128 (header_for c.hash128 t p))) ∙ drop_at head p (length head) refl,
    )

-- the handles of a sound run have the last entries of its blocks, and are as many
module _ (c : Hashes) (bytes : List ℕ) where
  pub stored_ends : (blocks : List (List Entry)) (hs : List Handle) → AllZip (IsStoredBlock c bytes) blocks hs → AllZip (IsEnd entries handles) blocks hs
  stored_ends [] [] stored = tt
  stored_ends [] (h ∷ hs) stored = absurd stored
  stored_ends (b ∷ bs) [] stored = absurd stored
  stored_ends (b ∷ bs) (h ∷ hs) stored = (stored.0.end, stored_ends bs hs stored.1)

  pub stored_count : (blocks : List (List Entry)) (hs : List Handle) → AllZip (IsStoredBlock c bytes) blocks hs → length hs ≡ length blocks
  stored_count [] [] stored = refl
  stored_count [] (h ∷ hs) stored = absurd stored
  stored_count (b ∷ bs) [] stored = absurd stored
  stored_count (b ∷ bs) (h ∷ hs) stored = ap suc (stored_count bs hs stored.1)

  -- after the handles there are no blocks
  none_after : (blocks : List (List Entry)) (hs : List Handle) → AllZip (IsStoredBlock c bytes) blocks hs → (n : ℕ) → slice_get hs n ≡ None → slice_get blocks n ≡ None
  none_after [] hs stored n e = refl
  none_after (b ∷ bs) [] stored n e = absurd stored
  none_after (b ∷ bs) (h ∷ hs) stored zero e = absurd (cc)
  none_after (b ∷ bs) (h ∷ hs) stored (suc n) e = none_after bs hs stored.1 n e

  -- what a reader finds of a filter
  abbrev FilterOpened : List (List Entry) → Option HandleParts → Type 0
  FilterOpened blocks h =
      IfSome h (IsFrameRange bytes) × IfSome h (λ g. (x : Filter) × (filter_at (payload_in bytes g) ≡ Ok x))
      × ((needle : List ℕ) (seqno : ℕ) → IsDenied bytes h (c.hash64 needle) → first_match entries needle seqno (joined blocks) ≡ None)

  filter_opened : (blocks : List (List Entry)) (h : Option HandleParts) → IfSome h (IsStoredFilter c bytes (joined blocks)) → FilterOpened blocks h
  filter_opened blocks None stored = (tt, tt, (λ needle seqno wrong. absurd wrong))
  filter_opened blocks (Some h) stored =
      let r = frame_range c types.Filter bytes stored.payload h stored.frame in (
        r.0,
        (stored.filter, ap filter_at r.1 ∙ stored.reads),
        (λ needle seqno no. denied c.hash64 (joined blocks) stored.payload needle seqno stored.filter stored.contains stored.reads no.0 (ap filter_at (sym r.1) ∙ no.1) no.2),
      )

  module _ (data_read : (p : List ℕ) (items : List Entry) (r b : ℕ) → length p < 2 ^ 32 → IsBlock entries IsEntry c.hash64 p items r b → items_in entries p ≡ map plain items)
      (plain_match : (needle : List ℕ) (seqno : ℕ) (items : List Entry) → first_match entries needle seqno (map plain items) ≡ first_match entries needle seqno items)
      (index_read : (r : ℕ) (p : List ℕ) (items : List Handle) → length p < 2 ^ 32 → IsIndexBlock p items r → items_in handles p ≡ items)
    where
      -- a block, where its frame is
      open_one : (h : Handle) (block : List Entry) → IsHandle h → IsStoredBlock c bytes block h → IsOpen c.hash64 bytes (range_of h) block
      open_one h block valid b =
          let r = frame_range c types.Data bytes b.payload (range_of h) b.frame in
          let size = framed_size c types.Data bytes b.payload (range_of h) b.frame in
          let small : h.size < 2 ^ 32 = valid.size in
          let items = ap (items_in entries) r.1 ∙ data_read b.payload block b.interval b.buckets (omega arith) b.is_block in
          record {
            range = r.0;
            interval = b.interval;
            buckets = b.buckets;
            is_block = subst (λ q. IsBlock entries IsEntry c.hash64 q block b.interval b.buckets) (sym r.1) b.is_block;
            items = items;
            first = λ needle seqno. ap (first_match entries needle seqno) items ∙ plain_match needle seqno block;
          }

      -- the block of a handle
      open_at : (blocks : List (List Entry)) (hs : List Handle) → AllByRecursion IsHandle hs → AllZip (IsStoredBlock c bytes) blocks hs → (n : ℕ) (g : Handle) → slice_get hs n ≡ Some g
          → (block : List Entry) × (slice_get blocks n ≡ Some block) × IsOpen c.hash64 bytes (range_of g) block
      open_at blocks [] valid stored n g e = cc
      open_at [] (h ∷ hs) valid stored n g e = absurd stored
      open_at (b ∷ bs) (h ∷ hs) valid stored zero g e =
          let same : h ≡ g = cc in
          (b, refl, subst (λ k. IsOpen c.hash64 bytes (range_of k) b) same (open_one h b valid.0 stored.0))
      open_at (b ∷ bs) (h ∷ hs) valid stored (suc n) g e = open_at bs hs valid.1 stored.1 n g e

      pub sound_opens : (blocks : List (List Entry)) (h : RunHandles) → IsSound c blocks bytes h → Opened c.hash64 blocks bytes h
      sound_opens blocks h s =
          let i = s.index in
          let r = frame_range c types.Index bytes i.payload h.index i.frame in
          let small = i.framed in
          let read : index_in bytes h.index ≡ s.handles = ap (items_in handles) r.1 ∙ index_read i.interval i.payload s.handles (omega arith) i.is_block in
          let valid = i.is_block.block.encoding.are_valid in
          let f = filter_opened blocks h.filter s.filter in
          record {
            index_range = r.0;
            index_interval = i.interval;
            index_block = subst (λ q. IsIndexBlock q (index_in bytes h.index) i.interval) (sym r.1) (subst (λ hs. IsIndexBlock i.payload hs i.interval) (sym read) i.is_block);
            count = ap length read ∙ stored_count blocks s.handles s.stored;
            found = λ needle seqno. first_match-joined entries needle seqno handles blocks s.handles (stored_ends blocks s.handles s.stored) s.ordered
                ∙ ap (λ hs. first_in entries needle seqno (slice_get blocks (place_for handles needle seqno hs))) (sym read);
            block_open = λ n g e. open_at blocks s.handles valid s.stored n g (ap (λ hs. slice_get hs n) (sym read) ∙ e);
            none_open = λ n e. none_after blocks s.handles s.stored n (ap (λ hs. slice_get hs n) (sym read) ∙ e);
            filter_range = f.0;
            filter_reads = f.1;
            filter_denies = f.2;
          }
