-- How little a read of a layout examines, by its configuration.
use Rattle.std.proofs.Common.{◌≡◌, ℕ, zero, suc, ◌+◌, ◌<◌, ◌≤◌, ◌^◌, List, [], ◌∷◌, length, map, refl, arith, sym, ◌∙◌, ap, subst}
use Rattle.std.proofs.lemmas.List.{length-map}
use Rattle.std.specs.List.{AllZip, AllByRecursion, slice_get}
use Rattle.sst_base.specs.BlockHandle.{HandleParts}
use Rattle.sst_base.specs.Entry.{Entry, IsEntry, plain}
use Rattle.sst_base.specs.declared.table.block.block_type.BlockType.TheVariants as types
use Rattle.sst_block_core.specs.Entries.{entries}
use Rattle.sst_block_core.specs.Intervals.{digits}
use Rattle.sst_block_core.specs.Payload.{IsBlock}
use Rattle.sst_block_core.specs.Pointers.{head_count}
use Rattle.sst_block_core.specs.Stages.{items_in}
use Rattle.sst_block_core.specs.Trailer.{trailer_in}
use Rattle.sst_block_core.specs.Handles.{Handle, handles, IsIndexBlock}
use Rattle.sstable_blocks.specs.Lookup.{handle_for, place_for}
use Rattle.sstable_blocks.specs.Opened.{range_of, payload_in, index_in}
use Rattle.sstable_blocks.specs.ReadCosts.{interval_in, heads_at, entries_at, heads_most_in, entries_most_in, heads_most, handles_most, entries_most, heads_of}
use Rattle.sstable_blocks.specs.Run.{Form, block_payload, block_frame, handle_of, handles_from, index_text, run_text, run_handles, IsFramed, IsRun, RunFits, IsLayout}
use Rattle.sstable_blocks.specs.declared.run.RunHandles.{RunHandles}
use Rattle.sstable_blocks.proofs.Layouts.BlockHandles.{length-handles_from}
use Rattle.sstable_blocks.proofs.Layouts.BlockFrames.{IsHandleOf, run_frames, index_stands, EncodesBlock, blocks_are_blocks, index_is_index}
use Rattle.sstable_blocks.specs.OpeningLaws.{frame_range}
use Rattle.sstable_blocks.proofs.Layouts.SoundLayouts.{both, part_is_framed}

module _ (f : Form)
    (data_read : (p : List ℕ) (items : List Entry) (r b : ℕ) → length p < 2 ^ 32 → IsBlock entries IsEntry f.hash64 p items r b → (items_in entries p ≡ map plain items) × ((trailer_in p).interval ≡ r))
    (index_read : (r : ℕ) (p : List ℕ) (items : List Handle) → length p < 2 ^ 32 → IsIndexBlock p items r → (items_in handles p ≡ items) × ((trailer_in p).interval ≡ r))
  where
    costs_at : (bytes : List ℕ) (offset : ℕ) (blocks : List (List Entry)) → AllZip (IsHandleOf f bytes) blocks (handles_from f offset blocks) → AllByRecursion (EncodesBlock f) blocks → AllByRecursion (λ block. IsFramed (block_payload f block)) blocks
        → (n : ℕ) → (heads_at bytes (slice_get (handles_from f offset blocks) n) ≡ heads_of f (slice_get blocks n)) × (entries_at bytes (slice_get (handles_from f offset blocks) n) ≤ f.config.restart_interval + 1)
    costs_at bytes offset [] stand are small n = (refl, omega arith)
    costs_at bytes offset (b ∷ bs) stand are small zero =
        let p = block_payload f b in
        let h : HandleParts = range_of (handle_of f offset b) in
        let r = (frame_range (both f) types.Data bytes p h (part_is_framed f types.Data bytes p h stand.0.part stand.0.size)).1 in
        let fits : IsFramed p = small.0 in
        let read = data_read p b _ _ (omega arith) are.0 in
        let interval : interval_in bytes h ≡ f.config.restart_interval = ap (λ q. (trailer_in q).interval) r ∙ read.1 in
        let count : length (items_in entries (payload_in bytes h)) ≡ length b = ap (λ q. length (items_in entries q)) r ∙ ap length read.0 ∙ length-map b plain in
        (ap (λ n. head_count n (length (items_in entries (payload_in bytes h)))) interval ∙ ap (head_count f.config.restart_interval) count, omega arith)
    costs_at bytes offset (b ∷ bs) stand are small (suc n) = costs_at bytes (offset + length (block_frame f b)) bs stand.1 are.1 small.1 n

    written_costs : (blocks : List (List Entry)) (p needle : List ℕ) (s : ℕ) → IsRun f blocks → RunFits f blocks
        → (heads_most_in (run_text f blocks p) (run_handles f blocks p) needle s ≡ heads_most f blocks needle s) × (entries_most_in (run_text f blocks p) (run_handles f blocks p) needle s ≤ entries_most f)
    unfolding run_handles
    written_costs blocks p needle s run fits =
        let bytes = run_text f blocks p in
        let hs = handles_from f 0 blocks in
        let q = index_text f blocks in
        let h : HandleParts = (run_handles f blocks p).index in
        let small : IsFramed q = fits.index_frame_fits in
        let r = (frame_range (both f) types.Index bytes q h (part_is_framed f types.Index bytes q h (index_stands f blocks p) refl)).1 in
        let read = index_read f.config.index_interval q hs (omega arith) (index_is_index f blocks run fits) in
        let interval : interval_in bytes h ≡ f.config.index_interval = ap (λ x. (trailer_in x).interval) r ∙ read.1 in
        let items : index_in bytes h ≡ hs = ap (items_in handles) r ∙ read.0 in
        let count : length (index_in bytes h) ≡ length blocks = ap length items ∙ length-handles_from f blocks 0 in
        let at = costs_at bytes 0 blocks (run_frames f blocks p) (blocks_are_blocks f blocks run.all_some run.valid run.ordered run.interval) fits.data_frames_fit (place_for handles needle s hs) in
        let first : digits (head_count (interval_in bytes h) (length (index_in bytes h))) ≡ digits (head_count f.config.index_interval (length blocks)) =
        ap (λ n. digits (head_count n (length (index_in bytes h)))) interval ∙ ap (λ n. digits (head_count f.config.index_interval n)) count in
        let heads = ap (λ xs. digits (heads_at bytes (handle_for handles needle s xs))) items ∙ ap digits at.0 in
        let entries_same = ap (λ xs. entries_at bytes (handle_for handles needle s xs)) items in
        let more = at.1 in
        let begin = ap handles_most interval in (
          ap (λ n. n + digits (heads_at bytes (handle_for handles needle s (index_in bytes h)))) first ∙ ap (λ n. digits (head_count f.config.index_interval (length blocks)) + n) heads,
          omega arith,
        )

    pub layout_costs : (blocks : List (List Entry)) (bytes : List ℕ) (h : RunHandles) (needle : List ℕ) (s : ℕ) → IsLayout f blocks bytes h → (heads_most_in bytes h needle s ≡ heads_most f blocks needle s) × (entries_most_in bytes h needle s ≤ entries_most f)
    layout_costs blocks bytes h needle s l =
        subst (λ xs. (heads_most_in xs h needle s ≡ heads_most f blocks needle s) × (entries_most_in xs h needle s ≤ entries_most f)) (sym l.text)
        (subst (λ k. (heads_most_in (run_text f blocks l.filter) k needle s ≡ heads_most f blocks needle s) × (entries_most_in (run_text f blocks l.filter) k needle s ≤ entries_most f)) (sym l.handles)
        (written_costs blocks l.filter needle s l.run l.fits))
