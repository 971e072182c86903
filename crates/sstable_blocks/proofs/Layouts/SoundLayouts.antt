-- A layout is sound.
use Rattle.std.proofs.Common.{◌≡◌, ℕ, suc, ◌+◌, ◌≤◌, inl, inr, List, [], ◌∷◌, length, take, drop, refl, arith, sym, ◌∙◌, ap, subst, Option, IfSome, IfOk, Result, Ok, Err}
use Rattle.std.proofs.lemmas.Bool.{cases_eq}
use Rattle.std.specs.List.{AllZip, AllByRecursion, Contains}
use Rattle.sst_base.specs.BlockHandle.{HandleParts}
use Rattle.sst_base.specs.Entry.{Entry}
use Rattle.sst_base.specs.Frame.{frame}
use Rattle.sst_base.specs.declared.error.Error.{Error}
use Rattle.sst_base.specs.declared.table.block.block_type.BlockType.{BlockType}
use Rattle.sst_base.specs.declared.table.block.block_type.BlockType.TheVariants as types
use Rattle.sst_block_core.specs.Buckets.{bucket_count}
use Rattle.sst_block_core.specs.Entries.{entries}
use Rattle.sst_block_core.specs.Handles.{handles}
use Rattle.sstable_blocks.specs.Blocks.{joined}
use Rattle.sstable_blocks.specs.Filter.{MayContain}
use Rattle.sstable_blocks.specs.FilterLaws.{inserted_may_be_contained}
use Rattle.sstable_blocks.specs.Lookup.{IsEnd}
use Rattle.sstable_blocks.specs.Opened.{range_of}
use Rattle.sstable_blocks.specs.Run.{Form, block_payload, block_frame, handle_of, handles_from, index_text, run_text, run_handles, key_hashes, IsFilterText, IsRun, RunFits, IsLayout}
use Rattle.sstable_blocks.specs.RunReading.{Hashes, hashes, IsFramedAt}
use Rattle.sstable_blocks.specs.Sound.{IsStoredBlock, IsStoredFilter, AreContiguous, IsSound}
use Rattle.sstable_blocks.specs.Writing.{AppendsLayout, AppendsSound}
use Rattle.sstable_blocks.specs.declared.run.RunHandles.{RunHandles}
use Rattle.sstable_blocks.proofs.Layouts.BlockHandles.{handles_end}
use Rattle.sstable_blocks.proofs.Layouts.Endings.{filter_framed as filter_small}
use Rattle.sstable_blocks.specs.FilterReadLaws.{filter_handle, no_filter, some_filter, filter_framed, filter_reads}
use Rattle.sstable_blocks.proofs.Layouts.BlockFrames.{IsPart, IsHandleOf, run_frames, index_stands, filter_stands, EncodesBlock, blocks_are_blocks, index_is_index}

-- what holds of all hashes of keys holds of each key's
each_key : (hash : List ℕ → ℕ) (P : ℕ → Type 0) (items : List Entry) → ((n : ℕ) → Contains (key_hashes hash items) n → P n) → AllByRecursion (λ x. P (hash x.key.user_key)) items
each_key hash P [] h = tt
each_key hash P (x ∷ xs) h = (
  h (hash x.key.user_key) (0, omega arith, refl),
  each_key hash P xs (λ n c. h n (suc c.0, (let k = c.1 in omega arith), c.2)),
)

module _ (f : Form) where
  abbrev pub both : Hashes
  both = hashes f.hash64 f.hash128

  pub part_is_framed : (t : BlockType) (bytes p : List ℕ) (h : HandleParts) → IsPart bytes h.offset (frame f.hash128 t p) → h.size ≡ length (frame f.hash128 t p) → IsFramedAt both t bytes h p
  part_is_framed t bytes p h part size = record {
    inside = (let inside = part.inside in omega arith);
    whole = ap (λ n. take n (drop h.offset bytes)) size ∙ part.is;
  }

  blocks_are_stored : (bytes : List ℕ) (offset : ℕ) (blocks : List (List Entry)) → AllZip (IsHandleOf f bytes) blocks (handles_from f offset blocks) → AllByRecursion (EncodesBlock f) blocks
      → AllZip (IsEnd entries handles) blocks (handles_from f offset blocks) → AllZip (IsStoredBlock both bytes) blocks (handles_from f offset blocks)
  blocks_are_stored bytes offset [] stand are ends = tt
  blocks_are_stored bytes offset (b ∷ bs) stand are ends = (
    record {
      payload = block_payload f b;
      frame = part_is_framed types.Data bytes (block_payload f b) (range_of (handle_of f offset b)) stand.0.part stand.0.size;
      interval = f.config.restart_interval;
      buckets = bucket_count f.config.ratio.num f.config.ratio.den (length b);
      is_block = are.0;
      end = ends.0;
    },
    blocks_are_stored bytes (offset + length (block_frame f b)) bs stand.1 are.1 ends.1,
  )

  contiguous : (offset : ℕ) (blocks : List (List Entry)) → AreContiguous offset (handles_from f offset blocks)
  contiguous offset [] = tt
  contiguous offset (b ∷ bs) = (refl, contiguous (offset + length (block_frame f b)) bs)

  filter_is_stored : (blocks : List (List Entry)) (p : List ℕ) → RunFits f blocks → (1 ≤ f.config.bits_per_key → IsFilterText (key_hashes f.hash64 (joined blocks)) f.config.bits_per_key p)
      → IfSome (run_handles f blocks p).filter (IsStoredFilter both (run_text f blocks p) (joined blocks))
  filter_is_stored blocks p fits text = elim (cases_eq f.config.bits_per_key 0) [
    | inl none ↦ subst (λ (o : Option HandleParts). IfSome o (IsStoredFilter both (run_text f blocks p) (joined blocks))) (sym (no_filter f blocks p none)) tt
    | inr other ↦ (
        let is = text (omega arith) in
        let h : HandleParts = filter_handle f blocks p in
        let part : IsPart (run_text f blocks p) h.offset (frame f.hash128 types.Filter p) = subst (IsPart (run_text f blocks p) h.offset) (filter_framed f p other) (filter_stands f blocks p) in
        subst (λ (o : Option HandleParts). IfSome o (IsStoredFilter both (run_text f blocks p) (joined blocks))) (sym (some_filter f blocks p other)) (record {
          payload = p;
          frame = part_is_framed types.Filter (run_text f blocks p) p h part (ap length (filter_framed f p other));
          framed = filter_small f blocks (omega arith) fits.bits p is;
          filter = is.filter;
          reads = filter_reads f blocks p is fits.bits;
          contains = each_key f.hash64 (MayContain is.filter) (joined blocks) (λ n c. inserted_may_be_contained (key_hashes f.hash64 (joined blocks)) is.filter n is.inserted c);
        }))
  ]

  written_is_sound : (blocks : List (List Entry)) (p : List ℕ) → IsRun f blocks → RunFits f blocks → (1 ≤ f.config.bits_per_key → IsFilterText (key_hashes f.hash64 (joined blocks)) f.config.bits_per_key p)
      → IsSound both blocks (run_text f blocks p) (run_handles f blocks p)
  unfolding run_handles
  written_is_sound blocks p run fits text = record {
    handles = handles_from f 0 blocks;
    index = record {
      payload = index_text f blocks;
      frame = part_is_framed types.Index (run_text f blocks p) (index_text f blocks) (run_handles f blocks p).index (index_stands f blocks p) refl;
      framed = fits.index_frame_fits;
      interval = f.config.index_interval;
      is_block = index_is_index f blocks run fits;
    };
    stored = blocks_are_stored (run_text f blocks p) 0 blocks (run_frames f blocks p) (blocks_are_blocks f blocks run.all_some run.valid run.ordered run.interval) (handles_end f blocks 0 run.all_some);
    contiguous = contiguous 0 blocks;
    ordered = run.ordered;
    filter = filter_is_stored blocks p fits text;
  }

  pub layout_is_sound : (blocks : List (List Entry)) (bytes : List ℕ) (h : RunHandles) → IsLayout f blocks bytes h → IsSound both blocks bytes h
  layout_is_sound blocks bytes h l =
      subst (λ xs. IsSound both blocks xs h) (sym l.text) (subst (λ k. IsSound both blocks (run_text f blocks l.filter) k) (sym l.handles) (written_is_sound blocks l.filter l.run l.fits l.filter_is))

  -- what is appended as a layout is appended as a sound run
  pub sound_appended : (blocks : List (List Entry)) (old new : Option (List ℕ)) (r : Result RunHandles Error) → IfOk r (AppendsLayout f blocks old new) → IfOk r (AppendsSound both blocks old new)
  sound_appended blocks old new (Ok h) a = (a.0, layout_is_sound blocks a.0 h a.1, a.2)
  sound_appended blocks old new (Err e) a = tt
