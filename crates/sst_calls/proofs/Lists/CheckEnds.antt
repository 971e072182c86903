-- How many frames a check of a run reads, and the handles of those of its blocks.
use Rattle.std.proofs.Common.{◌≡◌, ℕ, ◌+◌, ◌-◌, ◌≤◌, ◌<◌, ◌^◌, min, List, [], ◌∷◌, length, refl, sym, ◌∙◌, ap, subst, arith, Bool, true, false, eqb, if◌then◌else◌, Option, Some, Result, Ok, Err}
use Rattle.std.specs.Option.{option_map}
use Rattle.std.specs.Prelude.{◌↔◌, slice_get}
use Rattle.sstable_blocks.specs.BlockLaws.{bind_ok, handle_range}
use Rattle.sstable_blocks.specs.BlockTypes.{Index}
use Rattle.sstable_blocks.specs.Filter.{Filter}
use Rattle.sstable_blocks.specs.FrameCounts.{blocks_frames, check_frames, frames_by_index}
use Rattle.sstable_blocks.specs.MeaningLaws.{framed_bytes, payload_at_takes}
use Rattle.sstable_blocks.specs.Opened.{IsFrameRange, payload_in, range_of}
use Rattle.sstable_blocks.specs.OpeningLaws.{frame_range}
use Rattle.sstable_blocks.specs.Prelude.{Handle, HandleParts, IsBytes, IsIndexBlock, index_check}
use Rattle.sstable_blocks.specs.Results.{Error}
use Rattle.sstable_blocks.specs.RunChecks.{check_block, filter_in_run, none_passed}
use Rattle.sstable_blocks.specs.RunLaws.{payload_fits}
use Rattle.sstable_blocks.specs.RunReading.{Hashes, handles_at, payload_at}
use Rattle.sstable_blocks.specs.Sources.{filter_frames}
use Rattle.sstable_blocks.specs.Walks.{frames_after, walk_frames}
use Rattle.sstable_blocks.specs.declared.run.RunHandles.{RunHandles}
use Rattle.sst_calls.specs.CheckEnds.{IsFrameOf, IsLastFrame}
use Rattle.sst_calls.specs.declared.run_check.SstCheckEnd.{SstCheckEnd}
use Rattle.sst_calls.proofs.Lists.BlockLists.{some_range}

-- handles that are read are those of the index in the range of a handle
pub index_read : (c : Hashes) (bytes : List ℕ) (h : HandleParts) (hs : List Handle) → IsBytes bytes → handles_at c bytes h ≡ Ok hs → IsFrameRange bytes h × (index_check (payload_in bytes h) ≡ Ok hs) × IsBytes (payload_in bytes h)
index_read c bytes h hs small e =
    let found = bind_ok (payload_at c Index bytes h) index_check hs e in
    let framed = payload_at_takes c Index bytes h found.0 small found.1 in
    let at = frame_range c Index bytes found.0 h framed in
    (at.0, ap index_check at.1 ∙ found.2, subst IsBytes (sym at.1) (framed_bytes c Index bytes found.0 h small framed))

-- a block over that payload has these handles
pub items_same : ((p : List ℕ) (items : List Handle) → IsBytes p → length p < 2 ^ 32 → (index_check p ≡ Ok items) ↔ ((r : ℕ) × IsIndexBlock p items r))
    → (c : Hashes) (bytes : List ℕ) (h : HandleParts) (hs : List Handle) (p : List ℕ) (items : List Handle) → IsBytes bytes → h.size < 2 ^ 32 → handles_at c bytes h ≡ Ok hs → p ≡ payload_in bytes h
    → ((r : ℕ) → IsIndexBlock p hs r → items ≡ hs) → items ≡ hs
items_same accepts c bytes h hs p items small size e is read =
    let at = index_read c bytes h hs small e in
    let fits : length (payload_in bytes h) < 2 ^ 32 = omega (arith, size, payload_fits bytes h) in
    let block = (accepts (payload_in bytes h) hs at.2 fits).0 at.1 in
    read block.0 (subst (λ q. IsIndexBlock q hs block.0) (sym is) block.1)

-- a walk asks for at most one frame for each handle
after_most : {P : Type 0} (r : Result P Error) (go : P → ℕ) (n : ℕ) → ((t : P) → go t ≤ n) → frames_after r go ≤ n
after_most (Ok t) go n most = most t
after_most (Err e) go n most = omega arith

walk_most : {P : Type 0} (step : P → Handle → Result P Error) (frames : P → Handle → ℕ) → ((s : P) (h : Handle) → frames s h ≤ 1) → (s : P) (hs : List Handle) → walk_frames step frames s hs ≤ length hs
walk_most step frames most s [] = omega arith
walk_most step frames most s (h ∷ hs) =
    let more = after_most (step s h) (λ t. walk_frames step frames t hs) (length hs) (λ t. walk_most step frames most t hs) in
    omega (arith, most s h, more)

one_most : (b : Bool) → (if b then 1 else 0) ≤ 1
one_most true = omega arith
one_most false = omega arith

blocks_most : (c : Hashes) (bytes : List ℕ) (f : Option Filter) (hs : List Handle) → blocks_frames c bytes f none_passed hs ≤ length hs
blocks_most c bytes f hs = walk_most (check_block c bytes f) _ (λ t h. one_most (eqb h.offset t.offset)) none_passed hs

-- a stage after which frames are asked for has succeeded
went_on : {X : Type 0} (r : Result X Error) (go : X → ℕ) → 1 ≤ frames_after r go → (x : X) × (r ≡ Ok x) × (frames_after r go ≡ go x)
went_on (Ok x) go some = (x, refl, refl)
went_on (Err e) go some = absurd (omega (arith, some))

-- where a check reads frames of blocks, it has read the index, which has a handle for each
pub blocks_read : (c : Hashes) (bytes : List ℕ) (h : RunHandles) → filter_frames h.filter + 2 ≤ check_frames c bytes h
    → (hs : List Handle) × (handles_at c bytes h.index ≡ Ok hs) × (check_frames c bytes h ≤ filter_frames h.filter + (1 + length hs))
unfolding check_frames
blocks_read c bytes h some =
    let f = went_on (filter_in_run c bytes h.filter) (λ f. frames_by_index c bytes f h.index) (omega (arith, some)) in
    let hs = went_on (handles_at c bytes h.index) (λ hs. blocks_frames c bytes f.0 none_passed hs) (omega (arith, some, f.2)) in
    (hs.0, hs.1, omega (arith, f.2, hs.2, blocks_most c bytes f.0 hs.0))

-- so the handle of the last block is there
pub last_read : (c : Hashes) (bytes : List ℕ) (h : RunHandles) (n before : ℕ) → before ≡ filter_frames h.filter → n ≡ min (check_frames c bytes h) (2 ^ 64 - 1) → before + 1 < n
    → (hs : List Handle) × (handles_at c bytes h.index ≡ Ok hs) × (n - before - 2 < length hs)
last_read c bytes h n before b e more =
    let found = blocks_read c bytes h (omega (arith, b, e, more)) in
    (found.0, found.1, omega (arith, found.2, b, e, more))

-- which is where the check ended
pub block_is_last : (c : Hashes) (bytes : List ℕ) (h : RunHandles) (n before : ℕ) (hs : List Handle) (k : HandleParts) (end : SstCheckEnd) → before ≡ filter_frames h.filter → before + 1 < n → handles_at c bytes h.index ≡ Ok hs
    → Some k ≡ option_map handle_range (slice_get hs (n - before - 2)) → IsFrameOf 0 (n - before - 2) k end → IsLastFrame c bytes h n end
block_is_last c bytes h n before hs k end b more read at is =
    let found = some_range (slice_get hs (n - before - 2)) k (sym at) in
    record {
      filter = λ few. absurd (omega (arith, few, b, more));
      index = λ few. absurd (omega (arith, few, b, more));
      block = λ _. (
        hs,
        found.0,
        read,
        subst (λ m. slice_get hs (n - m - 2) ≡ Some found.0) b found.1,
        subst (λ m. IsFrameOf 0 (n - m - 2) (range_of found.0) end) b (subst (λ r. IsFrameOf 0 (n - before - 2) r end) (sym found.2) is),
      );
    }
