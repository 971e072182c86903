-- Where a check of a run ended: the frame that it read last.
use Rattle.std.specs.Prelude.{◌≡◌, ◌≢◌, ℕ, ◌+◌, ◌-◌, ◌≤◌, ◌^◌, min, List, slice_get, Some, IfSome, Ok}
use Rattle.sstable_blocks.specs.FrameCounts.{check_frames}
use Rattle.sstable_blocks.specs.Opened.{range_of}
use Rattle.sstable_blocks.specs.Prelude.{Handle, HandleParts}
use Rattle.sstable_blocks.specs.Results.{Memory}
use Rattle.sstable_blocks.specs.RunReading.{Hashes, handles_at}
use Rattle.sstable_blocks.specs.Sources.{filter_frames}
use Rattle.sstable_blocks.specs.declared.run.RunHandles.{RunHandles}
use Rattle.sst_calls.specs.declared.codes.Status.{Status}
use Rattle.sst_calls.specs.declared.codes.Status.TheVariants.{Failed}
use Rattle.sst_calls.specs.declared.run_check.SstCheckEnd.{SstCheckEnd}
use Rattle.sst_calls.specs.Hashing.{IsHashed, hash_given, hashes_of}
use Rattle.sst_calls.specs.Runs.{IsRunCheck, handles_given}
use Rattle.sst_calls.specs.declared.run.SstRunHandles.{SstRunHandles}
use Rattle.sst_calls.specs.declared.run.SstSummary.{SstSummary}

-- the number of frames that a check of a run reads, at most 2^64 - 1
abbrev pub frames_read : Hashes → List ℕ → RunHandles → ℕ
frames_read c bytes h = min (check_frames c bytes h) (2 ^ 64 - 1)

-- a place in a run: the byte of a type of block, the index of a data block, and the range of the frame
abbrev pub IsFrameOf : ℕ → ℕ → HandleParts → SstCheckEnd → Type 0
IsFrameOf part block range end = end ≡ record { part = part; block = block; offset = range.offset; size = range.size }

-- the last of so many frames of a run, which are read in this order: that of the filter, if there is one, that of the
-- index, those of the blocks in the order of their handles
pub record IsLastFrame (c : Hashes) (bytes : List ℕ) (h : RunHandles) (n : ℕ) (end : SstCheckEnd) : Type 0 where
  pub filter : n ≤ filter_frames h.filter → IfSome h.filter (λ f. IsFrameOf 2 0 f end)
  pub index : n ≡ filter_frames h.filter + 1 → IsFrameOf 1 0 h.index end
  pub block : filter_frames h.filter + 2 ≤ n → (hs : List Handle) × (g : Handle) × (handles_at c bytes h.index ≡ Ok hs)
      × (slice_get hs (n - filter_frames h.filter - 2) ≡ Some g) × IsFrameOf 0 (n - filter_frames h.filter - 2) (range_of g) end

-- where a check ended is noted if it refused the bytes
abbrev pub IsCheckEnd : Hashes → List ℕ → RunHandles → SstCheckEnd → SstCheckEnd → Status → Type 0
IsCheckEnd c bytes h old new (Failed e) = (e ≡ Memory → new ≡ old) × (e ≢ Memory → IsLastFrame c bytes h (frames_read c bytes h) new)
IsCheckEnd c bytes h old new _ = new ≡ old

-- what a check by the hash function of a number says that tells where it ended
abbrev pub IsRunCheckAtBy : ℕ → List ℕ → SstRunHandles → SstSummary → SstSummary → SstCheckEnd → SstCheckEnd → Status → Type 0
IsRunCheckAtBy number bytes h old new end_old end_new s =
    IsHashed (hash_given number) s ((new ≡ old) × (end_new ≡ end_old)) (λ k. IsRunCheck (hashes_of k) bytes (handles_given h) old new s × IsCheckEnd (hashes_of k) bytes (handles_given h) end_old end_new s)
