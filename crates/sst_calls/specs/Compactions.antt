-- Compactions of runs in a caller's buffers into one run.
use Rattle.std.specs.Prelude.{◌≡◌, ◌⊎◌, ℕ, ◌-◌, ◌^◌, ◌≤◌, ◌<◌, Bool, List, [], ◌++◌, length, map, take, Some, nat_lt}
use Rattle.std.specs.List.{AllByRecursion}
use Rattle.sstable_blocks.specs.Prelude.{Entry, KeyRange, plain, within}
use Rattle.sstable_blocks.specs.Results.{Error, TooLong, Memory}
use Rattle.sstable_blocks.specs.Blocks.{joined}
use Rattle.sstable_blocks.specs.Run.{Form, IsLayout, IsWritable}
use Rattle.sstable_blocks.specs.RunReading.{Hashes}
use Rattle.sstable_blocks.specs.TableKinds.{run_kind}
use Rattle.sstable_blocks.specs.declared.run.RunConfig.{RunConfig}
use Rattle.sstable_blocks.specs.declared.run.RunHandles.{RunHandles}
use Rattle.sst_merge.specs.Compact.{compacted}
use Rattle.sst_sources.specs.Merge.{entry_cmp, merged}
use Rattle.sst_merge.specs.Tables.{IsTooLong, block_len, blocks_len}
use Rattle.sst_calls.specs.Given.{AreKept, IsWrittenOut}
use Rattle.sst_calls.specs.Runs.{AreTold, handles_given, run_form, ForRuns, config_given}
use Rattle.sst_calls.specs.Windows.{blocks_in}
use Rattle.sst_calls.specs.declared.codes.Status.{Status}
use Rattle.sst_calls.specs.declared.codes.Status.TheVariants.{Failed, NotFound, BadArgument}
use Rattle.sst_calls.specs.declared.run.SstRun.{SstRun}
use Rattle.sst_calls.specs.declared.run.SstRunHandles.{SstRunHandles}
use Rattle.sst_calls.specs.Hashing.{IsHashed, hash_given, hashes_of}
use Rattle.sst_calls.specs.declared.run.SstRunConfig.{SstRunConfig}

-- the entries of a run of these blocks with keys in a range, tombstones without values
abbrev pub entries_within : KeyRange → List (List Entry) → List Entry
entries_within range blocks = within range (map plain (joined blocks))

-- the versions in any of some lists that a compaction for these snapshots leaves; of keys at the bottom, all or none, no
-- older versions are elsewhere
abbrev pub left_of : List ℕ → Bool → List (List Entry) → List Entry
left_of snapshots bottom lists = compacted (λ e. e) snapshots (λ _. bottom) (merged entry_cmp lists)

-- fewer entries of a block, but for none, do not have so many bytes as they are encoded at a restart interval
abbrev pub IsCutBy : ℕ → ℕ → List Entry → Type 0
IsCutBy interval size block = (n : ℕ) → 1 ≤ n → n < length block → block_len interval (take n block) < size

-- bytes and handles are a run of these entries, each block of which ends at the latest with the entry with which it reaches
-- a size
pub record IsCutRun (f : Form) (size : ℕ) (items : List Entry) (bytes : List ℕ) (h : RunHandles) : Type 0 where
  pub blocks : List (List Entry)
  pub entries_are : joined blocks ≡ items
  pub layout : IsLayout f blocks bytes h
  pub cut : AllByRecursion (IsCutBy f.config.restart_interval size) blocks

-- the first of these entries, in blocks that end with the entry with which they reach a size, do not fit a run; or some of
-- them, in blocks, have 2^64 - 1 bytes or more
abbrev pub IsTooMuch : Form → ℕ → List Entry → Type 0
IsTooMuch f size items =
    IsTooLong (run_kind f) size (Some items)
    ⊎ ((blocks : List (List Entry)) × (rest : List Entry) × (items ≡ joined blocks ++ rest) × (2 ^ 64 - 1 ≤ blocks_len f.config.restart_interval blocks))

-- a compaction failed: what it leaves is too long, or an allocation failed; all is left as it was
pub record IsCompactFailure (f : Form) (size : ℕ) (items : List Entry) (old new : List ℕ) (len_old len_new : ℕ) (handles_old handles_new : SstRunHandles) (e : Error) : Type 0 where
  pub cause : (e ≡ Memory) ⊎ ((e ≡ TooLong) × IsTooMuch f size items)
  pub kept : AreKept old new len_old len_new
  pub kept_handles : handles_new ≡ handles_old

-- What becomes of a compaction that leaves these entries: an argument is refused exactly if no run can be written so, no
-- entry is found exactly if none is left, and else they are written as a run.
abbrev pub IsCompact : Hashes → RunConfig → ℕ → List Entry → List ℕ → List ℕ → ℕ → ℕ → SstRunHandles → SstRunHandles → Status → Type 0
IsCompact c config size items old new len_old len_new h_old h_new BadArgument = (IsWritable config → ⊥) × AreKept old new len_old len_new × (h_new ≡ h_old)
IsCompact c config size items old new len_old len_new h_old h_new NotFound = IsWritable config × (items ≡ []) × AreKept old new len_old len_new × (h_new ≡ h_old)
IsCompact c config size items old new len_old len_new h_old h_new (Failed e) =
    IsWritable config × IsCompactFailure (run_form c config) size items old new len_old len_new h_old h_new e
IsCompact c config size items old new len_old len_new h_old h_new s =
    IsWritable config
    × ((bytes : List ℕ) × (h : RunHandles) × IsCutRun (run_form c config) size items bytes h × IsWrittenOut bytes old new len_new s × AreTold h h_old h_new s)

-- the entries of a run with keys in a range, as they are in its bytes
abbrev pub run_entries : KeyRange → SstRun → List Entry
run_entries range run = within range (joined (blocks_in run.bytes.now (handles_given run.handles)))

-- what a compaction of runs leaves, as their bytes have it
abbrev pub runs_left : KeyRange → List ℕ → Bool → List SstRun → List Entry
runs_left range snapshots bottom runs = left_of snapshots bottom (map (run_entries range) runs)

-- what becomes of a compaction of runs, whatever their hashes, by a configuration that is given
abbrev pub IsCompactBy : List SstRun → KeyRange → List ℕ → ℕ → ℕ → SstRunConfig → List ℕ → List ℕ → ℕ → ℕ → SstRunHandles → SstRunHandles → Status → Type 0
IsCompactBy runs range snapshots bottom size config old new len_old len_new h_old h_new s =
    IsHashed (hash_given config.hash) s (AreKept old new len_old len_new × (h_new ≡ h_old))
    (λ k. ForRuns runs (λ all. IsCompact (hashes_of k) (config_given config) size (left_of snapshots (nat_lt 0 bottom) (map (entries_within range) all)) old new len_old len_new h_old h_new s))
