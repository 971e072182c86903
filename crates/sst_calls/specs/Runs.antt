-- Runs in a caller's buffers.
use Rattle.std.specs.Prelude.{◌≡◌, ◌⊎◌, ℕ, ◌==◌, ◌≤◌, if◌then◌else◌, List, length, Some, None, Err, IfSome}
use Rattle.std.specs.List.{AllByRecursion, AllZip}
use Rattle.sstable_blocks.specs.Prelude.{Entry, entries, IsOrdered, first_match}
use Rattle.sstable_blocks.specs.Results.{Error, TooLong, Memory}
use Rattle.sstable_blocks.specs.Blocks.{CutsFit, blocks_of, joined}
use Rattle.sstable_blocks.specs.Run.{Form, form, IsLayout, IsWritable, RunFits}
use Rattle.sstable_blocks.specs.RunChecks.{check_run, summary_of}
use Rattle.sstable_blocks.specs.RunReading.{Hashes}
use Rattle.sstable_blocks.specs.Sound.{ForSound, IsSound, IsSoundRun}
use Rattle.sstable_blocks.specs.declared.run.RunConfig.{RunConfig}
use Rattle.sstable_blocks.specs.declared.run.RunHandles.{RunHandles}
use Rattle.sst_calls.specs.Given.{AreGiven, AreKept, IsWrittenOut}
use Rattle.sst_calls.specs.declared.codes.Status.{Status}
use Rattle.sst_calls.specs.declared.codes.Status.TheVariants.{Done, Failed, BadArgument}
use Rattle.sst_calls.specs.declared.entries.SstEntry.{SstEntry}
use Rattle.sst_calls.specs.declared.run.SstRun.{SstRun}
use Rattle.sst_calls.specs.declared.run.SstRunConfig.{SstRunConfig}
use Rattle.sst_calls.specs.declared.run.SstRunHandles.{SstRunHandles}
use Rattle.sst_calls.specs.declared.run.SstSummary.{SstSummary}
use Rattle.sst_calls.specs.Blocks.{IsFind}
use Rattle.sst_calls.specs.Hashing.{IsHashed, hash_given, hashes_of}
use Rattle.sst_calls.specs.declared.data_block.SstPlace.{SstPlace}

-- bytes with these handles are a sound run by some hashes
abbrev pub IsSomeRun : List ℕ → RunHandles → Type 0
IsSomeRun bytes h = (c : Hashes) × IsSoundRun c bytes h

-- what holds of the blocks, if bytes with these handles are a sound run, whatever its hashes
abbrev pub ForSomeRun : List ℕ → RunHandles → (List (List Entry) → Type 0) → Type 0
ForSomeRun bytes h holds = (c : Hashes) → ForSound c bytes h holds

-- the handles that are given: there is no filter where its size is 0
abbrev pub handles_given : SstRunHandles → RunHandles
handles_given h = record {
  index = record { offset = h.index_offset; size = h.index_size };
  filter = if h.filter_size == 0 then None else Some (record { offset = h.filter_offset; size = h.filter_size });
}

-- each is a sound run by some hashes
abbrev pub AreSomeRuns : List SstRun → Type 0
AreSomeRuns runs = AllByRecursion (λ (run : SstRun). IsSomeRun run.bytes.now (handles_given run.handles)) runs

-- a run that is given is a sound run of these blocks, by some hashes
abbrev pub IsGivenRun : SstRun → List (List Entry) → Type 0
IsGivenRun run blocks = (c : Hashes) × IsSound c blocks run.bytes.now (handles_given run.handles)

-- what holds of the blocks of runs, whatever hashes they are by
abbrev pub ForRuns : List SstRun → (List (List (List Entry)) → Type 0) → Type 0
ForRuns runs holds = (all : List (List (List Entry))) → AllZip IsGivenRun runs all → holds all

-- the numbers of a summary of blocks
pub record IsSummaryOf (blocks : List (List Entry)) (s : SstSummary) : Type 0 where
  pub blocks_are : s.blocks ≡ (summary_of blocks).blocks
  pub entries_are : s.entries ≡ (summary_of blocks).entries
  pub least_is : s.least_seqno ≡ (summary_of blocks).least_seqno
  pub greatest_is : s.greatest_seqno ≡ (summary_of blocks).greatest_seqno

-- bytes and handles are no sound run, by the first error of the check, or an allocation failed; the summary is left
pub record IsNoRun (c : Hashes) (bytes : List ℕ) (h : RunHandles) (old new : SstSummary) (e : Error) : Type 0 where
  pub cause : (e ≡ Memory) ⊎ (check_run c bytes h ≡ Err e)
  pub kept : new ≡ old

-- what a check of a run says
abbrev pub IsRunCheck : Hashes → List ℕ → RunHandles → SstSummary → SstSummary → Status → Type 0
IsRunCheck c bytes h old new Done = (blocks : List (List Entry)) × IsSound c blocks bytes h × IsSummaryOf blocks new
IsRunCheck c bytes h old new (Failed e) = IsNoRun c bytes h old new e
IsRunCheck c bytes h old new _ = ⊥

-- the configuration that is given
abbrev pub config_given : SstRunConfig → RunConfig
config_given c = record {
  restart_interval = c.restart_interval;
  ratio = record { num = c.num; den = c.den };
  bits_per_key = c.bits_per_key;
  index_interval = c.index_interval;
}

-- these entries are the ones given, and can be written as a run that is cut so
pub record CanWrite (given : List SstEntry) (cuts : List ℕ) (config : RunConfig) (items : List Entry) : Type 0 where
  pub are : AreGiven given items
  pub some : 1 ≤ length items
  pub ordered : IsOrdered entries items
  pub cut : CutsFit 0 (length items) cuts
  pub writable : IsWritable config

-- how a run is written by these hashes
abbrev pub run_form : Hashes → RunConfig → Form
run_form c config = form c.hash64 c.hash128 config

-- a write failed: something is too long, or an allocation failed; all is left as it was
pub record IsRunFailure (c : Hashes) (given : List SstEntry) (cuts : List ℕ) (config : RunConfig) (old new : List ℕ) (len_old len_new : ℕ) (handles_old handles_new : SstRunHandles) (e : Error) : Type 0 where
  pub cause : (e ≡ Memory) ⊎ ((e ≡ TooLong) × ((items : List Entry) × CanWrite given cuts config items × (RunFits (run_form c config) (blocks_of cuts items) → ⊥)))
  pub kept : AreKept old new len_old len_new
  pub kept_handles : handles_new ≡ handles_old

-- the handles of a run are told where it was written, and else left
abbrev pub AreTold : RunHandles → SstRunHandles → SstRunHandles → Status → Type 0
AreTold h old new Done = handles_given new ≡ h
AreTold h old new _ = new ≡ old

-- what becomes of a run that is written: an argument is refused exactly if the entries can't be written so
abbrev pub IsRunWrite : Hashes → List SstEntry → List ℕ → RunConfig → List ℕ → List ℕ → ℕ → ℕ → SstRunHandles → SstRunHandles → Status → Type 0
IsRunWrite c given cuts config old new len_old len_new h_old h_new BadArgument =
    ((items : List Entry) → CanWrite given cuts config items → ⊥) × AreKept old new len_old len_new × (h_new ≡ h_old)
IsRunWrite c given cuts config old new len_old len_new h_old h_new (Failed e) = IsRunFailure c given cuts config old new len_old len_new h_old h_new e
IsRunWrite c given cuts config old new len_old len_new h_old h_new s =
    (items : List Entry) × CanWrite given cuts config items
    × ((bytes : List ℕ) × (h : RunHandles) × IsLayout (run_form c config) (blocks_of cuts items) bytes h × IsWrittenOut bytes old new len_new s × AreTold h h_old h_new s)

-- bytes with these handles are a sound run by the hash function of a number, if it is one's
abbrev pub IsRunBy : ℕ → List ℕ → SstRunHandles → Type 0
IsRunBy number bytes h = IfSome (hash_given number) (λ k. IsSoundRun (hashes_of k) bytes (handles_given h))

-- what a check of a run by the hash function of a number says
abbrev pub IsRunCheckBy : ℕ → List ℕ → SstRunHandles → SstSummary → SstSummary → Status → Type 0
IsRunCheckBy number bytes h old new s = IsHashed (hash_given number) s (new ≡ old) (λ k. IsRunCheck (hashes_of k) bytes (handles_given h) old new s)

-- what a find in a run by the hash function of a number says
abbrev pub IsRunFindBy : ℕ → List ℕ → SstRunHandles → List ℕ → ℕ → SstPlace → SstPlace → Status → Type 0
IsRunFindBy number bytes h key below old new s =
    IsHashed (hash_given number) s (new ≡ old) (λ k. ForSound (hashes_of k) bytes (handles_given h) (λ blocks. IsFind bytes (first_match entries key below (joined blocks)) old new s))

-- what becomes of a run that is written by a configuration that is given
abbrev pub IsRunWriteBy : List SstEntry → List ℕ → SstRunConfig → List ℕ → List ℕ → ℕ → ℕ → SstRunHandles → SstRunHandles → Status → Type 0
IsRunWriteBy given cuts config old new len_old len_new h_old h_new s =
    IsHashed (hash_given config.hash) s (AreKept old new len_old len_new × (h_new ≡ h_old)) (λ k. IsRunWrite (hashes_of k) given cuts (config_given config) old new len_old len_new h_old h_new s)
