-- Reads of one key in a run of any bytes.
use Rattle.std.specs.Prelude.{◌≡◌, ◌⊎◌, ℕ, List, Some, None, Ok, Err}
use Rattle.sstable_blocks.specs.Prelude.{Entry, value_type_byte}
use Rattle.sstable_blocks.specs.Results.{Error, Memory}
use Rattle.sstable_blocks.specs.RunReading.{Hashes, read_checked}
use Rattle.sstable_blocks.specs.declared.run.RunHandles.{RunHandles}
use Rattle.sst_calls.specs.Given.{IsWrittenOut}
use Rattle.sst_calls.specs.Hashing.{IsHashed, hash_given, hashes_of}
use Rattle.sst_calls.specs.Runs.{handles_given}
use Rattle.sst_calls.specs.declared.codes.Status.{Status}
use Rattle.sst_calls.specs.declared.codes.Status.TheVariants.{Done, Failed, NotFound, BadArgument, NoRoom}
use Rattle.sst_calls.specs.declared.run.SstRunHandles.{SstRunHandles}
use Rattle.sst_calls.specs.declared.run_fetch.SstFound.{SstFound}

-- an entry is told, and its value is written at the front of a buffer, or has no room there
pub record IsTold (e : Entry) (f : SstFound) (old new : List ℕ) (s : Status) : Type 0 where
  pub seqno : f.seqno ≡ e.key.seqno
  pub value_type : f.value_type ≡ value_type_byte e.key.value_type
  pub value : IsWrittenOut e.value old new f.value_len s

-- what is told of an entry, and a buffer, are left as they were
abbrev pub IsLeft : SstFound → SstFound → List ℕ → List ℕ → Type 0
IsLeft f_old f_new old new = (f_new ≡ f_old) × (new ≡ old)

-- What a read of any bytes says: the entry that the stages of the reading find, that they find none, or the error that ends
-- them, unless an allocation failed.
abbrev pub IsFetch : Hashes → List ℕ → RunHandles → List ℕ → ℕ → SstFound → SstFound → List ℕ → List ℕ → Status → Type 0
IsFetch c bytes h key below f_old f_new old new BadArgument = ⊥
IsFetch c bytes h key below f_old f_new old new NotFound = (read_checked c bytes h key below ≡ Ok None) × IsLeft f_old f_new old new
IsFetch c bytes h key below f_old f_new old new (Failed e) = ((e ≡ Memory) ⊎ (read_checked c bytes h key below ≡ Err e)) × IsLeft f_old f_new old new
IsFetch c bytes h key below f_old f_new old new s = (e : Entry) × (read_checked c bytes h key below ≡ Ok (Some e)) × IsTold e f_new old new s

-- what a read of any bytes by the hash function of a number says
abbrev pub IsFetchBy : ℕ → List ℕ → SstRunHandles → List ℕ → ℕ → SstFound → SstFound → List ℕ → List ℕ → Status → Type 0
IsFetchBy number bytes h key below f_old f_new old new s =
    IsHashed (hash_given number) s (IsLeft f_old f_new old new) (λ k. IsFetch (hashes_of k) bytes (handles_given h) key below f_old f_new old new s)
