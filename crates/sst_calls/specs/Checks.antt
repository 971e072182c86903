-- What a check of any bytes says.
use Rattle.std.specs.Prelude.{◌≡◌, ◌≢◌, ◌↔◌, ℕ, ◌≤◌, ◌^◌, List, length, Result, Err, ◌<◌}
use Rattle.sstable_blocks.specs.Results.{Error, TooLong, Memory}
use Rattle.sst_calls.specs.declared.codes.Status.{Status}
use Rattle.sst_calls.specs.declared.codes.Status.TheVariants.{Done, Failed}
use Rattle.sstable_blocks.specs.Prelude.{data_check, entries, handles, index_check, items_in, trailer_in}
use Rattle.sst_calls.specs.Blocks.{IsDataBlock}
use Rattle.sst_calls.specs.Hashing.{IsHashed, hash64_of, hash_given}
use Rattle.sst_calls.specs.Index.{IsIndexPayload}

-- bytes are refused by a check that takes no memory: they are too long, or the stages of the check, which have this verdict,
-- name the error; the count is left as it was
pub record IsCheckRefused {X : Type 0} (p : List ℕ) (verdict : Result X Error) (old new : ℕ) (e : Error) : Type 0 where
  pub too_long : (e ≡ TooLong) ↔ (2 ^ 32 ≤ length p)
  pub staged : e ≢ TooLong → verdict ≡ Err e
  pub kept : new ≡ old

-- the same of a check that takes memory where these bytes ask for some: or an allocation failed
pub record IsRefusedOrLacks {X : Type 0} (asks : Type 0) (p : List ℕ) (verdict : Result X Error) (old new : ℕ) (e : Error) : Type 0 where
  pub too_long : (e ≡ TooLong) ↔ (2 ^ 32 ≤ length p)
  pub memory : e ≡ Memory → asks
  pub staged : e ≢ Memory → e ≢ TooLong → verdict ≡ Err e
  pub kept : new ≡ old

-- bytes are accepted, and counted, or refused
abbrev pub IsCheck : Type 0 → (Error → Type 0) → ℕ → ℕ → Status → Type 0
IsCheck accepted refused count new Done = accepted × (new ≡ count)
IsCheck accepted refused count new (Failed e) = refused e
IsCheck accepted refused count new _ = ⊥

-- what a check of any bytes as a data block by the hash function of a number says
abbrev pub IsDataCheckBy : ℕ → List ℕ → ℕ → ℕ → Status → Type 0
IsDataCheckBy number p old new s =
    IsHashed (hash_given number) s (new ≡ old) (λ h. IsCheck (IsDataBlock (hash64_of h) p) (IsRefusedOrLacks (0 < (trailer_in p).hash_len) p (data_check (hash64_of h) p) old new) (length (items_in entries p)) new s)

-- what a check of any bytes as an index block says
abbrev pub IsIndexCheck : List ℕ → ℕ → ℕ → Status → Type 0
IsIndexCheck p old new s = IsCheck (IsIndexPayload p) (IsCheckRefused p (index_check p) old new) (length (items_in handles p)) new s
