-- Filters in a caller's buffers.
use Rattle.std.specs.Borrow.{Bor}
use Rattle.std.specs.Prelude.{◌≡◌, ℕ, ◌*◌, ◌≤◌, List, length, Result, Ok, Err, map}
use Rattle.sstable_blocks.specs.Results.{Error, Memory}
use Rattle.sstable_blocks.specs.Filter.{Filter, MayContain, filter_at}
use Rattle.sstable_blocks.specs.Run.{IsFilterText}
use Rattle.sst_calls.specs.Given.{AreKept, IsWrittenOut}
use Rattle.sst_calls.specs.declared.codes.Status.{Status}
use Rattle.sst_calls.specs.declared.codes.Status.TheVariants.{Done, Failed, NotFound, BadArgument}
use Rattle.sst_calls.specs.Hashing.{IsHashed, hash64_of, hash_given}

-- what a filter that is read from bytes says of a hash, or the error that refuses the bytes
abbrev pub IsFilterAnswer : Result Filter Error → ℕ → Status → Type 0
IsFilterAnswer (Ok f) hash Done = MayContain f hash
IsFilterAnswer (Ok f) hash NotFound = MayContain f hash → ⊥
IsFilterAnswer (Err e) hash (Failed x) = x ≡ e
IsFilterAnswer read hash _ = ⊥

-- what the filter in any bytes says of a hash
abbrev pub IsHashAnswer : List ℕ → ℕ → Status → Type 0
IsHashAnswer p hash s = IsFilterAnswer (filter_at p) hash s

-- a filter for so many keys at so many bits each can be made: at least one of both, and at most 34359737920 bits
pub record CanBuild (count bits : ℕ) : Type 0 where
  pub some : 1 ≤ count
  pub active : 1 ≤ bits
  pub fits : count * bits ≤ 34359737920

-- what becomes of a filter of these hashes at so many bits each: an argument is refused exactly if there is none
abbrev pub IsFilterBuild : ℕ → List ℕ → List ℕ → List ℕ → ℕ → ℕ → Status → Type 0
IsFilterBuild bits hashes old new len_old len_new BadArgument = (CanBuild (length hashes) bits → ⊥) × AreKept old new len_old len_new
IsFilterBuild bits hashes old new len_old len_new (Failed e) = (e ≡ Memory) × AreKept old new len_old len_new
IsFilterBuild bits hashes old new len_old len_new s = CanBuild (length hashes) bits × ((bytes : List ℕ) × IsFilterText hashes bits bytes × IsWrittenOut bytes old new len_new s)

-- what a filter says of a key by the hash function of a number
abbrev pub IsFilterAnswerBy : ℕ → List ℕ → List ℕ → Status → Type 0
IsFilterAnswerBy number p key s = IsHashed (hash_given number) s (Unit {0}) (λ h. IsHashAnswer p (hash64_of h key) s)

-- what becomes of a filter of keys by the hash function of a number
abbrev pub IsFilterBuildBy : ℕ → List (Bor (List ℕ)) → ℕ → List ℕ → List ℕ → ℕ → ℕ → Status → Type 0
IsFilterBuildBy number keys bits old new len_old len_new s =
    IsHashed (hash_given number) s (AreKept old new len_old len_new) (λ h. IsFilterBuild bits (map (λ k. hash64_of h k.now) keys) old new len_old len_new s)
