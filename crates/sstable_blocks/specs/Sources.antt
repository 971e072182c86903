-- How a clause says that a call over a source of frames returns exactly this, where an allocation or the source may
-- fail.
use Rattle.std.specs.Prelude.{◌≡◌, ◌≢◌, ◌⊎◌, ◌≤◌, ◌<◌, ℕ, Option, None, Some, IfSome, Result, Ok, Err, IfOk, IfErr, List, ◌+◌}
use Rattle.sst_base.specs.BlockHandle.{HandleParts}
use Rattle.sst_base.specs.declared.error.Error.{Error}
use Rattle.sst_base.specs.declared.error.Error.TheVariants.{Memory, Io, Truncated, BadHandle}

-- what is read, how often that failed, and how many frames were requested
pub record SourceParts (F : Type 0) : Type 0 where
  pub inner : F
  pub failures : ℕ
  pub reads : ℕ

-- the bytes of a source stay the same, its failures are only added to, and a reliable one stays reliable
pub record KeepsSource {S : Type 0} (bytes : S → Option (List ℕ)) (failures : S → ℕ) (is_reliable : S → Type 0) (old new : S) : Type 0 where
  pub same : bytes new ≡ bytes old
  pub failures_grow : failures old ≤ failures new
  pub kept : is_reliable old → is_reliable new

-- An error is a failure of the source: `Io`, which a reliable one, as one over memory, reports only of a range that isn't
-- inside, or `Truncated`, which any reports only of such a range.
abbrev pub IsSourceFailure : Type 0 → Type 0 → Type 0 → Error → Type 0
IsSourceFailure failed reliable outside e = failed × (((e ≡ Io) × (reliable → outside)) ⊎ ((e ≡ Truncated) × outside))

-- an error is a failed allocation, or a failure of the source, or that of the reading
abbrev pub FailsAs : {Y : Type 0} → Type 0 → Type 0 → Result Y Error → Error → Type 0
FailsAs failed reliable read e = e ≢ Memory → IsSourceFailure failed reliable (read ≡ Err BadHandle) e ⊎ (read ≡ Err e)

-- a result, seen by `view`, is exactly that of the reading, unless an allocation or the source failed
abbrev pub GivesOr : {X Y : Type 0} → Type 0 → Type 0 → (X → Y) → Result X Error → Result Y Error → Type 0
GivesOr failed reliable view (Ok x) read = read ≡ Ok (view x)
GivesOr failed reliable view (Err e) read = FailsAs failed reliable read e

-- A range of this size isn't inside, or an allocation failed, or a file that isn't over memory. Where it isn't inside and
-- has no bytes, a file over memory reports `Truncated`, and never `Io`.
abbrev pub IsRangeRefused : {Y : Type 0} → Type 0 → ℕ → Error → Result Y Error → Type 0
IsRangeRefused over_memory size Io range = over_memory → (range ≡ Err BadHandle) × (0 < size)
IsRangeRefused over_memory size Truncated range = (range ≡ Err BadHandle) × (size ≡ 0)
IsRangeRefused over_memory size Memory range = Unit {0}
IsRangeRefused over_memory size e range = range ≡ Err e

-- or its bytes were read
abbrev pub IsRangeRead : {Y : Type 0} → Type 0 → ℕ → Result Y Error → Result Y Error → Type 0
IsRangeRead over_memory size (Ok y) range = range ≡ Ok y
IsRangeRead over_memory size (Err e) range = IsRangeRefused over_memory size e range

-- how many frames are requested for a filter, if there is one
abbrev pub filter_frames : Option HandleParts → ℕ
filter_frames None = 0
filter_frames (Some h) = 1

-- an error of a call is `Io` only where the source failed in that call
abbrev pub IsIoCounted : {S Y : Type 0} → (S → ℕ) → S → S → Result Y Error → Type 0
IsIoCounted failures old new result = IfErr result (λ e. e ≡ Io → failures old < failures new)

-- where the bytes of a source are known, a result, seen by `view`, is exactly what is read of them, unless an allocation
-- or the source failed
abbrev pub ReadsAs : {S X Y : Type 0} → (S → Option (List ℕ)) → (S → ℕ) → (S → Type 0) → S → S → (X → Y) → Result X Error → (List ℕ → Result Y Error) → Type 0
ReadsAs bytes failures is_reliable old new view result read = IfSome (bytes old) (λ all. GivesOr (failures old < failures new) (is_reliable old) view result (read all))

-- how many frames a call asks for, by its result, and how often frames were asked for before and after it: any number;
-- exactly so many; at most so many; or exactly so many where it succeeds, by what it returns
abbrev pub AsksAny : {Y : Type 0} → Result Y Error → ℕ → ℕ → Type 0
AsksAny result before after = before ≤ after

abbrev pub AsksExactly : {Y : Type 0} → ℕ → Result Y Error → ℕ → ℕ → Type 0
AsksExactly n result before after = after ≡ before + n

abbrev pub AsksUpTo : {Y : Type 0} → ℕ → Result Y Error → ℕ → ℕ → Type 0
AsksUpTo n result before after = (before ≤ after) × (after ≤ before + n)

abbrev pub AsksIfOk : {Y : Type 0} → (Y → ℕ) → Result Y Error → ℕ → ℕ → Type 0
AsksIfOk n result before after = (before ≤ after) × IfOk result (λ y. after ≡ before + n y)

-- What a call does to a source: its bytes stay the same, its failures are only added to, a reliable one stays reliable, an
-- error is `Io` only where it failed in that call, and so many frames are asked for.
pub record UsesSource {S Y : Type 0} (bytes : S → Option (List ℕ)) (failures reads : S → ℕ) (is_reliable : S → Type 0) (Asks : Result Y Error → ℕ → ℕ → Type 0) (old new : S) (result : Result Y Error) : Type 0 where
  pub same : bytes new ≡ bytes old
  pub failures_grow : failures old ≤ failures new
  pub kept : is_reliable old → is_reliable new
  pub io : IsIoCounted failures old new result
  pub asks : Asks result (reads old) (reads new)

-- So many frames are asked for, also where a call fails; fewer only where the source fails, or where this does not hold.
-- Failures and frames are those before and after.
abbrev pub AsksFor : ℕ → ℕ → ℕ → ℕ → Type 0 → ℕ → Type 0
AsksFor failed failed' asked asked' Whole n = (asked' ≤ asked + n) × (failed' ≡ failed → Whole → asked' ≡ asked + n)

-- the same of a call over a source whose bytes are known, by these, where no allocation fails
abbrev pub AsksAs : {S Y : Type 0} → (S → Option (List ℕ)) → (S → ℕ) → (S → ℕ) → S → S → Result Y Error → (List ℕ → ℕ) → Type 0
AsksAs bytes failures reads old new result frames = IfSome (bytes old) (λ all. AsksFor (failures old) (failures new) (reads old) (reads new) (IfErr result (λ e. e ≢ Memory)) (frames all))
