-- Ranges of keys as C gives them, and the windows of a run that they leave.
use Rattle.std.specs.Prelude.{◌≡◌, ℕ, ◌==◌, if◌then◌else◌, List, [], ◌∷◌, map, Option, None, Some}
use Rattle.std.specs.declared.ops.Bound.{Bound}
use Rattle.std.specs.declared.ops.Bound.TheVariants.{Included, Excluded, Unbounded}
use Rattle.sstable_blocks.specs.Prelude.{Entry, KeyRange, entries, items_in, plain, within}
use Rattle.sstable_blocks.specs.Blocks.{joined}
use Rattle.sst_calls.specs.Windows.{IsWindow, left_in, stored}
use Rattle.sst_calls.specs.declared.window.SstWindow.{SstWindow}
use Rattle.sst_calls.specs.Runs.{ForSomeRun, handles_given}
use Rattle.sst_calls.specs.declared.run.SstRunHandles.{SstRunHandles}

-- a key that is given, if a flag says so
abbrev pub key_given : ℕ → List ℕ → Option (List ℕ)
key_given has key = if has == 0 then None else Some key

-- from a key on, if there is one, and up to before another
abbrev pub from_key : Option (List ℕ) → Bound (List ℕ)
from_key None = Unbounded
from_key (Some key) = Included key

abbrev pub before_key : Option (List ℕ) → Bound (List ℕ)
before_key None = Unbounded
before_key (Some key) = Excluded key

abbrev pub keys_between : Option (List ℕ) → Option (List ℕ) → KeyRange
keys_between from to = record { from = from_key from; to = before_key to }

-- a window of a run has its entries with keys in a range left
pub record IsWindowOf (blocks : List (List Entry)) (range : KeyRange) (w : SstWindow) : Type 0 where
  pub window : IsWindow (stored blocks) w
  pub left : left_in (stored blocks) w ≡ within range (map plain (joined blocks))

-- a window is that of the entries with keys in a range of a run that is given, whatever its hashes
abbrev pub IsRangeOf : List ℕ → SstRunHandles → KeyRange → SstWindow → Type 0
IsRangeOf bytes h range w = ForSomeRun bytes (handles_given h) (λ blocks. IsWindowOf blocks range w)

-- a window of a data block, as of a run that has this one block, has its entries with keys in a range left
pub record IsBlockRange (p : List ℕ) (range : KeyRange) (w : SstWindow) : Type 0 where
  pub window : IsWindow (items_in entries p ∷ []) w
  pub left : left_in (items_in entries p ∷ []) w ≡ within range (items_in entries p)
