-- Batches of a scan: the places of the next entries of a window, from either end.
use Rattle.std.specs.Prelude.{◌≡◌, ◌⊎◌, ℕ, ◌+◌, ◌≤◌, ◌==◌, if◌then◌else◌, Bool, true, false, nat_lt, Option, None, Some, List, [], ◌∷◌, ◌++◌, length, filter, reverse}
use Rattle.sstable_blocks.specs.Prelude.{Entry, entries, items_in}
use Rattle.sst_calls.specs.Listing.{AreListed}
use Rattle.sst_calls.specs.Windows.{IsWindow, left_in, stored}
use Rattle.sst_calls.specs.declared.codes.Status.{Status}
use Rattle.sst_calls.specs.declared.codes.Status.TheVariants.{Done, BadArgument}
use Rattle.sst_calls.specs.declared.data_block.SstPlace.{SstPlace}
use Rattle.sst_calls.specs.declared.window.SstWindow.{SstWindow}
use Rattle.sst_calls.specs.Runs.{ForSomeRun, handles_given}
use Rattle.sst_calls.specs.declared.run.SstRunHandles.{SstRunHandles}

-- a number that is given, if a flag says so
abbrev pub number_given : ℕ → ℕ → Option ℕ
number_given has number = if has == 0 then None else Some number

-- is a sequence number strictly below one, if there is one?
abbrev pub is_under : Option ℕ → ℕ → Bool
is_under None seqno = true
is_under (Some below) seqno = nat_lt seqno below

-- the entries with a sequence number strictly below one, if there is one
abbrev pub visible : Option ℕ → List Entry → List Entry
visible below items = filter (λ e. is_under below e.key.seqno) items

-- what was left is what was passed from an end, in the order in which it was passed, and what is left now
abbrev pub IsCut : Bool → List Entry → List Entry → List Entry → Type 0
IsCut false old passed new = old ≡ passed ++ new
IsCut true old passed new = old ≡ new ++ reverse passed

-- the end of a window that a scan does not go from stays
abbrev pub IsOtherEndKept : Bool → SstWindow → SstWindow → Type 0
IsOtherEndKept false old new = (new.end_block ≡ old.end_block) × (new.end_index ≡ old.end_index)
IsOtherEndKept true old new = (new.first_block ≡ old.first_block) × (new.first_index ≡ old.first_index)

-- Of the entries that were passed, those below a number were listed after those that the first places of an array list: where
-- they are in bytes.
pub record Lists (bytes : List ℕ) (below : Option ℕ) (passed : List Entry) (old new : List SstPlace) (count_old count_new : ℕ) : Type 0 where
  pub more : (start : List SstPlace) (before : List Entry) → length before ≡ count_old → AreListed bytes before start old → AreListed bytes (before ++ visible below passed) start new
  pub count : count_new ≡ count_old + length (visible below passed)
  pub room : count_new ≤ length old
  pub kept : length new ≡ length old

-- A scan from an end of a window passed entries, and listed those below a number.
pub record Passes (bytes : List ℕ) (blocks : List (List Entry)) (below : Option ℕ) (back : Bool) (w_old w_new : SstWindow) (old new : List SstPlace) (count_old count_new : ℕ) : Type 0 where
  pub window : IsWindow blocks w_new
  pub other : IsOtherEndKept back w_old w_new
  pub passed : List Entry
  pub cut : IsCut back (left_in blocks w_old) passed (left_in blocks w_new)
  pub lists : Lists bytes below passed old new count_old count_new

-- A batch from an end of a window: the places of the first entries left that are below a number, as many as there is room
-- for, and all of them where there is more room.
pub record IsBatch (bytes : List ℕ) (blocks : List (List Entry)) (below : Option ℕ) (back : Bool) (w_old w_new : SstWindow) (old new : List SstPlace) (count : ℕ) : Type 0 where
  pub window : IsWindow blocks w_new
  pub other : IsOtherEndKept back w_old w_new
  pub passed : List Entry
  pub cut : IsCut back (left_in blocks w_old) passed (left_in blocks w_new)
  pub listed : AreListed bytes (visible below passed) old new
  pub count_is : count ≡ length (visible below passed)
  pub room : count ≤ length old
  pub all : (count ≡ length old) ⊎ (left_in blocks w_new ≡ [])

-- what a scan of a window says: a batch of its entries, or that it is none of the run's, and all is left
abbrev pub IsScan : List ℕ → List (List Entry) → Option ℕ → Bool → SstWindow → SstWindow → List SstPlace → List SstPlace → ℕ → ℕ → Status → Type 0
IsScan bytes blocks below back w_old w_new old new count_old count_new Done = IsWindow blocks w_old × IsBatch bytes blocks below back w_old w_new old new count_new
IsScan bytes blocks below back w_old w_new old new count_old count_new BadArgument =
    (IsWindow blocks w_old → ⊥) × (w_new ≡ w_old) × (new ≡ old) × (count_new ≡ count_old)
IsScan bytes blocks below back w_old w_new old new count_old count_new _ = ⊥

-- what a scan of a window of a run that is given says, whatever its hashes
abbrev pub IsRunScan : List ℕ → SstRunHandles → Option ℕ → Bool → SstWindow → SstWindow → List SstPlace → List SstPlace → ℕ → ℕ → Status → Type 0
IsRunScan bytes h below back w_old w_new old new count_old count_new s =
    ForSomeRun bytes (handles_given h) (λ blocks. IsScan bytes (stored blocks) below back w_old w_new old new count_old count_new s)

-- what a scan of a window of a data block says, as of a run that has this one block
abbrev pub IsBlockScan : List ℕ → Option ℕ → Bool → SstWindow → SstWindow → List SstPlace → List SstPlace → ℕ → ℕ → Status → Type 0
IsBlockScan p below back w_old w_new old new count_old count_new s = IsScan p (items_in entries p ∷ []) below back w_old w_new old new count_old count_new s
