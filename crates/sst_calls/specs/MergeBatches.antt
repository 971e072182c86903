-- Batches of a merge of runs: the places of the next entries of all windows together, in order.
use Rattle.std.specs.Prelude.{◌≡◌, ◌⊎◌, ℕ, ◌==◌, ◌≤◌, List, [], ◌∷◌, ◌++◌, length, drop, map, filter, slice_get, Option, Some, false}
use Rattle.std.specs.List.{AllZip}
use Rattle.sstable_blocks.specs.Prelude.{Entry}
use Rattle.sstable_blocks.specs.Results.{Memory}
use Rattle.sst_merge.specs.Compact.{compacted}
use Rattle.sst_sources.specs.Merge.{entry_cmp, merged}
use Rattle.sst_sources.specs.Picks.{list_at}
use Rattle.sst_calls.specs.Batches.{IsOtherEndKept, is_under}
use Rattle.sst_calls.specs.Blocks.{IsPlaceOf}
use Rattle.sst_calls.specs.Runs.{ForRuns}
use Rattle.sst_calls.specs.Windows.{IsWindow, left_in, stored}
use Rattle.sst_calls.specs.declared.codes.Status.{Status}
use Rattle.sst_calls.specs.declared.codes.Status.TheVariants.{Done, Failed, BadArgument}
use Rattle.sst_calls.specs.declared.merge_scan.SstMerged.{SstMerged}
use Rattle.sst_calls.specs.declared.run.SstRun.{SstRun}
use Rattle.sst_calls.specs.declared.window.SstWindow.{SstWindow}

-- what holds of the blocks of runs, as they are stored, whatever the hashes of each are
abbrev pub ForSomeRuns : List SstRun → (List (List (List Entry)) → Type 0) → Type 0
ForSomeRuns runs holds = ForRuns runs (λ each. holds (map stored each))

-- an entry of a merge: the index of its run, and the entry
pub record Passed : Type 0 where
  pub run : ℕ
  pub entry : Entry

-- the entries of a merge that are of one run
abbrev pub of_run : ℕ → List Passed → List Entry
of_run run passed = map (λ p. p.entry) (filter (λ p. p.run == run) passed)

-- those with a sequence number strictly below one, if there is one
abbrev pub visible_of : Option ℕ → List Passed → List Passed
visible_of below passed = filter (λ p. is_under below p.entry.key.seqno) passed

-- numbers are windows of runs, one for each
abbrev pub AreWindows : List (List (List Entry)) → List SstWindow → Type 0
AreWindows blocks windows = AllZip IsWindow blocks windows

-- what windows of runs have left, one list for each run
abbrev pub lists_in : List (List (List Entry)) → List SstWindow → List (List Entry)
lists_in [] windows = []
lists_in (b ∷ blocks) [] = []
lists_in (b ∷ blocks) (w ∷ windows) = left_in b w ∷ lists_in blocks windows

-- what says of an entry of a merge the index of its run, and where it is in that run's bytes
pub record IsMergedPlace (runs : List SstRun) (f : SstMerged) (p : Passed) : Type 0 where
  pub run_is : f.run ≡ p.run
  pub run : SstRun
  pub there : slice_get runs p.run ≡ Some run
  pub place : IsPlaceOf run.bytes.now f.place p.entry

-- Without the entries that no snapshot needs: of those that some snapshot sees only those stay that a snapshot sees which
-- sees no newer one of the key. Without snapshots all stay.
abbrev pub shown_of : {X : Type 0} → (X → Entry) → List ℕ → List X → List X
shown_of entry snapshots items = compacted entry snapshots (λ _. false) items

-- A merge of runs passed entries: of each run the first ones that were left; together they are the first of the merge, in
-- its order. Those that some snapshot needs and that are below a number were listed. What is needed of all is what is needed
-- of those that were passed, and what is needed of what is left now.
pub record PassesMerged (runs : List SstRun) (blocks : List (List (List Entry))) (snapshots : List ℕ) (below : Option ℕ) (w_old w_new : List SstWindow) (listed : List SstMerged) : Type 0 where
  pub windows : AreWindows blocks w_new
  pub ends : AllZip (IsOtherEndKept false) w_old w_new
  pub passed : List Passed
  pub cut : (run : ℕ) → list_at (lists_in blocks w_old) run ≡ of_run run passed ++ list_at (lists_in blocks w_new) run
  pub merge : merged entry_cmp (lists_in blocks w_old) ≡ map (λ p. p.entry) passed ++ merged entry_cmp (lists_in blocks w_new)
  pub are_listed : AllZip (IsMergedPlace runs) listed (visible_of below (shown_of (λ p. p.entry) snapshots passed))
  pub shown : shown_of (λ e. e) snapshots (merged entry_cmp (lists_in blocks w_old))
      ≡ map (λ p. p.entry) (shown_of (λ p. p.entry) snapshots passed) ++ shown_of (λ e. e) snapshots (merged entry_cmp (lists_in blocks w_new))

-- A batch of a merge: the places of the first entries of the merge that some snapshot needs and that are below a number, as
-- many as there is room for, and all of them where there is more room; the places after them are left.
pub record IsMergeBatch (runs : List SstRun) (blocks : List (List (List Entry))) (snapshots : List ℕ) (below : Option ℕ) (w_old w_new : List SstWindow) (old new : List SstMerged) (count : ℕ) : Type 0 where
  pub listed : List SstMerged
  pub passes : PassesMerged runs blocks snapshots below w_old w_new listed
  pub count_is : count ≡ length listed
  pub room : count ≤ length old
  pub written : new ≡ listed ++ drop count old
  pub all : (count ≡ length old) ⊎ (merged entry_cmp (lists_in blocks w_new) ≡ [])

-- windows, places and a count are left as they were
abbrev pub AreLeft : List SstWindow → List SstWindow → List SstMerged → List SstMerged → ℕ → ℕ → Type 0
AreLeft w_old w_new old new count_old count_new = (w_new ≡ w_old) × (new ≡ old) × (count_new ≡ count_old)

-- What a scan of a merge says: a batch; or that numbers are no windows of the runs, one for each, and all is left; or that
-- an allocation failed, and all is left.
abbrev pub IsMergeScan : List SstRun → List (List (List Entry)) → List ℕ → Option ℕ → List SstWindow → List SstWindow → List SstMerged → List SstMerged → ℕ → ℕ → Status → Type 0
IsMergeScan runs blocks snapshots below w_old w_new old new count_old count_new Done = AreWindows blocks w_old × IsMergeBatch runs blocks snapshots below w_old w_new old new count_new
IsMergeScan runs blocks snapshots below w_old w_new old new count_old count_new BadArgument = (AreWindows blocks w_old → ⊥) × AreLeft w_old w_new old new count_old count_new
IsMergeScan runs blocks snapshots below w_old w_new old new count_old count_new (Failed e) = (e ≡ Memory) × AreWindows blocks w_old × AreLeft w_old w_new old new count_old count_new
IsMergeScan runs blocks snapshots below w_old w_new old new count_old count_new _ = ⊥

-- what a scan of a merge of runs that are given says, whatever their hashes
abbrev pub IsMergeOf : List SstRun → List ℕ → Option ℕ → List SstWindow → List SstWindow → List SstMerged → List SstMerged → ℕ → ℕ → Status → Type 0
IsMergeOf runs snapshots below w_old w_new old new count_old count_new s =
    ForSomeRuns runs (λ blocks. IsMergeScan runs blocks snapshots below w_old w_new old new count_old count_new s)
