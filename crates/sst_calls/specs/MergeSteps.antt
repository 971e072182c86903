-- Steps of a merge of runs whose entries a compaction hides: what is hidden, by the last entry that some snapshot sees and
-- that is not hidden.
use Rattle.std.specs.Prelude.{◌≡◌, ℕ, ◌&&◌, not, Bool, true, false, if◌then◌else◌, List, [], ◌∷◌, ◌++◌, map, Option, None, Some, IfSome}
use Rattle.std.specs.List.{AllZip}
use Rattle.sstable_blocks.specs.Prelude.{Entry, IsInOrder}
use Rattle.sst_merge.specs.Compact.{compact_from, is_hidden, is_seen}
use Rattle.sst_sources.specs.Merge.{entry_cmp, merged}
use Rattle.sst_sources.specs.Picks.{list_at}
use Rattle.sst_sources.specs.Sources.{before}
use Rattle.sst_calls.specs.Batches.{IsOtherEndKept, is_under}
use Rattle.sst_calls.specs.Blocks.{IsPlaceOf}
use Rattle.sst_calls.specs.MergeBatches.{AreWindows, IsMergedPlace, Passed, lists_in, of_run, shown_of, visible_of}
use Rattle.sst_calls.specs.Placed.{PlacedEntry}
use Rattle.sst_calls.specs.declared.merge_scan.SstMerged.{SstMerged}
use Rattle.sst_calls.specs.declared.run.SstRun.{SstRun}
use Rattle.sst_calls.specs.declared.window.SstWindow.{SstWindow}

-- the user key and the number of the last entry, if there is one
abbrev pub noted : Option Entry → Option (List ℕ × ℕ)
noted None = None
noted (Some l) = Some (l.key.user_key, l.key.seqno)

-- does some snapshot see an entry, and each that does the last entry too, which has its key?
abbrev pub hides : List ℕ → Option Entry → Entry → Bool
hides snapshots None e = false
hides snapshots (Some l) e = is_seen snapshots e.key.seqno && is_hidden (λ d. d) snapshots (Some (l.key.user_key, l.key.seqno)) e

-- the last entry after one more
abbrev pub next_last : List ℕ → Option Entry → Entry → Option Entry
next_last snapshots last e = if hides snapshots last e then last else (if is_seen snapshots e.key.seqno then Some e else last)

-- the entries that are not hidden, after a last one
abbrev pub shown_after : {X : Type 0} → (X → Entry) → List ℕ → Option Entry → List X → List X
shown_after entry snapshots last items = compact_from entry snapshots (λ _. false) (noted last) items

-- an entry of a merge was listed after others, if a test holds
pub record ListsIf (test : Bool) (x : PlacedEntry) (old new : List SstMerged) : Type 0 where
  pub more : List SstMerged
  pub is : new ≡ old ++ more
  pub listed : AllZip (λ (f : SstMerged) (y : PlacedEntry). (f.run ≡ y.run) × IsPlaceOf y.bytes f.place y.entry) more (if test then x ∷ [] else [])

-- is an entry listed: not hidden, and below a number?
abbrev pub is_listed : List ℕ → Option ℕ → Option Entry → Entry → Bool
is_listed snapshots below last e = not (hides snapshots last e) && is_under below e.key.seqno

-- A merge of runs passed entries, and listed those that are not hidden and below a number. The last one that some snapshot
-- sees is known, and what is left is in order behind it.
pub record MergesTo (runs : List SstRun) (blocks : List (List (List Entry))) (snapshots : List ℕ) (below : Option ℕ) (w_old w_new : List SstWindow) (last : Option Entry) (listed : List SstMerged) : Type 0 where
  pub windows : AreWindows blocks w_new
  pub ends : AllZip (IsOtherEndKept false) w_old w_new
  pub passed : List Passed
  pub cut : (run : ℕ) → list_at (lists_in blocks w_old) run ≡ of_run run passed ++ list_at (lists_in blocks w_new) run
  pub merge : merged entry_cmp (lists_in blocks w_old) ≡ map (λ p. p.entry) passed ++ merged entry_cmp (lists_in blocks w_new)
  pub are_listed : AllZip (IsMergedPlace runs) listed (visible_of below (shown_of (λ p. p.entry) snapshots passed))
  pub shown : shown_of (λ e. e) snapshots (merged entry_cmp (lists_in blocks w_old))
      ≡ map (λ p. p.entry) (shown_of (λ p. p.entry) snapshots passed) ++ shown_after (λ e. e) snapshots last (merged entry_cmp (lists_in blocks w_new))
  pub more : (ps : List Passed) → shown_of (λ p. p.entry) snapshots (passed ++ ps) ≡ shown_of (λ p. p.entry) snapshots passed ++ shown_after (λ p. p.entry) snapshots last ps
  pub ordered : IsInOrder entry_cmp (before last (merged entry_cmp (lists_in blocks w_new)))
  pub seen : IfSome last (λ l. is_seen snapshots l.key.seqno ≡ true)
