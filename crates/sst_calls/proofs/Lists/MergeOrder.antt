-- What windows of sound runs have left is in order, and so is the merge of it.
use Rattle.std.proofs.Common.{ℕ, ◌-◌, List, [], ◌∷◌, take, drop, map, sym, subst}
use Rattle.std.specs.List.{All, AllByRecursion}
use Rattle.std.proofs.lemmas.List.{take-append-drop}
use Rattle.std.proofs.lemmas.List.Elements.{All-head, All-tail}
use Rattle.sstable_blocks.specs.Prelude.{Entry, IsInOrder, IsOrdered, entries}
use Rattle.sstable_blocks.specs.Blocks.{joined}
use Rattle.sstable_blocks.specs.BlockLaws.{versions_cmp_total}
use Rattle.sstable_blocks.specs.BoundLaws.{joined_plain, plain_ordered}
use Rattle.sstable_blocks.specs.EndLaws.{back_in_order, front_in_order}
use Rattle.sstable_blocks.specs.Opened.{Opened}
use Rattle.sstable_blocks.specs.RunReading.{Hashes}
use Rattle.sstable_blocks.specs.Sound.{IsSound}
use Rattle.sstable_blocks.specs.declared.run.RunHandles.{RunHandles}
use Rattle.sst_sources.specs.Merge.{entry_cmp, merged}
use Rattle.sst_merge.specs.Reversals.{merged_ordered}
use Rattle.sst_calls.specs.MergeBatches.{lists_in}
use Rattle.sst_calls.specs.Placed.{run_blocks}
use Rattle.sst_calls.specs.Runs.{IsSomeRun, handles_given}
use Rattle.sst_calls.specs.Windows.{count_before}
use Rattle.sst_calls.specs.declared.run.SstRun.{SstRun}
use Rattle.sst_calls.specs.declared.window.SstWindow.{SstWindow}
use Rattle.sst_calls.proofs.Lists.RunBlockLists.{blocks_stored}

-- a part of a list in order is in order
part_in_order : (xs : List Entry) (lo n : ℕ) → IsInOrder entry_cmp xs → IsInOrder entry_cmp (take n (drop lo xs))
part_in_order xs lo n order =
    let back = back_in_order entry_cmp (take lo xs) (drop lo xs) (subst (IsInOrder entry_cmp) (sym (take-append-drop lo xs)) order) in
    front_in_order entry_cmp (take n (drop lo xs)) (drop n (drop lo xs)) (subst (IsInOrder entry_cmp) (sym (take-append-drop n (drop lo xs))) back)

module _ (opens : (k : Hashes) (blocks : List (List Entry)) (bytes : List ℕ) (h : RunHandles) → IsSound k blocks bytes h → Opened k.hash64 blocks bytes h) where
  run_in_order : (r : SstRun) → IsSomeRun r.bytes.now (handles_given r.handles) → IsInOrder entry_cmp (joined (run_blocks r))
  run_in_order r sound =
      let h = handles_given r.handles in
      let blocks = sound.1.0 in
      let same = blocks_stored sound.0.hash64 blocks r.bytes.now h (opens sound.0 blocks r.bytes.now h sound.1.1) in
      let order : IsOrdered entries (map _ (joined blocks)) = plain_ordered (joined blocks) sound.1.1.ordered in
      subst (λ (v : List (List Entry)). IsInOrder entry_cmp (joined v)) (sym same) (subst (IsOrdered entries) (sym (joined_plain blocks)) order)

  lists_ordered : (runs : List SstRun) (ws : List SstWindow) → All (λ (r : SstRun). IsSomeRun r.bytes.now (handles_given r.handles)) runs → AllByRecursion (IsInOrder entry_cmp) (lists_in (map run_blocks runs) ws)
  lists_ordered [] ws sound = tt
  lists_ordered (r ∷ runs) [] sound = tt
  lists_ordered (r ∷ runs) (w ∷ ws) sound =
      let blocks = run_blocks r in
      let lo = count_before blocks w.first_block w.first_index in
      let hi = count_before blocks w.end_block w.end_index in (
        part_in_order (joined blocks) lo (hi - lo) (run_in_order r (All-head (λ (q : SstRun). IsSomeRun q.bytes.now (handles_given q.handles)) r runs sound)),
        lists_ordered runs ws (All-tail (λ (q : SstRun). IsSomeRun q.bytes.now (handles_given q.handles)) r runs sound),
      )

  pub left_ordered : (runs : List SstRun) (ws : List SstWindow) → All (λ (r : SstRun). IsSomeRun r.bytes.now (handles_given r.handles)) runs → IsInOrder entry_cmp (merged entry_cmp (lists_in (map run_blocks runs) ws))
  left_ordered runs ws sound = merged_ordered entry_cmp (versions_cmp_total entries.key entries.seqno) (lists_in (map run_blocks runs) ws) (lists_ordered runs ws sound)
