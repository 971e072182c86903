use Rattle.std.proofs.Common.{ℕ, List, Option, map, subst}
use Rattle.sstable_blocks.specs.Prelude.{Entry}
use Rattle.sst_calls.specs.Batches.{number_given}
use Rattle.sst_calls.specs.MergeBatches.{IsMergeScan}
use Rattle.sst_calls.specs.Placed.{run_blocks}
use Rattle.sst_calls.proofs.Lists.MergeHeads.{runs_stored}
use Rattle.sst_calls.proofs.merge_scan.merge_runs.Goals as goal

pub returns : goal.returns
returns c =
    let runs = c.args.runs.now in
    let says : List (List (List Entry)) → Option ℕ → Type 0 = λ blocks below. IsMergeScan runs blocks c.args.snapshots.now below c.args.windows.now c.scan.new.windows c.args.places.now c.scan.new.places c.args.count.now c.scan.new.count c.scan.result in
    let given = subst (says (map run_blocks runs)) c.number_of.ensures c.scan.ensures in
    λ each are. subst (λ b. says b (number_given c.args.has_below c.args.below_seqno)) (runs_stored c.sound_opens.ensures runs each are) given
