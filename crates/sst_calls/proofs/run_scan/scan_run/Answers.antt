use Rattle.std.proofs.Common.{List, nat_lt, subst}
use Rattle.sstable_blocks.specs.Prelude.{Entry}
use Rattle.sst_calls.specs.Batches.{IsScan, number_given}
use Rattle.sst_calls.specs.Runs.{handles_given}
use Rattle.sst_calls.specs.Windows.{blocks_in}
use Rattle.sst_calls.proofs.Lists.RunBlockLists.{blocks_stored}
use Rattle.sst_calls.proofs.run_scan.scan_run.Goals as goal

pub returns : goal.returns
returns c =
    let bytes = c.args.bytes.now in
    let h = handles_given c.args.handles.now in
    let says : List (List Entry) → Type 0 = λ blocks. IsScan bytes blocks (number_given c.args.has_below c.args.below_seqno) (nat_lt 0 c.args.reverse) c.args.window.now c.scan.new.window c.args.places.now c.scan.new.places c.args.count.now c.scan.new.count c.scan.result in
    let given = subst (λ b. IsScan bytes (blocks_in bytes c.run_handles.result) b (nat_lt 0 c.args.reverse) c.args.window.now c.scan.new.window c.args.places.now c.scan.new.places c.args.count.now c.scan.new.count c.scan.result) c.number_of.ensures c.scan.ensures in
    let here = subst (λ g. says (blocks_in bytes g)) c.run_handles.ensures given in
    λ k blocks sound. subst says (blocks_stored k.hash64 blocks bytes h (c.sound_opens.ensures k blocks bytes h sound)) here
