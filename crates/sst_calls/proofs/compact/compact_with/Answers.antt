use Rattle.std.proofs.Common.{arith, subst}
use Rattle.std.specs.Option.{IfSome}
use Rattle.sstable_blocks.specs.RunReading.{Hashes, hashes}
use Rattle.sst_calls.specs.Compactions.{IsCutRun, runs_left}
use Rattle.sst_calls.specs.Given.{IsWrittenOut}
use Rattle.sst_calls.specs.Ranges.{key_given, keys_between}
use Rattle.sst_calls.specs.Runs.{run_form}
use Rattle.sst_calls.proofs.Lists.Compacting.{compact_told}
use Rattle.sst_calls.proofs.compact.compact_with.Goals as goal

pub returns : goal.returns
returns g c =
    let by : Hashes = hashes g.H.BlockHash.hash64 g.H.BlockHash.hash128 in
    let config = c.args.config in
    let given = c.args.given.now in
    let range = keys_between (key_given given.keys.has_from given.keys.from.now) (key_given given.keys.has_to given.keys.to.now) in
    let items = runs_left range given.snapshots.now given.is_bottom given.runs.now in
    let run : IsCutRun (run_form by config) given.block_size items c.in-Some.bytes.items c.in-Some.found =
    subst (λ o. IfSome o (λ r. IsCutRun (run_form by config) given.block_size items r.0.items r.1)) c.in-Some.is (c.in-Ok-run_of.ensures.run items c.in-Ok.ensures.list) in
    let written = subst (λ bytes. IsWrittenOut bytes c.args.out.now c.tell.new.out c.tell.new.out_len c.tell.result) c.as_slice.ensures.value c.tell.ensures.written in
    compact_told by config given.block_size items c.in-Some.bytes.items c.in-Some.found c.args.out.now c.tell.new.out c.args.out_len.now c.tell.new.out_len c.args.handles.now c.tell.new.handles c.tell.result
    (omega arith, omega arith, omega arith) run written c.tell.ensures.told
