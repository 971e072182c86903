use Rattle.std.proofs.Common.{◌≤◌, arith}
use Rattle.sstable_blocks.specs.RunReading.{hashes}
use Rattle.sst_calls.specs.Runs.{run_form}
use Rattle.sst_calls.proofs.Lists.RunEnds.{ends_run, run_is}
use Rattle.sst_calls.proofs.run_write.end_run.Goals as goal

pub returns-clause-ends : goal.returns-clause-ends
returns-clause-ends g c = λ blocks a.
    (let both = hashes g.H.BlockHash.hash64 g.H.BlockHash.hash128 in
    let given = c.args.given.now in
    let key_hashes = c.args.hashes.now in
    let config = c.args.config.now in
    let f = run_form both config in
    let new = c.write_end.new in
    let most : config.restart_interval ≤ 255 = omega arith in
    let index_most : config.index_interval ≤ 255 = omega arith in
    let ready = c.handles_are_ready.ensures f blocks (run_is f blocks _ key_hashes a most index_most) a.framed a.end in
    ends_run both given key_hashes config most index_most blocks a ready c.args.out.now new.out c.args.out_len.now new.out_len c.args.run_handles.now new.run_handles c.write_end.result c.write_end.ensures)
