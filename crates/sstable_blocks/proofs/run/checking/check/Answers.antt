use Rattle.sstable_blocks.specs.RunReading.{hashes}
use Rattle.sstable_blocks.proofs.Checks.RunCheckSteps.{sound_on_check}
use Rattle.sstable_blocks.proofs.run.checking.check.Goals as goal

pub returns-clause-accepts : goal.returns-clause-accepts
returns-clause-accepts g c =
    sound_on_check (hashes g.H.BlockHash.hash64 g.H.BlockHash.hash128) _ c.args.handles.now _ _ _
    (λ all blocks sound. c.sound_run_is_accepted.ensures (hashes g.H.BlockHash.hash64 g.H.BlockHash.hash128) blocks all c.args.handles.now g.met.H.BlockHash.hash128_fits sound)
    c.check_in_stages.ensures.exact
