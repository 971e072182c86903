use Rattle.std.proofs.Common.{◌<◌}
use Rattle.sstable_blocks.specs.RunReading.{hashes}
use Rattle.sst_parts.proofs.Merged.Faults.{memory_fails}
use Rattle.sst_parts.proofs.merging.merge_parts.Goals as goal

pub returns-in-Err-clause-cause : goal.returns-in-Err-clause-cause
returns-in-Err-clause-cause g c =
    let h = hashes g.H.BlockHash.hash64 g.H.BlockHash.hash128 in
    let base = c.args.base.now in
    let failures = g.S.FrameSource.failures in
    memory_fails g.W.Output.never_fails g.I.Source.may_fail h c.args.copier c.in-Err.error c.args.newer.now (failures base.source < failures base.source) (g.S.FrameSource.is_reliable base.source) (g.S.FrameSource.bytes base.source) base.top c.in-Err.ensures.memory
