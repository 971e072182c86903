use Rattle.sst_parts.proofs.Scanning.RefSteps.{last_left}
use Rattle.sstable_blocks.specs.RunReading.{hashes}
use Rattle.sst_parts.proofs.ref_scan.step_back.Goals as goal

pub returns-clause-last : goal.returns-clause-last
returns-clause-last g c =
    let n = c.step.new in
    last_left (hashes g.H.BlockHash.hash64 g.H.BlockHash.hash128) c.args.front.now n.far c.args.back.now n.near c.args.unreached.now n.unreached c.step.result c.step.ensures.first
