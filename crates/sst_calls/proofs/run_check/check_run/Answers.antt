use Rattle.std.proofs.Common.{rules}
use Rattle.sstable_blocks.specs.RunReading.{hashes}
use Rattle.sst_calls.proofs.run_check.check_run.Goals as goal

pub last_frame-requires : goal.last_frame-requires
last_frame-requires g c = (hashes g.H.BlockHash.hash64 g.H.BlockHash.hash128, search rules)
