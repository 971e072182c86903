use Rattle.std.proofs.Common.{ℕ}
use Rattle.sst_parts.proofs.Scanning.PartSteps.{top_counted, top_none, top_read, top_uncounted}
use Rattle.sstable_blocks.specs.RunReading.{hashes}
use Rattle.sst_parts.proofs.table.read_by_tops.Goals as goal

pub returns-in-None-clause-exact : goal.returns-in-None-clause-exact
returns-in-None-clause-exact g c = top_none (hashes g.H.BlockHash.hash64 g.H.BlockHash.hash128) c.args.needle.now c.args.seqno _ _ _ ℕ ℕ c.find_part.ensures.found c.in-None.is

pub returns-in-None-clause-counts : goal.returns-in-None-clause-counts
returns-in-None-clause-counts g c = top_uncounted c.args.needle.now c.args.seqno _ _ _ _ _ c.find_part.ensures.counts

pub returns-in-Some-clause-exact : goal.returns-in-Some-clause-exact
returns-in-Some-clause-exact g c = top_read (hashes g.H.BlockHash.hash64 g.H.BlockHash.hash128) c.args.needle.now c.args.seqno _ _ _ _ _ _ _ c.find_part.ensures.found c.in-Some.is c.read_in_part.ensures.exact

pub returns-in-Some-clause-counts : goal.returns-in-Some-clause-counts
returns-in-Some-clause-counts g c = top_counted c.args.needle.now c.args.seqno _ _ _ _ _ _ _ _ c.find_part.ensures.found c.in-Some.is c.find_part.ensures.counts c.read_in_part.ensures.counts
