use Rattle.std.proofs.Common.{refl}
use Rattle.sst_parts.proofs.Reading.OpenParts.{open_top_read}
use Rattle.sst_parts.proofs.Scanning.PartSteps.{top_counted, top_uncounted}
use Rattle.sstable_blocks.specs.RunReading.{hashes}
use Rattle.sst_parts.proofs.part_cache.get_by_tops.Goals as goal

pub returns-in_default-clause-counts : goal.returns-in_default-clause-counts
returns-in_default-clause-counts g c = top_uncounted c.args.needle.now c.args.seqno _ _ _ _ _ c.find_part.ensures.counts

pub returns-clause-exact : goal.returns-clause-exact
returns-clause-exact g c = open_top_read (hashes g.H.BlockHash.hash64 g.H.BlockHash.hash128) c.args.needle.now c.args.seqno _ _ _ _ _ _ _ _ _ _ c.find_part.ensures.found c.in-Some.is refl (λ less. less) (λ t. t) c.read_part_through.ensures.exact

pub returns-clause-counts : goal.returns-clause-counts
returns-clause-counts g c = top_counted c.args.needle.now c.args.seqno _ _ _ _ _ _ _ _ c.find_part.ensures.found c.in-Some.is c.find_part.ensures.counts c.read_part_through.ensures.counts
