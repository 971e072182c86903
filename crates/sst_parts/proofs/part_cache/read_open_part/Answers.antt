use Rattle.sst_parts.proofs.Cached.PartsKept.{looks_grow, part_counts}
use Rattle.sst_parts.proofs.Reading.OpenParts.{open_read}
use Rattle.sstable_blocks.specs.RunReading.{hashes}
use Rattle.sst_parts.proofs.part_cache.read_open_part.Goals as goal

pub returns-clause-exact : goal.returns-clause-exact
returns-clause-exact g c =
    open_read (hashes g.H.BlockHash.hash64 g.H.BlockHash.hash128) c.args.range.now _ c.args.run.now c.args.needle.now c.args.seqno _ _ _ c.requires.opened.places c.requires.opened.opened c.get_through.ensures.exact

pub returns-clause-counts : goal.returns-clause-counts
returns-clause-counts g c = part_counts (hashes g.H.BlockHash.hash64 g.H.BlockHash.hash128) c.args.range.now c.args.needle.now c.args.seqno _ c.args.run.now.handles _ _ c.requires.opened.places c.get_through.ensures.counts

pub returns-clause-looked : goal.returns-clause-looked
returns-clause-looked g c = looks_grow _ _ _ c.get_through.ensures.looked
