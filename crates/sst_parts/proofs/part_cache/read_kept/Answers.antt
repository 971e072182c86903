use Rattle.sst_parts.proofs.Cached.PartsKept.{kept_open}
use Rattle.sst_parts.specs.Caches.{place_at}
use Rattle.sstable_blocks.specs.RunReading.{hashes}
use Rattle.sst_parts.proofs.part_cache.read_kept.Goals as goal

pub read_open_part-requires-clause-opened : goal.read_open_part-requires-clause-opened
read_open_part-requires-clause-opened g c = kept_open (hashes g.H.BlockHash.hash64 g.H.BlockHash.hash128) c.args.parts.now.tables c.args.numbers.now.of_parts _ c.args.range.now _ c.requires.added.0 (c.in-Some.ensures.kept (place_at c.args.numbers.now.of_parts c.args.range.now) c.requires.latest)
