use Rattle.std.proofs.Common.{◌∙◌, ap}
use Rattle.std.specs.List.{slice_get}
use Rattle.sst_parts.proofs.Cached.CachedReads.{kept_read}
use Rattle.sst_parts.proofs.Cached.Caching.{looked_up_tables}
use Rattle.sst_parts.specs.CachedBlocks.{Blocks}
use Rattle.sst_parts.specs.Caches.{place_at}
use Rattle.sstable_blocks.specs.RunReading.{hashes}
use Rattle.sst_parts.proofs.block_cache.read_range.Goals as goal

pub returns-in-Some-clause-read : goal.returns-in-Some-clause-read
returns-in-Some-clause-read g c =
    let e = c.point_read.ensures in
    kept_read (hashes g.H.BlockHash.hash64 g.H.BlockHash.hash128) c.args.needle.now c.args.seqno (slice_get c.look_up.new.self.tables c.args.number) _ c.args.range.now _ _ c.in-Some.block.now _ c.point_read.result _ _
    (ap (λ (k : Blocks). slice_get k.tables c.args.number) c.look_up.ensures.new ∙ ap (λ ts. slice_get ts c.args.number) (looked_up_tables c.args.cache.now (place_at c.args.number c.args.range.now) _) ∙ c.requires) (c.in-Some.ensures.kept (place_at c.args.number c.args.range.now) (c.look_up.ensures.latest (search))) e.found e.memory e.counts
