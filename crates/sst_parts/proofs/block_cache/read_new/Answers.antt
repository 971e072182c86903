use Rattle.std.proofs.lemmas.Result.{err_from_is_err_and}
use Rattle.sst_parts.proofs.Cached.CachedReads.{block_read, refused_read}
use Rattle.sstable_blocks.specs.RunReading.{hashes}
use Rattle.sst_parts.proofs.block_cache.read_new.Goals as goal

pub returns-in_err-block-clause-read : goal.returns-in_err-block-clause-read
returns-in_err-block-clause-read g c =
    let r = err_from_is_err_and c.from_residual.result c.from_residual.ensures.1 in
    rw (r.1, r.2) (refused_read (hashes g.H.BlockHash.hash64 g.H.BlockHash.hash128) c.args.needle.now c.args.seqno _ c.args.range.now _ _ _ _ c.in_err-block.ensures.exact)

pub returns-clause-read : goal.returns-clause-read
returns-clause-read g c =
    let b = c.in_ok-block.ensures in
    let e = c.point_read-found.ensures in
    block_read (hashes g.H.BlockHash.hash64 g.H.BlockHash.hash128) c.args.needle.now c.args.seqno _ c.args.range.now _ _ c.in_ok-block.block _ c.point_read-found.result _ _ (record { read = b.exact; place = b.place }) e.found e.memory e.counts
