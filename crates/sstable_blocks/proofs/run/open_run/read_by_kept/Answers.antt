use Rattle.std.proofs.Common.{ap, arith}
use Rattle.std.specs.Prelude.{not}
use Rattle.sstable_blocks.specs.FoundLaws.{found_counts, found_frames, found_looks, found_read, none_counts, none_found}
use Rattle.sstable_blocks.specs.RunReading.{hashes}
use Rattle.sstable_blocks.proofs.run.open_run.read_by_kept.Goals as goal

pub returns-clause-source : goal.returns-clause-source
returns-clause-source g c =
    let s = c.read_in_block.ensures.source in
    let n = found_frames g.H.BlockHash.hash64 c.args.filter.now c.args.index.now.items c.args.needle.now c.args.seqno _ c.find_by_kept-handle.ensures.exact in
    record { same = s.same; failures_grow = s.failures_grow; kept = s.kept; io = s.io; asks = omega (arith, s.asks, n) }

pub returns-clause-asked : goal.returns-clause-asked
returns-clause-asked g c = λ whole.
    let a = c.read_in_block.ensures.asked whole in
    let n = found_frames g.H.BlockHash.hash64 c.args.filter.now c.args.index.now.items c.args.needle.now c.args.seqno _ c.find_by_kept-handle.ensures.exact in
    omega (arith, a, n)

pub returns-clause-exact : goal.returns-clause-exact
returns-clause-exact g c = found_read (hashes g.H.BlockHash.hash64 g.H.BlockHash.hash128) c.args.filter.now c.args.index.now.items c.args.needle.now c.args.seqno _ _ _ _ _ c.find_by_kept-handle.ensures.exact c.read_in_block.ensures.exact

pub returns-clause-counts : goal.returns-clause-counts
returns-clause-counts g c = found_counts (hashes g.H.BlockHash.hash64 g.H.BlockHash.hash128) c.args.filter.now c.args.index.now.items c.args.needle.now c.args.seqno _ c.args.index.now.interval _ _ _ _ c.find_by_kept-handle.ensures.exact c.find_by_kept-handle.ensures.counts c.read_in_block.ensures.counts

pub returns-clause-looked : goal.returns-clause-looked
returns-clause-looked g c = found_looks g.H.BlockHash.hash64 c.args.filter.now c.args.index.now.items c.args.needle.now c.args.seqno _ _ _ _ c.find_by_kept-handle.ensures.exact (ap not (c.if-is_none.ensures)) c.find_by_kept-handle.ensures.looked c.read_in_block.ensures.counts_grow
