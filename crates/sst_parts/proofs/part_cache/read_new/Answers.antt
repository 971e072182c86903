use Rattle.std.proofs.Common.{arith}
use Rattle.std.proofs.lemmas.Result.{err_from_is_err_and}
use Rattle.sst_parts.proofs.Cached.PartsKept.{no_counts, of_needle, read_later}
use Rattle.sstable_blocks.specs.RunReading.{hashes}
use Rattle.sst_parts.proofs.part_cache.read_new.Goals as goal

pub returns-in_err-run-clause-exact : goal.returns-in_err-run-clause-exact
returns-in_err-run-clause-exact g c =
    let r = err_from_is_err_and c.from_residual.result c.from_residual.ensures.1 in
    rw (r.1, r.2) (of_needle (hashes g.H.BlockHash.hash64 g.H.BlockHash.hash128) c.args.range.now c.args.needle.now c.args.seqno _ _ _ _ c.in_err-run.ensures.refused)

pub returns-in_err-run-clause-counts : goal.returns-in_err-run-clause-counts
returns-in_err-run-clause-counts g c = no_counts (hashes g.H.BlockHash.hash64 g.H.BlockHash.hash128) c.args.range.now c.args.needle.now c.args.seqno _ _

pub returns-clause-exact : goal.returns-clause-exact
returns-clause-exact g c =
    let s = c.in_ok-run.ensures.source in
    read_later (hashes g.H.BlockHash.hash64 g.H.BlockHash.hash128) c.args.range.now c.args.needle.now c.args.seqno _ _ _ _ _ _ _ s.same (λ less. omega (arith, less, s.failures_grow)) s.kept c.read_open_part-found.ensures.exact
