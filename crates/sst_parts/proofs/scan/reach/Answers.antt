use Rattle.std.proofs.Common.{arith}
use Rattle.std.proofs.lemmas.Result.{err_from_is_err_and}
use Rattle.sst_parts.proofs.Scanning.PartEnds.{gone_by, out_refused}
use Rattle.sstable_blocks.specs.RunReading.{hashes}
use Rattle.sst_parts.proofs.scan.reach.Goals as goal

pub returns-in_err-open_next-clause-exact : goal.returns-in_err-open_next-clause-exact
returns-in_err-open_next-clause-exact g c =
    let h = hashes g.H.BlockHash.hash64 g.H.BlockHash.hash128 in
    let w = c.open.invariant in
    let r = err_from_is_err_and c.from_residual-in_err-open_next.result c.from_residual-in_err-open_next.ensures.1 in
    let gone = gone_by _ _ c.in_ok-entry.field-0 (search (c.in_default.is)) c.in_ok-entry.ensures.exact in
    rw (r.1, r.2) (out_refused h c.args.back c.args.near.now c.open.near c.take.new.self c.args.unreached.now.handles c.open.unreached.handles c.in_ok-entry.ensures.range _ c.open_next.new.self.handles _ _ _ _ w.source.same gone _ _ c.in_err-open_next.field-0.0 c.open_next.new.near.reads
    (λ less. let grow = w.source.failures_grow in omega (arith, less, grow)) w.source.kept w.left c.in_err-open_next.ensures.exact)
