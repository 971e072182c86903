use Rattle.std.proofs.Common.{◌≤◌, arith, subst, sym}
use Rattle.std.proofs.lemmas.Result.{err_from_is_err_and}
use Rattle.sstable_blocks.specs.Run.{IsFilterText}
use Rattle.sst_calls.proofs.Lists.RunEnds.{filter_fits, refused_on}
use Rattle.sst_calls.proofs.run_write.append_filter.Goals as goal

pub returns-in_err-handle-clause-cause : goal.returns-in_err-handle-clause-cause
returns-in_err-handle-clause-cause g c =
    let hashes = c.args.hashes.now in
    let some : 1 ≤ c.args.bits = omega (arith, c.if-bits-eq0.false) in
    let is = subst (IsFilterText hashes c.args.bits) (sym c.deref.ensures.value) c.in_ok-payload.ensures.ok in
    let p = err_from_is_err_and c.from_residual-in_err-handle.result c.from_residual-in_err-handle.ensures.1 in
    rw (p.1, p.2) (refused_on _ _ c.in_err-handle.field-0.0 (filter_fits hashes c.args.bits c.deref.result.now c.args.offset some is) c.in_err-handle.ensures.cause)
