use Rattle.std.proofs.Common.{sym}
use Rattle.std.proofs.lemmas.Result.{err_from_is_err_and}
use Rattle.sst_program.proofs.Results.Outcomes.{run-read, run-refused, fault-of_line}
use Rattle.sst_program.proofs.input.ordered_entries.Goals as goal

pub returns-in_err-items-clause-err : goal.returns-in_err-items-clause-err
returns-in_err-items-clause-err g c =
    let p = err_from_is_err_and c.from_residual.result c.from_residual.ensures.1 in
    rw (p.1, p.2) (fault-of_line (g.I.Read.remaining c.args.input.now) c.in_err-items.field-0.0 c.in_err-items.ensures.err)

pub returns-in-Some-clause-err : goal.returns-in-Some-clause-err
returns-in-Some-clause-err g c =
    run-refused (g.I.Read.remaining c.args.input.now) c.in_ok-items.items.items c.as_slice.result.now c.in-Some.fault c.in_ok-items.ensures.ok c.as_slice.ensures.value (sym c.in-Some.ensures.fault)

pub returns-in-None-clause-ok : goal.returns-in-None-clause-ok
returns-in-None-clause-ok g c =
    run-read (g.I.Read.remaining c.args.input.now) c.in_ok-items.items.items c.as_slice.result.now c.in_ok-items.ensures.ok c.as_slice.ensures.value (sym c.in-None.ensures.fault)
