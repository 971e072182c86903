use Rattle.std.proofs.lemmas.Result.{err_from_is_err_and}
use Rattle.sst_program.proofs.Results.Outcomes.{text-of_run, fault-of_run, fault-of_block}
use Rattle.sst_program.proofs.point.text_for.Goals as goal

pub returns-in_err-items-clause-err : goal.returns-in_err-items-clause-err
returns-in_err-items-clause-err g c =
    let p = err_from_is_err_and c.from_residual.result c.from_residual.ensures.1 in
    let fault = fault-of_run c.args.words.now (g.I.Read.remaining c.args.input.now) c.in_err-items.field-0.0 c.in_err-items.ensures.err in
    rw (p.1, p.2) fault

pub returns-in_err-point_text-clause-err : goal.returns-in_err-point_text-clause-err
returns-in_err-point_text-clause-err g c =
    let p = err_from_is_err_and c.from_residual-in_err-point_text.result c.from_residual-in_err-point_text.ensures.1 in
    let cause = rw (c.interval.ensures.value, c.as_slice.ensures.value) at c.in_err-point_text.ensures.cause in
    let fault = fault-of_block c.args.words.now (g.I.Read.remaining c.args.input.now) c.in_ok-items.items.items c.in_err-point_text.field-0.0 c.in_ok-items.ensures.ok cause in
    rw (p.1, p.2) fault

pub returns-clause-ok : goal.returns-clause-ok
returns-clause-ok g c =
    let text = rw (c.interval.ensures.value, c.as_slice.ensures.value, c.needle.ensures, c.seqno.ensures) at c.in_ok-point_text.ensures.ok in
    let fits = rw (c.interval.ensures.value, c.as_slice.ensures.value) at c.in_ok-point_text.ensures.fits in
    text-of_run c.args.words.now (g.I.Read.remaining c.args.input.now) c.in_ok-items.items.items c.in_ok-point_text.field-0.items c.in_ok-items.ensures.ok fits text
