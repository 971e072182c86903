use Rattle.std.proofs.Common.{inl, inr}
use Rattle.std.proofs.lemmas.Result.{err_from_is_err_and}
use Rattle.sstable_blocks.specs.TableEndLaws.{table-of, not-fits}
use Rattle.sstable_blocks.proofs.run.writer.RunWriter.finish_table.Goals as goal

pub returns-in_err-len-clause-cause : goal.returns-in_err-len-clause-cause
returns-in_err-len-clause-cause g c = λ accepting.
    let long = c.in_err-len.ensures.too_long in
    let r = err_from_is_err_and c.from_residual-in_err-len.result c.from_residual-in_err-len.ensures.1 in
    rw (r.1, r.2) (inr (inl (long.0, not-fits _ _ _ _ _ c.in_ok-handles.ensures.layout long.1)))

pub returns-clause-table : goal.returns-clause-table
returns-clause-table g c = table-of _ _ _ _ _ _ _ c.in_ok-handles.ensures.layout c.in_ok-end_table.ensures.bytes c.in_ok-len.ensures.len
