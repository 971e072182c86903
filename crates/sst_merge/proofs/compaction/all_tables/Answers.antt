use Rattle.std.proofs.Common.{◌++◌, ◌∷◌, [], ◌∙◌, refl, ap, sym, subst}
use Rattle.std.specs.Option.{IfSome}
use Rattle.sst_merge.specs.OutputLaws.{none_written, one_written, all_written}
use Rattle.sst_merge.specs.MappedLaws.{after_entries, none_entries}
use Rattle.sst_merge.specs.Outputs.{AreWritten, MayFail, Output, entries_of}
use Rattle.std.proofs.lemmas.Result.{err_from_is_err_and}
use Rattle.sst_merge.specs.WriteLaws.{not_all}
use Rattle.sst_sources.specs.SourceLaws.{same_end}
use Rattle.sst_merge.specs.TableLaws.{none_left}
use Rattle.sst_merge.specs.Tables.{IsTableOf, entries_in}
use Rattle.sst_merge.proofs.compaction.all_tables.Goals as goal

pub loop-alloc-init : goal.loop-alloc-init
loop-alloc-init g c = record {
  written = none_written (g.K.TableWriter.kind c.args.form) c.args.sizes g.O.Outputs.start (entries_in g.T.AsEntry.entry c.args.source.now.list) (g.O.Outputs.tables c.args.outputs.now);
  ended = refl;
  no_more = λ e met. met;
}

pub loop-alloc-preserved : goal.loop-alloc-preserved
loop-alloc-preserved g c =
    let k = g.K.TableWriter.kind c.args.form in
    let contents = g.O.Writer.Write.contents in
    let entry = g.T.AsEntry.entry in
    let mid = entries_in entry c.loop-alloc.source.list in
    let after = entries_in entry c.write_table.new.source.list in
    let output : Output = record { handles = c.in-Some.handles; bytes = contents c.in_ok-table.writer } in
    let written : IsTableOf k c.args.sizes (contents c.in_ok-writer.writer) output.bytes output.handles mid after =
    subst (λ o. IfSome o (λ h. IsTableOf k c.args.sizes (contents c.in_ok-writer.writer) output.bytes h mid after)) c.in-Some.is c.in_ok-table.ensures.table in
    let before = c.loop-alloc.invariant in
    record {
      written = one_written k c.args.sizes g.O.Outputs.start (entries_in entry c.args.source.now.list) mid after (g.O.Outputs.tables c.args.outputs.now) (g.O.Outputs.tables c.loop-alloc.outputs) (g.O.Outputs.tables c.close.new.self) output before.written
          (subst (λ start. IsTableOf k c.args.sizes start output.bytes output.handles mid after) c.in_ok-writer.ensures.fresh written)
          (c.in_ok-close.ensures.closed ∙ ap (λ tables. tables ++ output ∷ []) c.in_ok-writer.ensures.same);
      ended = same_end c.loop-alloc.source.ended c.write_table.new.source.ended (c.in_ok-table.table, c.in_ok-table.writer) c.in_ok-table.ensures.ended ∙ before.ended;
      no_more = λ e met. before.no_more e (c.in_ok-table.ensures.no_more e met);
    }

pub returns-clause-written : goal.returns-clause-written
returns-clause-written g c =
    let entry = g.T.AsEntry.entry in
    let k = g.K.TableWriter.kind c.args.form in
    let given = entries_in entry c.args.source.now.list in
    let none = none_entries entry c.loop-alloc.source.list (none_left (λ r. r.now) c.loop-alloc.source.list c.peek.result c.peek.ensures.first (sym c.loop-alloc-test.ensures)) in
    subst (λ o. AreWritten k c.args.sizes g.O.Outputs.start given o (g.O.Outputs.tables c.args.outputs.now) (g.O.Outputs.tables c.loop-alloc.outputs)) (after_entries entry c.args.source.now.list)
    (all_written k c.args.sizes g.O.Outputs.start given (entries_in entry c.loop-alloc.source.list) (g.O.Outputs.tables c.args.outputs.now) (g.O.Outputs.tables c.loop-alloc.outputs) c.loop-alloc.invariant.written none)

pub returns-in_err-table-clause-cause : goal.returns-in_err-table-clause-cause
returns-in_err-table-clause-cause g c =
    let inv = c.loop-alloc.invariant in
    let p = err_from_is_err_and c.from_residual-in_err-table.result c.from_residual-in_err-table.ensures.1 in
    rw (p.1, p.2) (not_all g.I.Source.may_fail g.O.Outputs.may_fail _ (MayFail g.O.Writer.Output.never_fails) (λ fails. (c.in_ok-writer.writer, fails)) g.T.AsEntry.entry (g.K.TableWriter.kind c.args.form) c.args.sizes.block c.args.source.now c.loop-alloc.source
    (entries_of inv.written.runs) c.in_err-table.field-0.0 inv.written.taken inv.no_more c.in_err-table.ensures.cause)
