use Rattle.std.proofs.Common.{refl}
use Rattle.std.proofs.lemmas.Result.{err_from_is_err_and}
use Rattle.sst_parts.proofs.Writing.Kinds.{end_fits, some_current}
use Rattle.sstable_blocks.specs.Run.{form}
use Rattle.sstable_blocks.specs.RunLaws.{refusal_on}
use Rattle.sst_parts.proofs.writer.PartWriterTableWriter.finish.Goals as goal

pub returns-clause-table : goal.returns-clause-table
returns-clause-table g c =
    let s = c.args.self in
    record {
      closed = s.parts;
      last = s.current;
      cut = record { whole = refl; some = some_current s.sizes s.parts s.current c.tell_cut.ensures c.requires.some; cut = c.tell_cut.ensures };
      top = c.in_ok-top.top;
      handles_are = c.footer_handles.ensures;
      appended = c.in_ok-top.ensures.parts;
    }

pub returns-in_err-top-clause-cause : goal.returns-in_err-top-clause-cause
returns-in_err-top-clause-cause g c =
    let s = c.args.self in
    let f = form g.H.BlockHash.hash64 g.H.BlockHash.hash128 s.config in
    let r = err_from_is_err_and c.from_residual.result c.from_residual.ensures.1 in
    let some = some_current s.sizes s.parts s.current c.tell_cut.ensures c.requires.some in
    rw (r.1, r.2) (refusal_on _ _ _ c.in_err-top.ensures.cause (λ no fits. no (end_fits f s c.tell_cut.ensures some fits)))
