use Rattle.std.proofs.Common.{sym, subst}
use Rattle.std.proofs.lemmas.Result.{err_from_is_err_and}
use Rattle.sstable_blocks.specs.BlockLaws.{NotIo}
use Rattle.sstable_blocks.specs.FilterLaws.{filter_not_io}
use Rattle.sst_program.proofs.check.check_filter.Goals as goal

pub returns-in_err-new-clause-source : goal.returns-in_err-new-clause-source
returns-in_err-new-clause-source g c =
    let s = c.in_ok-block.ensures.source in
    let r = err_from_is_err_and c.from_residual-in_err-new.result c.from_residual-in_err-new.ensures.1 in
    rw (r.1, r.2) (record {
      same = s.same;
      failures_grow = s.failures_grow;
      kept = s.kept;
      io = λ io. absurd (subst NotIo (sym c.in_err-new.ensures) (filter_not_io _) io);
      asks = s.asks;
    })
