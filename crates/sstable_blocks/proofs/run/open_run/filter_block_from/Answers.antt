use Rattle.std.proofs.Common.{◌≡◌, ap, arith, subst}
use Rattle.std.proofs.lemmas.Result.{err_from_is_err_and}
use Rattle.sst_base.specs.FrameErrorLaws.{NotIo}
use Rattle.sstable_blocks.specs.FilterLaws.{filter_not_io}
use Rattle.sstable_blocks.specs.Sources.{filter_frames}
use Rattle.sstable_blocks.proofs.run.open_run.filter_block_from.Goals as goal

pub returns-in_err-read-in-Some-clause-source : goal.returns-in_err-read-in-Some-clause-source
returns-in_err-read-in-Some-clause-source g c =
    let b = c.in_ok-block-in-Some.ensures in
    let r = err_from_is_err_and c.from_residual-in_err-read-in-Some.result c.from_residual-in_err-read-in-Some.ensures.1 in
    let count : filter_frames c.args.filter.now ≡ 1 = ap filter_frames c.in-Some.is in
    rw (r.1, r.2) (record {
      same = b.source.same;
      failures_grow = b.source.failures_grow;
      kept = b.source.kept;
      io = λ io. absurd (subst NotIo c.in_err-read-in-Some.ensures.refused (filter_not_io _) io);
      asks = omega (arith, count, b.source.asks);
    })
