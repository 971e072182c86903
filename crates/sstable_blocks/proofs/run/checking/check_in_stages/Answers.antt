use Rattle.std.proofs.Common.{sym, subst, arith, ap, ◌∙◌}
use Rattle.std.proofs.lemmas.Result.{err_from_is_err_and}
use Rattle.sst_base.specs.FrameErrorLaws.{NotIo}
use Rattle.sstable_blocks.specs.Filter.{filter_at}
use Rattle.sstable_blocks.specs.FilterLaws.{filter_not_io}
use Rattle.sstable_blocks.specs.RunReading.{hashes}
use Rattle.sstable_blocks.proofs.Checks.RunCheckSteps.{filter_on}
use Rattle.sstable_blocks.proofs.Reading.FrameCounts.{filter_passes, filter_refused, filter_stops, no_filter}
use Rattle.sstable_blocks.proofs.run.checking.check_in_stages.Goals as goal

pub returns-in_err-filter-in-Some-clause-source : goal.returns-in_err-filter-in-Some-clause-source
returns-in_err-filter-in-Some-clause-source g c =
    let b = c.in_ok-block-in-Some.ensures in
    let r = err_from_is_err_and c.from_residual-in_err-filter-in-Some.result c.from_residual-in_err-filter-in-Some.ensures.1 in
    rw (r.1, r.2) (record {
      same = b.source.same;
      failures_grow = b.source.failures_grow;
      kept = b.source.kept;
      io = λ io. absurd (subst NotIo (sym c.in_err-filter-in-Some.ensures) (filter_not_io _) io);
      asks = (omega (arith, b.source.asks), tt);
    })

pub returns-in_ok-filter-in-Some-clause-exact : goal.returns-in_ok-filter-in-Some-clause-exact
returns-in_ok-filter-in-Some-clause-exact g c =
    let b = c.in_ok-block-in-Some.ensures in
    filter_on (hashes g.H.BlockHash.hash64 g.H.BlockHash.hash128) _ _ _ _ _ _ c.args.handles.now c.in-Some.handle c.in_ok-block-in-Some.block.payload c.in_ok-filter-in-Some.filter _
    b.source.same (λ less. omega (arith, less, b.source.failures_grow)) b.source.kept c.in-Some.is b.exact
    (ap filter_at (sym (c.as_slice.ensures ∙ c.data.ensures.value)) ∙ sym c.in_ok-filter-in-Some.ensures) c.check_by_index-in-Some.ensures.exact

pub returns-in-None-clause-asked : goal.returns-in-None-clause-asked
returns-in-None-clause-asked g c =
    no_filter (hashes g.H.BlockHash.hash64 g.H.BlockHash.hash128) c.args.handles.now _ _ _ _ _ _ c.in-None.is c.check_by_index.ensures.asked

pub returns-in_err-block-in-Some-clause-asked : goal.returns-in_err-block-in-Some-clause-asked
returns-in_err-block-in-Some-clause-asked g c =
    let e = c.in_err-block-in-Some.ensures in
    let r = err_from_is_err_and c.from_residual.result c.from_residual.ensures.1 in
    rw (r.1, r.2) (filter_stops (hashes g.H.BlockHash.hash64 g.H.BlockHash.hash128) c.args.handles.now _ _ _ _ c.in-Some.handle c.in-Some.is _ _ _ e.source.asks e.exact)

pub returns-in_err-filter-in-Some-clause-asked : goal.returns-in_err-filter-in-Some-clause-asked
returns-in_err-filter-in-Some-clause-asked g c =
    let b = c.in_ok-block-in-Some.ensures in
    let r = err_from_is_err_and c.from_residual-in_err-filter-in-Some.result c.from_residual-in_err-filter-in-Some.ensures.1 in
    rw (r.1, r.2) (filter_refused (hashes g.H.BlockHash.hash64 g.H.BlockHash.hash128) c.args.handles.now _ _ _ _ c.in-Some.handle c.in-Some.is c.in_ok-block-in-Some.block.payload _ _ b.source.asks b.exact
    (ap filter_at (sym (c.as_slice.ensures ∙ c.data.ensures.value)) ∙ sym c.in_err-filter-in-Some.ensures))

pub returns-in_ok-filter-in-Some-clause-asked : goal.returns-in_ok-filter-in-Some-clause-asked
returns-in_ok-filter-in-Some-clause-asked g c =
    let b = c.in_ok-block-in-Some.ensures in
    let i = c.check_by_index-in-Some.ensures in
    filter_passes (hashes g.H.BlockHash.hash64 g.H.BlockHash.hash128) c.args.handles.now _ _ _ _ c.in-Some.handle c.in-Some.is c.in_ok-block-in-Some.block.payload _ _ _ _ c.in_ok-filter-in-Some.filter _
    b.source.same b.source.asks b.source.failures_grow i.source.failures_grow b.exact
    (ap filter_at (sym (c.as_slice.ensures ∙ c.data.ensures.value)) ∙ sym c.in_ok-filter-in-Some.ensures) i.asked
