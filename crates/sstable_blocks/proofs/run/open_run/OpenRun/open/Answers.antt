use Rattle.std.proofs.Common.{ap, arith, inl}
use Rattle.std.proofs.lemmas.Result.{err_from_is_err_and}
use Rattle.sstable_blocks.specs.RunPlaces.{bytes_at}
use Rattle.sstable_blocks.specs.RunReading.{hashes}
use Rattle.sstable_blocks.specs.KeptLaws.{opened_on, kept_ok, filter_fails, index_fails}
use Rattle.sstable_blocks.specs.Tables.{filter_kept}
use Rattle.sstable_blocks.specs.FrameCounts.{open_frames}
use Rattle.sstable_blocks.specs.FrameCountLaws.{exactly, goes_on, stops}
use Rattle.sstable_blocks.proofs.run.open_run.OpenRun.open.Goals as goal

pub returns-in_err-filter-clause-exact : goal.returns-in_err-filter-clause-exact
returns-in_err-filter-clause-exact g c =
    let r = err_from_is_err_and c.from_residual.result c.from_residual.ensures.1 in
    rw (r.1, r.2) (filter_fails (hashes g.H.BlockHash.hash64 g.H.BlockHash.hash128) _ _ _ _ _ c.in_err-filter.ensures.exact)

pub returns-in_err-index-clause-exact : goal.returns-in_err-index-clause-exact
returns-in_err-index-clause-exact g c =
    let f = c.in_ok-filter.ensures in
    let r = err_from_is_err_and c.from_residual-in_err-index.result c.from_residual-in_err-index.ensures.1 in
    rw (r.1, r.2) (index_fails (hashes g.H.BlockHash.hash64 g.H.BlockHash.hash128) _ _ _ _ _ _ _ _ _ (ap (bytes_at c.args.place.now) f.source.same) (λ less. omega (arith, f.source.failures_grow)) f.source.kept f.exact c.in_err-index.ensures.exact)

pub returns-clause-kept : goal.returns-clause-kept
returns-clause-kept g c =
    let f = c.in_ok-filter.ensures in
    let i = c.in_ok-index.ensures in
    opened_on (hashes g.H.BlockHash.hash64 g.H.BlockHash.hash128) _ _ _ _ _ _ (ap (bytes_at c.args.place.now) f.source.same) f.exact i.exact i.place

pub returns-clause-exact : goal.returns-clause-exact
returns-clause-exact g c =
    kept_ok (hashes g.H.BlockHash.hash64 g.H.BlockHash.hash128) _ _ _ _ _ (returns-clause-kept g c)

pub returns-in_err-filter-clause-asked : goal.returns-in_err-filter-clause-asked
unfolding open_frames
returns-in_err-filter-clause-asked g c =
    let e = c.in_err-filter.ensures in
    let r = err_from_is_err_and c.from_residual.result c.from_residual.ensures.1 in
    rw (r.1, r.2) (λ whole. stops _ _ _ _ _ _ _ _ (λ all. filter_kept (hashes g.H.BlockHash.hash64 g.H.BlockHash.hash128) all c.args.handles.filter) (λ _ _. 1) (e.asked (inl whole)) e.exact)

pub returns-in_err-index-clause-asked : goal.returns-in_err-index-clause-asked
unfolding open_frames
returns-in_err-index-clause-asked g c =
    let f = c.in_ok-filter.ensures in
    let e = c.in_err-index.ensures in
    let r = err_from_is_err_and c.from_residual-in_err-index.result c.from_residual-in_err-index.ensures.1 in
    rw (r.1, r.2) (λ whole. goes_on _ _ _ _ _ _ _ _ _ _ _ (λ all. filter_kept (hashes g.H.BlockHash.hash64 g.H.BlockHash.hash128) all c.args.handles.filter) (λ _ _. 1) (ap (bytes_at c.args.place.now) f.source.same) (f.asked (inl whole)) f.source.failures_grow e.source.failures_grow f.exact
    (exactly _ _ _ _ _ _ _ (e.asked (inl whole))))

pub returns-clause-asked : goal.returns-clause-asked
unfolding open_frames
returns-clause-asked g c =
    let f = c.in_ok-filter.ensures in
    let i = c.in_ok-index.ensures in
    λ whole. goes_on _ _ _ _ _ _ _ _ _ _ _ (λ all. filter_kept (hashes g.H.BlockHash.hash64 g.H.BlockHash.hash128) all c.args.handles.filter) (λ _ _. 1) (ap (bytes_at c.args.place.now) f.source.same) (f.asked (inl whole)) f.source.failures_grow i.source.failures_grow f.exact
    (exactly _ _ _ _ _ _ _ (i.asked (inl whole)))
