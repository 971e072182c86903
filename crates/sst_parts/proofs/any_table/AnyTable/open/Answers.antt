use Rattle.std.proofs.Common.{refl}
use Rattle.sstable_blocks.specs.FrameCountLaws.{fails_on, goes_on, stops}
use Rattle.sstable_blocks.specs.Results.{◌>>=◌}
use Rattle.sstable_blocks.specs.RunReading.{hashes}
use Rattle.sst_parts.proofs.Reading.AnyOpenings.{opens_on}
use Rattle.sst_parts.specs.AnyTables.{any_by_kind, is_parted_at, kind_frames}
use Rattle.sst_parts.proofs.any_table.AnyTable.open.Goals as goal

pub returns-in-Ok-clause-exact : goal.returns-in-Ok-clause-exact
returns-in-Ok-clause-exact g c =
    let h = hashes g.H.BlockHash.hash64 g.H.BlockHash.hash128 in
    let f = g.S.FrameSource in
    let t = c.in-Ok.ensures in
    opens_on f.bytes f.failures f.is_reliable c.args.source _ c.in-Ok.is_parted (λ all. is_parted_at h all c.args.handles.index) (λ all k. any_by_kind h all c.args.handles k) t.source.failures_grow t.source.kept _ t.source.same t.exact c.open_by_kind.ensures.exact

pub returns-in-Err-clause-exact : goal.returns-in-Err-clause-exact
returns-in-Err-clause-exact g c =
    let h = hashes g.H.BlockHash.hash64 g.H.BlockHash.hash128 in
    fails_on _ _ _ (λ all r. r >>= any_by_kind h all c.args.handles) _ (λ all. is_parted_at h all c.args.handles.index) (λ all e. refl) c.in-Err.ensures.exact

pub returns-in-Ok-clause-asked : goal.returns-in-Ok-clause-asked
returns-in-Ok-clause-asked g c =
    let h = hashes g.H.BlockHash.hash64 g.H.BlockHash.hash128 in
    let t = c.in-Ok.ensures in
    let o = c.open_by_kind.ensures in
    goes_on _ _ _ _ _ _ _ _ 1 _ _ (λ all. is_parted_at h all c.args.handles.index) (λ all k. kind_frames h all c.args.handles k) t.source.same t.source.asks t.source.failures_grow o.source.failures_grow t.exact o.asked

pub returns-in-Err-clause-asked : goal.returns-in-Err-clause-asked
returns-in-Err-clause-asked g c =
    let h = hashes g.H.BlockHash.hash64 g.H.BlockHash.hash128 in
    let e = c.in-Err.ensures in
    stops _ _ _ _ _ 1 _ _ (λ all. is_parted_at h all c.args.handles.index) (λ all k. kind_frames h all c.args.handles k) e.source.asks e.exact
