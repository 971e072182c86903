use Rattle.std.proofs.Common.{◌<◌, ◌≤◌, length, sym, subst, IfSome, Err}
use Rattle.std.proofs.lemmas.Result.{err_from_is_err_and}
use Rattle.sst_parts.specs.PartScans.{OpensNext}
use Rattle.sst_parts.proofs.Scanning.Reaching.{next_opened, next_refused, tops_same}
use Rattle.sstable_blocks.specs.BetweenLaws.{some_between}
use Rattle.sstable_blocks.specs.RunReading.{hashes}
use Rattle.sstable_blocks.specs.Scans.{between}
use Rattle.sst_parts.proofs.scan.Unreached.open_next.Goals as goal

pub returns-in_err-bytes-clause-exact : goal.returns-in_err-bytes-clause-exact
returns-in_err-bytes-clause-exact g c =
    let h = hashes g.H.BlockHash.hash64 g.H.BlockHash.hash128 in
    let f = g.S.FrameSource in
    let s = c.self.inside in
    let t = c.part_at.new.self in
    let i = c.take_index-index.ensures in
    let b = c.take_index-index.new.between in
    let near = c.args.near.now in
    let some = subst (λ v. 1 ≤ length v.handles) (sym c.self.view_is) c.requires in
    let r = err_from_is_err_and c.from_residual.result c.from_residual.ensures.1 in
    rw (r.1, r.2) (subst (λ v. IfSome (f.bytes v.table.source) (λ all. OpensNext h all c.args.back (f.failures v.table.source < f.failures t.source) (f.is_reliable v.table.source) near.range v.handles (between t.tops b.lo b.hi) (Err c.in_err-bytes.field-0.0) near.reads)) c.self.view_is
    (next_refused _ h near.range c.args.back s.table.tops t.tops (tops_same t s.table c.in_err-bytes.ensures.kept) s.rest.lo s.rest.hi c.take_index-index.result b.lo b.hi (some_between s.table.tops s.rest.lo s.rest.hi some) c.self.invariant i.index i.rest.0 i.rest.1 _ _ near.reads _ c.in_err-bytes.field-0.0 c.in_err-bytes.ensures.exact))

pub returns-clause-exact : goal.returns-clause-exact
returns-clause-exact g c =
    let h = hashes g.H.BlockHash.hash64 g.H.BlockHash.hash128 in
    let f = g.S.FrameSource in
    let s = c.self.inside in
    let t = c.part_at.new.self in
    let i = c.take_index-index.ensures in
    let b = c.take_index-index.new.between in
    let near = c.args.near.now in
    let some = subst (λ v. 1 ≤ length v.handles) (sym c.self.view_is) c.requires in
    subst (λ v. IfSome (f.bytes v.table.source) (λ all. OpensNext h all c.args.back (f.failures v.table.source < f.failures t.source) (f.is_reliable v.table.source) near.range v.handles (between t.tops b.lo b.hi) c.open.result c.open.new.self.reads)) c.self.view_is
    (next_opened _ h near.range c.args.back s.table.tops t.tops (tops_same t s.table c.in_ok-bytes.ensures.kept) s.rest.lo s.rest.hi c.take_index-index.result b.lo b.hi (some_between s.table.tops s.rest.lo s.rest.hi some) c.self.invariant i.index i.rest.0 i.rest.1 _ _ c.open.new.self.reads _ c.in_ok-bytes.bytes c.open.result c.in_ok-bytes.ensures.exact c.open.ensures.reads c.open.ensures.refused)
