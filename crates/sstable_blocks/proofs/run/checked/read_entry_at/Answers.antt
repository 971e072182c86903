use Rattle.std.proofs.Common.{Bool, IfSome, ap, arith, cond, inl, refl, subst}
use Rattle.std.proofs.lemmas.Result.{err_from_is_err_and}
use Rattle.sstable_blocks.specs.CheckedLaws.{by_filter}
use Rattle.sstable_blocks.specs.FrameCounts.{frames_to, read_frames}
use Rattle.sstable_blocks.specs.FrameCountLaws.{goes_on, stops}
use Rattle.sstable_blocks.specs.ReadCosts.{CountsRead}
use Rattle.sstable_blocks.specs.RunPlaces.{bytes_at}
use Rattle.sstable_blocks.specs.RunReading.{filter_says, hashes}
use Rattle.sstable_blocks.specs.TableCountLaws.{nothing_counted}
use Rattle.sstable_blocks.proofs.Reading.FrameCounts.{if_allowed, if_denied}
use Rattle.sstable_blocks.proofs.run.checked.read_entry_at.Goals as goal

pub returns-then-branch-clause-exact : goal.returns-then-branch-clause-exact
returns-then-branch-clause-exact g c =
    let m = c.in_ok-filter_allows.ensures in
    by_filter (hashes g.H.BlockHash.hash64 g.H.BlockHash.hash128) _ _ _ _ _ _ _ c.args.handles.now c.args.needle.now c.args.seqno _ _ (ap (bytes_at c.args.place.now) m.source.same) m.source.failures_grow m.source.kept c.if-branch.true m.exact c.read_by_index.ensures.exact

pub returns-in_err-filter_allows-clause-asked : goal.returns-in_err-filter_allows-clause-asked
unfolding read_frames
returns-in_err-filter_allows-clause-asked g c =
    let h = (hashes g.H.BlockHash.hash64 g.H.BlockHash.hash128) in
    let e = c.in_err-filter_allows.ensures in
    let r = err_from_is_err_and c.from_residual.result c.from_residual.ensures.1 in
    rw (r.1, r.2) (λ whole. stops _ _ _ _ _ _ _ _ (λ all. filter_says h all c.args.handles.now.filter c.args.needle.now) (λ all (may : Bool). cond may (frames_to h all c.args.handles.now.index c.args.needle.now c.args.seqno) 0) (e.asked (inl whole)) e.exact)

pub returns-then-branch-clause-asked : goal.returns-then-branch-clause-asked
unfolding read_frames
returns-then-branch-clause-asked g c =
    let h = (hashes g.H.BlockHash.hash64 g.H.BlockHash.hash128) in
    let m = c.in_ok-filter_allows.ensures in
    let e = c.read_by_index.ensures in
    λ whole. goes_on _ _ _ _ _ _ _ _ _ _ _ (λ all. filter_says h all c.args.handles.now.filter c.args.needle.now) (λ all (may : Bool). cond may (frames_to h all c.args.handles.now.index c.args.needle.now c.args.seqno) 0) (ap (bytes_at c.args.place.now) m.source.same) (m.asked (inl whole)) m.source.failures_grow e.source.failures_grow m.exact
    (if_allowed h c.args.handles.now.index c.args.needle.now c.args.seqno _ _ _ _ _ _ _ c.if-branch.true (e.asked whole))

pub returns-else-branch-clause-asked : goal.returns-else-branch-clause-asked
unfolding read_frames
returns-else-branch-clause-asked g c =
    let h = (hashes g.H.BlockHash.hash64 g.H.BlockHash.hash128) in
    let m = c.in_ok-filter_allows.ensures in
    λ whole. goes_on _ _ _ _ _ _ _ _ _ _ _ (λ all. filter_says h all c.args.handles.now.filter c.args.needle.now) (λ all (may : Bool). cond may (frames_to h all c.args.handles.now.index c.args.needle.now c.args.seqno) 0) (ap (bytes_at c.args.place.now) m.source.same) (m.asked (inl whole)) m.source.failures_grow (omega arith) m.exact
    (if_denied h c.args.handles.now.index c.args.needle.now c.args.seqno _ _ _ _ _ _ _ c.if-branch.false refl)

pub returns-then-branch-clause-counts : goal.returns-then-branch-clause-counts
returns-then-branch-clause-counts g c =
    let m = c.in_ok-filter_allows.ensures in
    subst (λ o. IfSome o (λ all. CountsRead all c.args.handles.now c.args.needle.now c.args.seqno c.args.steps.now c.read_by_index.new.steps)) (ap (bytes_at c.args.place.now) m.source.same) c.read_by_index.ensures.counts

pub returns-in_err-filter_allows-clause-counts : goal.returns-in_err-filter_allows-clause-counts
returns-in_err-filter_allows-clause-counts g c = nothing_counted _ _ _

pub returns-else-branch-clause-counts : goal.returns-else-branch-clause-counts
returns-else-branch-clause-counts g c = nothing_counted _ _ _
