use Rattle.std.proofs.lemmas.Result.{IfOk-weaker, IfErr-weaker, err_from_is_err_and}
use Rattle.sstable_blocks.specs.RunReading.{hashes}
use Rattle.sst_parts.proofs.Merged.Steps.{each_around}
use Rattle.std.proofs.Common.{◌<◌}
use Rattle.sst_parts.proofs.Merged.Faults.{begun_fails, ended_fails}
use Rattle.sst_parts.proofs.merging.merge_all.Goals as goal

pub returns-clause-merged : goal.returns-clause-merged
returns-clause-merged g c =
    let h = hashes g.H.BlockHash.hash64 g.H.BlockHash.hash128 in
    let base = c.args.base.now in
    let begun = c.new-filler.result in
    let f = c.in_ok-filler.filler in
    IfOk-weaker c.finish.result _ _ (λ w k. each_around h c.args.copier begun f w c.args.newer.now.list c.merge_each.new.newer.list (g.S.FrameSource.bytes base.source) base.top c.new-filler.ensures.added k c.in_ok-filler.ensures.merged) c.finish.ensures.added

pub returns-in_err-filler-clause-cause : goal.returns-in_err-filler-clause-cause
returns-in_err-filler-clause-cause g c =
    let h = hashes g.H.BlockHash.hash64 g.H.BlockHash.hash128 in
    let base = c.args.base.now in
    let begun = c.new-filler.result in
    let x = c.in_err-filler.field-0.0 in
    let failures = g.S.FrameSource.failures in
    let p = err_from_is_err_and c.from_residual.result c.from_residual.ensures.1 in
    rw (p.1, p.2) (begun_fails g.W.Output.never_fails g.I.Source.may_fail h c.args.copier begun x c.args.newer.now (failures base.source < failures c.merge_each.new.base.source) (g.S.FrameSource.is_reliable base.source) (g.S.FrameSource.bytes base.source) base.top
    c.new-filler.ensures.same c.new-filler.ensures.added c.in_err-filler.ensures.cause)

pub returns-clause-cause : goal.returns-clause-cause
returns-clause-cause g c =
    let h = hashes g.H.BlockHash.hash64 g.H.BlockHash.hash128 in
    let base = c.args.base.now in
    let begun = c.new-filler.result in
    let f = c.in_ok-filler.filler in
    let failures = g.S.FrameSource.failures in
    IfErr-weaker c.finish.result _ _ (λ e k. ended_fails g.W.Output.never_fails g.I.Source.may_fail h c.args.copier begun f e c.args.newer.now c.merge_each.new.newer.list (failures base.source < failures c.merge_each.new.base.source) (g.S.FrameSource.is_reliable base.source)
    (g.S.FrameSource.bytes base.source) base.top c.new-filler.ensures.same c.in_ok-filler.ensures.same c.new-filler.ensures.added c.in_ok-filler.ensures.merged k) c.finish.ensures.cause
