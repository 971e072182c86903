use Rattle.std.proofs.Common.{[], inr, ◌<◌}
use Rattle.std.proofs.lemmas.Result.{IfOk-weaker, IfErr-weaker}
use Rattle.sstable_blocks.specs.Blocks.{joined}
use Rattle.sstable_blocks.specs.RunReading.{hashes}
use Rattle.sst_parts.specs.PartMerges.{Merges, PartsFail}
use Rattle.sst_parts.proofs.Merged.Steps.{merged_at}
use Rattle.sst_parts.proofs.Merged.Faults.{part_unread}
use Rattle.sst_parts.proofs.merging.merge_part.Goals as goal

pub returns-in-Ok-clause-merged : goal.returns-in-Ok-clause-merged
returns-in-Ok-clause-merged g c =
    let h = hashes g.H.BlockHash.hash64 g.H.BlockHash.hash128 in
    let base = c.args.base.now in
    let end = c.args.end.now in
    let sums = g.met.H.BlockHash.hash128_fits in
    IfOk-weaker c.merge_bytes.result _ _ (λ f k. merged_at h (g.S.FrameSource.bytes base.source) base.tops c.args.index end c.in-Ok.bytes
    (λ part. Merges h c.args.filler f c.args.newer.now.list c.merge_bytes.new.newer.list (joined part) []) c.requires.inside c.in-Ok.ensures.exact (λ all part stored. c.stored_part_is_read.ensures h all part end sums stored) (λ part is. k part is)) c.merge_bytes.ensures.merged

pub returns-in-Ok-clause-cause : goal.returns-in-Ok-clause-cause
returns-in-Ok-clause-cause g c =
    let h = hashes g.H.BlockHash.hash64 g.H.BlockHash.hash128 in
    let base = c.args.base.now in
    let end = c.args.end.now in
    let sums = g.met.H.BlockHash.hash128_fits in
    let failures = g.S.FrameSource.failures in
    IfErr-weaker c.merge_bytes.result _ _ (λ e k. merged_at h (g.S.FrameSource.bytes base.source) base.tops c.args.index end c.in-Ok.bytes
    (λ part. PartsFail (failures base.source < failures c.part_at.new.self.source) (g.S.FrameSource.is_reliable base.source) g.W.Output.never_fails g.I.Source.may_fail h c.args.newer.now c.args.filler (joined part) e)
    c.requires.inside c.in-Ok.ensures.exact (λ all part stored. c.stored_part_is_read.ensures h all part end sums stored) (λ part is. inr (k part is))) c.merge_bytes.ensures.cause

pub returns-in-Err-clause-cause : goal.returns-in-Err-clause-cause
returns-in-Err-clause-cause g c =
    let h = hashes g.H.BlockHash.hash64 g.H.BlockHash.hash128 in
    let base = c.args.base.now in
    let failures = g.S.FrameSource.failures in
    part_unread g.W.Output.never_fails g.I.Source.may_fail h c.args.newer.now c.args.filler (failures base.source < failures c.part_at.new.self.source) (g.S.FrameSource.is_reliable base.source) (g.S.FrameSource.bytes base.source) base.tops c.args.index c.args.end.now c.in-Err.error c.requires.inside c.in-Err.ensures.exact
