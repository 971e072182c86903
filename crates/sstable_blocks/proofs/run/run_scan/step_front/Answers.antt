use Rattle.std.proofs.Common.{length, subst, sym, ◌≤◌}
use Rattle.sstable_blocks.specs.Opened.{index_in}
use Rattle.sstable_blocks.specs.Scans.{left_in, run_interval}
use Rattle.sstable_blocks.specs.Sound.{RunParts}
use Rattle.sstable_blocks.proofs.Scans.EndCounts.{counts_front}
use Rattle.sstable_blocks.proofs.Scans.EndReads.{gave_first, run_front}
use Rattle.sstable_blocks.proofs.run.run_scan.step_front.Goals as goal

pub returns-clause-first : goal.returns-clause-first
returns-clause-first g c =
    let cut = c.args.cut.now in
    let hs = index_in cut.run.bytes cut.run.handles.index in
    let n = c.step_front.new in
    let inside = subst (λ (run : RunParts). n.between.hi ≤ length (index_in run.bytes run.handles.index)) c.step_front.ensures.taken.goes.run c.step_front.ensures.taken.ends.inside in
    gave_first _ _ c.without_error.result
    (rw (sym (run_front cut.run.bytes cut.range hs (left_in c.args.front.now) (left_in c.args.back.now) c.args.middle.now.lo c.args.middle.now.hi c.requires.inside), sym (run_front cut.run.bytes cut.range hs (left_in n.near) (left_in n.far) n.between.lo n.between.hi inside))
    (rw c.without_error.ensures at c.step_front.ensures.taken.exact))

pub returns-clause-looked : goal.returns-clause-looked
returns-clause-looked g c = let p = rw c.without_error.ensures at c.step_front.ensures.counts in p.pays.adds

pub returns-clause-counts : goal.returns-clause-counts
returns-clause-counts g c =
    let cut = c.args.cut.now in
    let hs = index_in cut.run.bytes cut.run.handles.index in
    let n = c.step_front.new in
    let inside = subst (λ (run : RunParts). n.between.hi ≤ length (index_in run.bytes run.handles.index)) c.step_front.ensures.taken.goes.run c.step_front.ensures.taken.ends.inside in
    let p = rw c.without_error.ensures at c.step_front.ensures.counts in
    counts_front cut.run.bytes (run_interval cut.run) hs _ _ c.args.middle.now.lo c.args.middle.now.hi n.between.lo n.between.hi _ c.requires.inside inside p.pays.paid p.once
