use Rattle.std.proofs.Common.{arith, subst, sym, refl, false}
use Rattle.std.specs.Bool.{IsTrue}
use Rattle.std.proofs.lemmas.List.{drop_all}
use Rattle.sstable_blocks.specs.Blocks.{CutsFit}
use Rattle.sstable_blocks.proofs.Layouts.CutLoops.{next_fit, before_fit}
use Rattle.sstable_blocks.proofs.run.write.cuts_fit.Goals as goal

pub returns-then-cut-start : goal.returns-then-cut-start
returns-then-cut-start c = (
  (λ (e : IsTrue false). cc),
  (λ fit. absurd (let n = next_fit _ _ c.loop-cut.cut-index c.args.cuts.now c.loop-cut-test.true (c.loop-cut.invariant.0 fit) in omega arith)),
)

pub loop-cut-preserved : goal.loop-cut-preserved
loop-cut-preserved c = (
  (λ fit. (next_fit _ _ c.loop-cut.cut-index c.args.cuts.now c.loop-cut-test.true (c.loop-cut.invariant.0 fit)).2),
  (λ fit. c.loop-cut.invariant.1 (before_fit _ _ c.loop-cut.cut-index c.args.cuts.now c.loop-cut-test.true (omega arith) (omega arith) fit)),
)

pub returns : goal.returns
returns c =
    let none = drop_all c.loop-cut.cut-index c.args.cuts.now c.loop-cut-test.false in (
      (λ e. c.loop-cut.invariant.1 (subst (CutsFit c.loop-cut.start c.args.len) (sym none) tt)),
      (λ fit. refl),
    )
