use Rattle.std.proofs.Common.{◌+◌, ◌-◌, ◌/◌, ◌<◌, length, sym, ◌∙◌, ap, arith}
use Rattle.sstable_blocks.specs.Prelude.{Entry}
use Rattle.sst_merge.specs.Movable.{is_sought}
use Rattle.sst_merge.proofs.Moving.SortedCounts.{more_passed, none_passed}
use Rattle.sst_merge.proofs.movable_list.count_passed.Goals as goal

pub loop-lo-preserved-then-passes : goal.loop-lo-preserved-then-passes
loop-lo-preserved-then-passes g c =
    let mid = c.loop-lo.lo + (c.loop-lo.hi - c.loop-lo.lo) / 2 in
    let inside : mid < length c.args.items.now = omega (arith, c.loop-lo-test.true, c.loop-lo.invariant.inside) in
    let more = more_passed g.T.AsEntry.entry c.args.items.now c.args.key.now c.args.at_most c.requires mid c.index-items-mid.result inside c.index-items-mid.is
    (ap (is_sought (λ (e : Entry). e.key.user_key) c.args.key.now c.args.at_most) (sym c.view.ensures) ∙ sym c.passes.ensures ∙ c.if-passes.true) in
    record { lo_under = omega (arith, more); hi_over = c.loop-lo.invariant.hi_over; inside = c.loop-lo.invariant.inside }

pub loop-lo-preserved : goal.loop-lo-preserved
loop-lo-preserved g c =
    let mid = c.loop-lo.lo + (c.loop-lo.hi - c.loop-lo.lo) / 2 in
    let inside : mid < length c.args.items.now = omega (arith, c.loop-lo-test.true, c.loop-lo.invariant.inside) in
    record {
      lo_under = c.loop-lo.invariant.lo_under;
      hi_over = none_passed g.T.AsEntry.entry c.args.items.now c.args.key.now c.args.at_most c.requires mid c.index-items-mid.result inside c.index-items-mid.is
          (ap (is_sought (λ (e : Entry). e.key.user_key) c.args.key.now c.args.at_most) (sym c.view.ensures) ∙ sym c.passes.ensures ∙ c.if-passes.false);
      inside = omega (arith, inside);
    }
