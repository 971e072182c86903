use Rattle.std.proofs.Common.{sym, ◌∙◌, not, eqb}
use Rattle.std.proofs.lemmas.Result.{err_from_is_err_and}
use Rattle.sstable_blocks.specs.BlockReading.{items_of}
use Rattle.sstable_blocks.specs.Ends.{ends}
use Rattle.sstable_blocks.specs.Tallies.{tally_of}
use Rattle.sstable_blocks.proofs.Scans.EndCounts.{pays_next}
use Rattle.sstable_blocks.proofs.Scans.EndSteps.{no_items, reached_next, reached_refused}
use Rattle.sstable_blocks.proofs.run.ends.turn.Goals as goal

pub open-preserved : goal.open-preserved
open-preserved g c =
    let near = items_of g.B.Ended.items c.open.near in
    let none = no_items near (sym c.has_item.ensures ∙ c.if-not-has_item.true) in
    let index = c.take_index-index.ensures in
    let t = tally_of g.B.Ended.tally in
    record {
      reached = reached_next g.S.Blocks.reading g.met.S.Blocks.laws (not (eqb g.row.BACK 0)) _ _ c.open.blocks (ends g.B.Ended.items c.open.near c.open.between c.args.far.now) c.open-in-open.new.self (items_of g.B.Ended.items c.open-in-open.new.block) _ c.take_index-index.result _ _
          index.index index.rest.0 index.rest.1 c.open.invariant.reached none c.open-test.true c.in_ok-open.ensures.opens;
      pays = pays_next g.S.Blocks.reading g.met.S.Blocks.laws (not (eqb g.row.BACK 0)) _ c.open.blocks c.open-in-open.new.self _ _ (t c.open.near) (t c.open-in-open.new.block) (t c.args.far.now) c.open.between.lo c.open.between.hi c.take_index-index.result _ _
          index.index index.rest.0 index.rest.1 c.open-test.true c.open.invariant.reached.goes c.open.invariant.pays c.in_ok-open.ensures.counts;
    }

pub returns-in_err-open-clause-ready : goal.returns-in_err-open-clause-ready
returns-in_err-open-clause-ready g c =
    let near = items_of g.B.Ended.items c.open.near in
    let none = no_items near (sym c.has_item.ensures ∙ c.if-not-has_item.true) in
    let e = err_from_is_err_and c.from_residual.result c.from_residual.ensures.1 in
    rw (e.1, e.2) (reached_refused g.S.Blocks.reading g.met.S.Blocks.laws (not (eqb g.row.BACK 0)) _ _ c.open.blocks (ends g.B.Ended.items c.open.near c.open.between c.args.far.now) c.open-in-open.new.self (items_of g.B.Ended.items c.open-in-open.new.block) _ c.take_index-index.result _ _
    c.take_index-index.ensures.index c.take_index-index.ensures.rest.0 c.take_index-index.ensures.rest.1 c.open.invariant.reached none c.open-test.true c.in_err-open.ensures.opens)

pub returns-in_err-open-clause-counts : goal.returns-in_err-open-clause-counts
returns-in_err-open-clause-counts g c =
    let index = c.take_index-index.ensures in
    let t = tally_of g.B.Ended.tally in
    pays_next g.S.Blocks.reading g.met.S.Blocks.laws (not (eqb g.row.BACK 0)) _ c.open.blocks c.open-in-open.new.self _ _ (t c.open.near) (t c.open-in-open.new.block) (t c.args.far.now) c.open.between.lo c.open.between.hi c.take_index-index.result _ _
    index.index index.rest.0 index.rest.1 c.open-test.true c.open.invariant.reached.goes c.open.invariant.pays c.in_err-open.ensures.counts
