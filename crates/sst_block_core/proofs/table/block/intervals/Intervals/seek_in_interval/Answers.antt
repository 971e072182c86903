use Rattle.std.proofs.Common.{sym, subst}
use Rattle.sst_block_core.specs.Scan.{Listed}
use Rattle.sst_block_core.specs.Intervals.{IsEntered}
use Rattle.sst_block_core.proofs.Search.Scans.{head_passes, enters}
use Rattle.sst_block_core.proofs.table.block.intervals.Intervals.seek_in_interval.Goals as goal

pub scan_interval-requires-clause-entered : goal.scan_interval-requires-clause-entered
scan_interval-requires-clause-entered g c =
    let e = c.enter-alike.ensures in
    let kind = g.Item.BlockItem.kind in
    let needle = c.args.bound.now.needle.now in
    let from = c.args.bound.now.from in
    let list = c.args.self.now.list in
    let P : Listed g.row.Item.Denot → Type 0 = λ l. IsEntered kind needle from l c.enter-alike.result.0 c.enter-alike.result.2 c.interval_end-end.result in
    subst P (sym e.list) (enters kind needle from list c.requires.ordered c.args.j c.requires.inside _ e.item.there c.enter-alike.result.0 c.enter-alike.result.2 c.interval_end-end.result
    c.interval_end-end.ensures.listed.interval_some (head_passes kind needle from list c.requires.ordered c.args.j c.requires.inside _ e.item.there c.requires.passed) e.place e.is_place e.alike c.interval_end-end.ensures.value)
