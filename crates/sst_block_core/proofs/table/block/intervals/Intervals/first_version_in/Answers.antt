use Rattle.std.proofs.Common.{◌∙◌, Some, sym, ap, subst, drop}
use Rattle.sst_block_core.specs.Scan.{Listed}
use Rattle.sst_block_core.specs.Window.{passes}
use Rattle.sst_block_core.specs.Intervals.{IsEntered}
use Rattle.sst_block_core.proofs.Search.Scans.{enters, candidate_match}
use Rattle.sst_block_core.proofs.Search.FirstMatches.{first_of_these, none_of_these, kept_if}
use Rattle.sst_block_core.proofs.Search.Versions.{version_found_in}
use Rattle.sst_block_core.proofs.table.block.intervals.Intervals.first_version_in.Goals as goal

pub returns-then-not-passes-clause-item : goal.returns-then-not-passes-clause-item
returns-then-not-passes-clause-item g c =
    let e = c.enter-head.ensures in
    let kind = g.Item.BlockItem.kind in
    let items = c.args.self.now.list.items in
    let key = (rw e.list at c.own_key.ensures) ∙ ap (λ n. drop n (kind.key (g.Parsed.ParsedItem.item_of c.args.self.now.list.payload c.enter-head.result.1))) e.shared in
    let says = c.passes.ensures ∙ (λ i. passes c.args.needle.now (Some c.args.seqno) (key i) (c.seqno.ensures c.args.self.now.list.payload i)) in
    let kept = rw e.list at c.with_key.ensures in
    let stopped = sym says ∙ c.if-not-passes.true in
    kept_if (g.Parsed.ParsedItem.item_of c.args.self.now.list.payload) c.enter-head.result.1 _ _ c.with_key.result
    (first_of_these kind c.args.needle.now c.args.seqno items c.requires.ordered _ _ c.requires.alone _ e.item.there stopped)
    (none_of_these kind c.args.needle.now c.args.seqno items c.requires.ordered _ _ c.requires.alone _ e.item.there stopped) kept

pub scan_interval-candidate-requires-clause-entered : goal.scan_interval-candidate-requires-clause-entered
scan_interval-candidate-requires-clause-entered g c =
    let e = c.enter-head.ensures in
    let kind = g.Item.BlockItem.kind in
    let items = c.args.self.now.list.items in
    let key = (rw e.list at c.own_key.ensures) ∙ ap (λ n. drop n (kind.key (g.Parsed.ParsedItem.item_of c.args.self.now.list.payload c.enter-head.result.1))) e.shared in
    let says = c.passes.ensures ∙ (λ i. passes c.args.needle.now (Some c.args.seqno) (key i) (c.seqno.ensures c.args.self.now.list.payload i)) in
    let list = c.args.self.now.list in
    let P : Listed g.row.Item.Denot → Type 0 = λ l. IsEntered kind c.args.needle.now (Some c.args.seqno) l c.enter-head.result.0 c.enter-head.result.2 c.interval_end-end.result in
    subst P (sym e.list) (enters kind c.args.needle.now (Some c.args.seqno) list c.requires.ordered c.args.j c.requires.inside _ e.item.there c.enter-head.result.0 c.enter-head.result.2 c.interval_end-end.result
    c.interval_end-end.ensures.listed.interval_some (sym says ∙ c.if-not-passes.false) e.place e.is_place e.alike c.interval_end-end.ensures.value)

pub returns-clause-item : goal.returns-clause-item
returns-clause-item g c =
    let e = c.enter-head.ensures in
    let found = candidate_match g.Parsed.ParsedItem.item_of g.Parsed.ParsedItem.is_found g.Item.BlockItem.kind c.args.needle.now c.args.self.now.list c.scan_interval-candidate.result.0.index c.interval_end-end.result
    c.scan_interval-candidate.result.1 c.with_needle.result c.with_needle.ensures (rw e.list at c.scan_interval-candidate.ensures.candidate) in
    version_found_in g.Parsed.ParsedItem.item_of g.Parsed.ParsedItem.is_found g.Item.BlockItem.kind c.args.needle.now c.args.seqno c.args.self.now.list c.requires.ordered c.scan_interval-candidate.result.0.index
    c.with_needle.result c.args.j c.interval_end-end.result c.interval_end-end.ensures.value (rw e.list at c.scan_interval-candidate.ensures.place) c.requires.alone found
