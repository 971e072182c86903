use Rattle.std.proofs.Common.{◌∙◌, arith}
use Rattle.std.proofs.lemmas.Option.{slice_get_within}
use Rattle.sst_block_core.proofs.Search.Cuts.{count_inside}
use Rattle.sst_block_core.proofs.Search.Scans.{stop_place, candidate_found}
use Rattle.sst_block_core.proofs.table.block.intervals.Intervals.seek_key.Goals.{then-at-interval_end-via-then-at-interval_end, then-at-interval_end-via-else-at-interval_end+then-at-item_count}
use Rattle.sst_block_core.proofs.table.block.intervals.Intervals.seek_key.Goals as goal

pub returns-then-at-interval_end-clause-place : goal.returns-then-at-interval_end-clause-place
returns-then-at-interval_end-clause-place g c =
    let high = c.heads_passed-heads.ensures.high in
    let inside = count_inside g.Item.BlockItem.kind c.args.bound.now.needle.now c.args.bound.now.from c.args.self.now.list.items c.requires in
    let p = rw c.heads_passed-heads.ensures.list at c.seek_in_interval-candidate.ensures.place in
    stop_place _ _ c.heads_passed-heads.result _ _ c.if-heads-gt0.true p high inside

pub returns-then-at-interval_end-clause-item : goal.returns-then-at-interval_end-clause-item
returns-then-at-interval_end-clause-item g c =
    let items = c.args.self.now.list.items in
    let same = c.seek_in_interval-candidate.ensures.list ∙ c.heads_passed-heads.ensures.list in
    let value = rw same at c.interval_end.ensures.value in
    let candidate = rw c.heads_passed-heads.ensures.list at c.seek_in_interval-candidate.ensures.candidate in
    candidate_found g.Parsed.ParsedItem.item_of g.Parsed.ParsedItem.is_found g.Item.BlockItem.kind c.args.bound.now.needle.now c.args.self.now.list c.seek_in_interval-candidate.result.0.index _
    c.seek_in_interval-candidate.result.1 c.with_needle.result c.with_needle.ensures candidate (λ x at. elim c.then-at-interval_end.branch [
      | then-at-interval_end-via-then-at-interval_end w ↦ let less = w.if-at-interval_end.true in omega (arith, less, value)
      | then-at-interval_end-via-else-at-interval_end+then-at-item_count w ↦
          let within = slice_get_within items c.seek_in_interval-candidate.result.0.index x at in
          let past = w.if-at-item_count.true in
          let n = rw same at w.item_count.ensures.value in
          absurd (omega (arith, within, past, n))
    ])
