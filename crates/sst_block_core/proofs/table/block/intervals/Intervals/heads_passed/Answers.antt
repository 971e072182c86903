use Rattle.std.proofs.Common.{◌≡◌, ◌*◌, ◌-◌, ◌<◌, ◌≤◌, length, subst, inl, inr, true, false, arith, rules}
use Rattle.std.proofs.lemmas.Bool.{cases_lt}
use Rattle.sst_block_core.specs.Window.{passes, count_passed}
use Rattle.sst_block_core.specs.Pointers.{head_count}
use Rattle.sst_block_core.specs.Intervals.{IntervalsParts}
use Rattle.sst_block_core.proofs.Heads.TablesAndLists.{passed_within, passed_low, passed_high, passed_start}
use Rattle.sst_block_core.proofs.Search.Cuts.{count_inside, passed_below, not_passed_above}
use Rattle.sst_block_core.proofs.Search.HeadAnswers.{times_upto}
use Rattle.sst_block_core.proofs.table.block.intervals.Intervals.heads_passed.Goals as goal

pub returns-in-None-clause-low : goal.returns-in-None-clause-low
returns-in-None-clause-low g c = λ h.
    let a = c.partition_point.ensures.before h in
    let good : passes c.args.bound.now.needle.now c.args.bound.now.from a.key.now (g.Item.BlockItem.kind.seqno a.item) ≡ true = search rules in
    passed_below g.Item.BlockItem.kind c.args.bound.now.needle.now c.args.bound.now.from c.args.self.now.list.items c.requires _ a.item a.there (rw a.is at good)

pub returns-in-None-clause-high : goal.returns-in-None-clause-high
returns-in-None-clause-high g c = elim (cases_lt c.partition_point.result c.count.result) [
  | inl less ↦
      let a = c.partition_point.ensures.after (omega (arith, less, c.count.ensures.value)) in
      let bad : passes c.args.bound.now.needle.now c.args.bound.now.from a.key.now (g.Item.BlockItem.kind.seqno a.item) ≡ false = search rules in
      not_passed_above g.Item.BlockItem.kind c.args.bound.now.needle.now c.args.bound.now.from c.args.self.now.list.items c.requires _ a.item a.there (rw a.is at bad)
  | inr past ↦
      let count = count_inside g.Item.BlockItem.kind c.args.bound.now.needle.now c.args.bound.now.from c.args.self.now.list.items c.requires in
      let up : c.count.result * c.args.self.now.list.interval ≤ c.partition_point.result * c.args.self.now.list.interval = times_upto _ _ _ past in
      omega (arith, count, up, c.count.ensures.all)
]

pub returns-in-Some-clause-within : goal.returns-in-Some-clause-within
returns-in-Some-clause-within g c =
    let kind = g.Item.BlockItem.kind in
    let n = c.count_heads.result in
    let needle = c.args.bound.now.needle.now in
    let from = c.args.bound.now.from in
    let tie = rw c.in-Some.is at c.self.invariant.1 in
    let ordered = rw (← c.self.view_is) at c.requires in
    let listed = c.self.invariant.0.listed in
    let P : IntervalsParts g.row.Item.Denot → Type 0 = λ i. n ≤ head_count i.list.interval (length i.list.items) in
    subst P c.self.view_is (passed_within kind _ listed.interval_some _ tie needle from ordered n c.count_heads.ensures.value)

pub returns-in-Some-clause-low : goal.returns-in-Some-clause-low
returns-in-Some-clause-low g c =
    let kind = g.Item.BlockItem.kind in
    let n = c.count_heads.result in
    let needle = c.args.bound.now.needle.now in
    let from = c.args.bound.now.from in
    let tie = rw c.in-Some.is at c.self.invariant.1 in
    let ordered = rw (← c.self.view_is) at c.requires in
    let listed = c.self.invariant.0.listed in
    let P : IntervalsParts g.row.Item.Denot → Type 0 = λ i. (n - 1) * i.list.interval < count_passed kind needle from i.list.items in
    λ h. subst P c.self.view_is (passed_low kind _ listed.interval_some _ tie needle from ordered n c.count_heads.ensures.value h)

pub returns-in-Some-clause-high : goal.returns-in-Some-clause-high
returns-in-Some-clause-high g c =
    let kind = g.Item.BlockItem.kind in
    let n = c.count_heads.result in
    let needle = c.args.bound.now.needle.now in
    let from = c.args.bound.now.from in
    let tie = rw c.in-Some.is at c.self.invariant.1 in
    let ordered = rw (← c.self.view_is) at c.requires in
    let listed = c.self.invariant.0.listed in
    let P : IntervalsParts g.row.Item.Denot → Type 0 = λ i. count_passed kind needle from i.list.items ≤ n * i.list.interval in
    subst P c.self.view_is (passed_high kind _ listed.interval_some _ tie needle from ordered n c.count_heads.ensures.value listed.some)

pub returns-in-Some-clause-start : goal.returns-in-Some-clause-start
returns-in-Some-clause-start g c =
    let kind = g.Item.BlockItem.kind in
    let n = c.count_heads.result in
    let needle = c.args.bound.now.needle.now in
    let from = c.args.bound.now.from in
    let tie = rw c.in-Some.is at c.self.invariant.1 in
    let ordered = rw (← c.self.view_is) at c.requires in
    let listed = c.self.invariant.0.listed in
    let P : IntervalsParts g.row.Item.Denot → Type 0 = λ i. (n - 1) * i.list.interval < length i.list.items in
    subst P c.self.view_is (passed_start kind _ listed.interval_some _ tie needle from ordered n c.count_heads.ensures.value listed.some)
