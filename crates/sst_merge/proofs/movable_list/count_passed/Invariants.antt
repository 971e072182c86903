use Rattle.std.proofs.Common.{◌-◌, ◌≤◌, length, map}
use Rattle.std.specs.List.{count_by}
use Rattle.sstable_blocks.specs.Prelude.{Entry}
use Rattle.sst_merge.specs.Movable.{is_sought}
use Rattle.sst_merge.proofs.movable_list.count_passed.Given as goal

abbrev pub invariant-loop-lo : goal.invariant-loop-lo
invariant-loop-lo g l = record {
  lo_under : l.lo ≤ count_by (is_sought (λ (e : Entry). e.key.user_key) l.key l.at_most) (map g.T.AsEntry.entry l.items);
  hi_over : count_by (is_sought (λ (e : Entry). e.key.user_key) l.key l.at_most) (map g.T.AsEntry.entry l.items) ≤ l.hi;
  inside : l.hi ≤ length l.items;
}

abbrev pub decreases-loop-lo : goal.decreases-loop-lo
decreases-loop-lo g l = l.hi - l.lo
