use Rattle.std.proofs.Common.{◌≡◌, ◌+◌, ◌-◌, ◌≤◌, drop, length, map}
use Rattle.sst_merge.specs.Movable.{changed_until, is_below, seek_to}
use Rattle.sst_merge.specs.Moved.{but_reads, sought}
use Rattle.sst_merge.proofs.Moving.MovedLaws.{all_reads, most_of, once}
use Rattle.sst_merge.proofs.movable.seek_all.Given as goal

abbrev pub invariant-loop-i : goal.invariant-loop-i
invariant-loop-i g l = record {
  inside : l.i ≤ length l.sources.items;
  size : length l.sources.items ≡ length l.initial.sources.items;
  moved : map (λ s. but_reads (g.I.Movable.moved s)) l.sources.items ≡ changed_until (sought (seek_to (is_below g.T.Keyed.key l.key))) l.i (map (λ s. but_reads (g.I.Movable.moved s)) l.initial.sources.items);
  grows : all_reads g.I.Movable.moved once l.initial.sources.items ≤ all_reads g.I.Movable.moved once l.sources.items;
  most : all_reads g.I.Movable.moved once l.sources.items + most_of g.I.Movable.moved once (drop l.i l.initial.sources.items)
      ≤ all_reads g.I.Movable.moved once l.initial.sources.items + most_of g.I.Movable.moved once l.initial.sources.items;
}

abbrev pub decreases-loop-i : goal.decreases-loop-i
decreases-loop-i g l = length l.initial.sources.items - l.i
