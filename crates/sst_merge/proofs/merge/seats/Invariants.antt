use Rattle.std.proofs.Common.{◌≡◌, ◌+◌, ◌-◌, ◌<◌, ◌≤◌, ℕ, length, slice_index}
use Rattle.sst_merge.proofs.merge.seats.Given as goal

abbrev pub invariant-loop-source : goal.invariant-loop-source
invariant-loop-source l = record {
  inside : l.source ≤ l.count;
  size : length l.places.items ≡ l.count + l.source;
  first : (k : ℕ) → k < l.count → slice_index l.places.items k ≡ 0;
  last : (i : ℕ) → i < l.source → slice_index l.places.items (l.count + i) ≡ i;
}

abbrev pub decreases-loop-source : goal.decreases-loop-source
decreases-loop-source l = l.count - l.source
