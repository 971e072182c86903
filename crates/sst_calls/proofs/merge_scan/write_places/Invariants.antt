use Rattle.std.proofs.Common.{◌≡◌, ◌≤◌, ◌++◌, drop, length, vec_len}
use Rattle.sst_calls.proofs.merge_scan.write_places.Given as goal

abbrev pub invariant-loop-merged : goal.invariant-loop-merged
invariant-loop-merged l = record {
  same : l.listed.items ++ drop (length l.listed.items) l.places ≡ l.fn.listed.items ++ drop (length l.fn.listed.items) l.fn.places;
  room : length l.listed.items ≤ length l.places;
}

abbrev pub decreases-loop-merged : goal.decreases-loop-merged
decreases-loop-merged l = vec_len l.listed
