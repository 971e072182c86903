use Rattle.std.proofs.Common.{◌≡◌, ◌++◌, ◌≤◌, ◌-◌, ℕ, List, Some, length}
use Rattle.sst_base.proofs.slice.Slice.from_reader.Given as goal

abbrev pub invariant-loop-bytes : goal.invariant-loop-bytes
invariant-loop-bytes g l = record {
  room : length l.bytes.items ≤ l.len;
  so_far : (bytes : List ℕ) → g.R.Read.remaining l.fn.reader ≡ Some bytes → (rest : List ℕ) × (g.R.Read.remaining l.reader ≡ Some rest) × (bytes ≡ l.bytes.items ++ rest);
  kept : g.R.Input.is_memory l.fn.reader → g.R.Input.is_memory l.reader;
  whole : g.R.Input.whole l.reader ≡ g.R.Input.whole l.fn.reader;
}

abbrev pub decreases-loop-bytes : goal.decreases-loop-bytes
decreases-loop-bytes g l = l.len - length l.bytes.items
