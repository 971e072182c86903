use Rattle.std.proofs.Common.{◌≡◌, ℕ, ◌<◌, ◌≤◌, List, length, map, drop, get_or, Some}
use Rattle.sstable_blocks.specs.Prelude.{CountsBetween, Entry, entries, first_match}
use Rattle.sst_merge.specs.Counts.{most_of}
use Rattle.sst_sources.specs.Merge.{entry_cmp, least_match}
use Rattle.sst_sources.specs.Sources.{all_known}
use Rattle.sst_merge.proofs.reader.read_tables.Given as goal

abbrev pub invariant-loop-i : goal.invariant-loop-i
invariant-loop-i g l = record {
  inside : l.i ≤ length l.readers;
  kept : map g.R.Reader.list l.readers ≡ map g.R.Reader.list l.fn.readers;
  same : (k : ℕ) (d : g.row.R.Denot) → k < l.i → get_or l.readers k d ≡ get_or l.fn.readers k d;
  counts : (mosts : List (ℕ × ℕ)) → all_known (map (λ r. g.R.Reader.most r l.needle l.seqno) l.fn.readers) ≡ Some mosts → CountsBetween l.fn.steps l.steps (0, 0) (most_of (drop l.i mosts));
  found : (lists : List (List Entry)) → all_known (map g.R.Reader.list l.fn.readers) ≡ Some lists → l.best ≡ least_match entry_cmp (map (first_match entries l.needle l.seqno) (drop l.i lists));
}

abbrev pub decreases-loop-i : goal.decreases-loop-i
decreases-loop-i g l = l.i
