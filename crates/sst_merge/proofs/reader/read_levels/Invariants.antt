use Rattle.std.proofs.Common.{◌≡◌, ℕ, ◌<◌, List, map, take, drop, Some, None}
use Rattle.sstable_blocks.specs.Prelude.{CountsBetween, Entry, entries, first_match}
use Rattle.sst_merge.specs.Counts.{most_of}
use Rattle.sst_sources.specs.Picks.{list_at}
use Rattle.sst_sources.specs.Sources.{all_known}
use Rattle.sst_merge.proofs.reader.read_levels.Given as goal

abbrev pub invariant-loop-i : goal.invariant-loop-i
invariant-loop-i g l = record {
  kept : map g.R.Reader.list l.readers ≡ map g.R.Reader.list l.fn.readers;
  behind : drop l.i l.readers ≡ drop l.i l.fn.readers;
  counts : (mosts : List (ℕ × ℕ)) → all_known (map (λ r. g.R.Reader.most r l.needle l.seqno) l.fn.readers) ≡ Some mosts → CountsBetween l.fn.steps l.steps (0, 0) (most_of (take l.i mosts));
  missed : (lists : List (List Entry)) → all_known (map g.R.Reader.list l.fn.readers) ≡ Some lists → (k : ℕ) → k < l.i → first_match entries l.needle l.seqno (list_at lists k) ≡ None;
}
