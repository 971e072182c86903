-- Reads of a run at its place in a source.
use Rattle.std.proofs.Common.{ℕ, List, inl, Option, Result}
use Rattle.sst_base.specs.declared.error.Error.{Error}
use Rattle.sstable_blocks.specs.RunPlaces.{AsksAll}
use Rattle.sstable_blocks.specs.Sources.{AsksExactly, AsksUpTo, UsesSource}
use Rattle.sstable_blocks.specs.declared.run.place.RunPlace.TheVariants.{Whole}

-- a read of a run that is the whole source asks for all of its frames
pub asks_whole : {S Y : Type 0} (bytes : S → Option (List ℕ)) (failures reads : S → ℕ) (is_reliable : S → Type 0) (n : ℕ) (old new : S) (r : Result Y Error)
    → UsesSource bytes failures reads is_reliable (AsksUpTo n) old new r → AsksAll Whole n r (reads old) (reads new) → UsesSource bytes failures reads is_reliable (AsksExactly n) old new r
asks_whole bytes failures reads is_reliable n old new r s all = record {
  same = s.same;
  failures_grow = s.failures_grow;
  kept = s.kept;
  io = s.io;
  asks = all (inl tt);
}
