-- Frames in ranges, and the ends of parts.
use Rattle.std.proofs.Common.{ℕ, List, [], ◌∷◌}
use Rattle.std.specs.List.{AllZip}
use Rattle.sstable_blocks.specs.Prelude.{Entry, entries, Handle, handles}
use Rattle.sst_parts.specs.Parts.{IsStoredPart}
use Rattle.sstable_blocks.specs.Blocks.{joined}
use Rattle.sstable_blocks.specs.Lookup.{IsEnd}
use Rattle.sstable_blocks.specs.RunReading.{Hashes}

module _ (c : Hashes) (bytes : List ℕ) where
  -- the handles of the parts have their last entries
  pub part_ends : (parts : List (List (List Entry))) (hs : List Handle) → AllZip (IsStoredPart c bytes) parts hs → AllZip (λ part h. IsEnd entries handles (joined part) h) parts hs
  part_ends [] [] stored = tt
  part_ends [] (h ∷ hs) stored = absurd stored
  part_ends (b ∷ bs) [] stored = absurd stored
  part_ends (b ∷ bs) (h ∷ hs) stored = (stored.0.end, part_ends bs hs stored.1)
