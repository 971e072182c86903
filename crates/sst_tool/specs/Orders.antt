-- The order of what a source gives.
use Rattle.std.specs.Prelude.{◌≡◌, ◌⊎◌, List, Bool, true, Option, Some, None}
use Rattle.std.specs.Ordering.{is_le}
use Rattle.sstable_blocks.specs.Prelude.{Entry, Key, key_cmp}
use Rattle.sstable_blocks.specs.Results.{Error, BadHandle, Memory, OutOfOrder}
use Rattle.sst_tool.specs.declared.ordered.Direction.{Direction}
use Rattle.sst_tool.specs.declared.ordered.Direction.TheVariants.{Forward, Backward}

-- may an entry with a key follow one with the last key, if there is one?
abbrev pub may_follow : Direction → Option Key → Key → Bool
may_follow d None k = true
may_follow Forward (Some last) k = is_le (key_cmp last k)
may_follow Backward (Some last) k = is_le (key_cmp k last)

-- what is given, if something is, follows the last key, and its key is then the last
abbrev pub GivesInOrder : Direction → Option Key → Option Key → Option Entry → Type 0
GivesInOrder d last next None = next ≡ last
GivesInOrder d last next (Some e) = (may_follow d last e.key ≡ true) × (next ≡ Some e.key)

-- what does not follow is reported by one of these
abbrev pub IsMisplaced : Error → Type 0
IsMisplaced e = (e ≡ OutOfOrder) ⊎ (e ≡ BadHandle)

-- why a test of the order fails: an allocation did, or something does not follow
abbrev pub FailsInOrder : Error → Type 0
FailsInOrder e = (e ≡ Memory) ⊎ IsMisplaced e

-- the errors that any step of a source may give of which the order is tested
abbrev pub MayMisplace : (Error → Type 0) → Error → Type 0
MayMisplace may_fail e = may_fail e ⊎ IsMisplaced e
