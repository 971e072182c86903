-- Tables that a compaction wrote.
use Rattle.std.specs.Prelude.{◌≡◌, ◌⊎◌, ℕ, List, [], ◌∷◌, ◌++◌, map, take, drop, Option, IfSome}
use Rattle.std.specs.List.{AllByRecursion, AllZip}
use Rattle.std.specs.Option.{option_map}
use Rattle.sstable_blocks.specs.Prelude.{Entry}
use Rattle.sstable_blocks.specs.Results.{Error, Io, OutOfOrder, TooLong}
use Rattle.sstable_blocks.specs.Blocks.{joined}
use Rattle.sstable_blocks.specs.declared.run.RunHandles.{RunHandles}
use Rattle.sst_sources.specs.Sources.{IsTaken}
use Rattle.sstable_blocks.specs.TableKinds.{TableKind}
use Rattle.sst_merge.specs.Tables.{IsApart, IsFilled, IsOutOfOrder, IsShortest, IsTooLong, Reaches, blocks_len}
use Rattle.sst_merge.specs.declared.writing.Sizes.{Sizes}

-- a table: its handles, and its bytes where they are known
pub record Output : Type 0 where
  pub handles : RunHandles
  pub bytes : Option (List ℕ)

-- after what its writer held at first, its bytes are the table of these blocks
abbrev pub IsOutputOf : TableKind → Option (List ℕ) → Output → List (List Entry) → Type 0
IsOutputOf t start output blocks = t.appends blocks start output.bytes output.handles

-- the entries of runs, one run after the other
abbrev pub entries_of : List (List (List Entry)) → List Entry
entries_of runs = joined (map joined runs)

-- each block of a table ends with the entry with which it reaches its size, and the table with the first block with
-- which it reaches its own and after which another user key comes; both may be smaller only where nothing comes after
pub record IsSized (r : ℕ) (sizes : Sizes) (after : Option (List Entry)) (blocks : List (List Entry)) : Type 0 where
  pub filled : AllByRecursion (IsFilled r sizes.block after) blocks
  pub reaches : Reaches sizes.table (blocks_len r blocks) after
  pub shortest : IfSome after (λ _. IsShortest r sizes.table blocks)

-- so does each of some tables, after each of which come the entries of the later ones, and others
abbrev pub AreSized : ℕ → Sizes → Option (List Entry) → List (List (List Entry)) → Type 0
AreSized r sizes after [] = Unit {0}
AreSized r sizes after (blocks ∷ runs) = IsSized r sizes (option_map (λ rest. entries_of runs ++ rest) after) blocks × AreSized r sizes after runs

-- tables were added, whose entries, one table after the other, were taken from a list; each ends only before another
-- user key, and is cut by these sizes
pub record AreWritten (t : TableKind) (sizes : Sizes) (start : Option (List ℕ)) (before after : Option (List Entry)) (old new : List Output) : Type 0 where
  pub outputs : List Output
  pub runs : List (List (List Entry))
  pub grown : new ≡ old ++ outputs
  pub each : AllZip (IsOutputOf t start) outputs runs
  pub taken : IsTaken before (entries_of runs) after
  pub apart : IfSome after (λ rest. (n : ℕ) → IsApart (entries_of (take n runs)) (entries_of (drop n runs) ++ rest))
  pub sized : AreSized t.interval sizes after runs

-- what is left of a list after some of its entries begins with blocks that do not fit a table
pub record IsTooLongLater (t : TableKind) (size : ℕ) (given : Option (List Entry)) : Type 0 where
  pub passed : List Entry
  pub left : Option (List Entry)
  pub taken : IsTaken given passed left
  pub long : IsTooLong t size left

-- some writer may fail
abbrev pub MayFail : {W : Type 0} → (W → Type 0) → Type 0
MayFail {W} never_fails = (w : W) × (never_fails w → ⊥)

-- why the entries of a list are not all written: what tables are written into fails, blocks do not fit a table, or the entries
-- are not in order
abbrev pub MayNotWriteAll : (Error → Type 0) → Type 0 → TableKind → ℕ → Option (List Entry) → Error → Type 0
MayNotWriteAll outputs_fail writer_fails t size given e = (outputs_fail e ⊎ ((e ≡ Io) × writer_fails)) ⊎ (((e ≡ TooLong) × IsTooLongLater t size given) ⊎ ((e ≡ OutOfOrder) × IsOutOfOrder given))
