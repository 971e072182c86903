-- Table files: the blocks that `pack` cuts, and the bytes that it writes.
use Rattle.std.specs.Prelude.{◌≡◌, ℕ, ◌≤◌, List, [], ◌∷◌, ◌++◌, length, None, Option}
use Rattle.std.specs.Io.KnownBytes.{Appends}
use Rattle.sstable_blocks.specs.Prelude.{Entry, poly31}
use Rattle.sstable_blocks.specs.Results.{Error}
use Rattle.sstable_blocks.specs.Blocks.{joined}
use Rattle.sstable_blocks.specs.Run.{Form, form}
use Rattle.sstable_blocks.specs.Writing.{IsTable, IsWriteRefusal, TableFits, Writing}
use Rattle.sstable_blocks.specs.declared.run.RunConfig.{RunConfig}
use Rattle.sstable_blocks.specs.declared.run.RunHandles.{RunHandles}
use Rattle.sst_program.specs.declared.pack.Packed.{Packed}

-- blocks have n items each, but the last, which has 1 to n
abbrev pub HaveSize : {X : Type 0} → ℕ → List (List X) → Type 0
HaveSize n [] = Unit {0}
HaveSize n (block ∷ []) = (1 ≤ length block) × (length block ≤ n)
HaveSize n (block ∷ other ∷ blocks) = (length block ≡ n) × HaveSize n (other ∷ blocks)

-- a list, cut into blocks of n items, the last perhaps of fewer
pub record IsCutBy {X : Type 0} (n : ℕ) (items : List X) (blocks : List (List X)) : Type 0 where
  pub all : joined blocks ≡ items
  pub sizes : HaveSize n blocks

-- a run that has no block yet, and takes some
pub record IsFreshRun {W : Type 0} (run : Writing W) : Type 0 where
  pub blocks : run.blocks ≡ []
  pub accepting : run.refusal ≡ None

-- how `sst` writes a run
abbrev pub sst_form : RunConfig → Form
sst_form config = form (poly31 64) (poly31 128) config

-- entries of which a front, cut into blocks of n, is no table that fits
pub record IsTooLong (config : RunConfig) (n : ℕ) (items : List Entry) : Type 0 where
  pub blocks : List (List Entry)
  pub rest : List Entry
  pub all : joined blocks ++ rest ≡ items
  pub sizes : HaveSize n blocks
  pub long : TableFits (sst_form config) blocks → ⊥

-- why a table of entries in blocks of n is not written: the writer failed, it does not fit, or an allocation failed
abbrev pub IsWriteFault : RunConfig → ℕ → List Entry → Error → Type 0
IsWriteFault config n items = IsWriteRefusal (IsTooLong config n items)

-- the bytes of a table file that `sst` writes
abbrev pub IsPackedTable : RunConfig → List (List Entry) → List ℕ → Type 0
IsPackedTable config blocks bytes = (h : RunHandles) × IsTable (sst_form config) blocks h bytes

-- a writer's known bytes grew by the table of entries in blocks of n, and this is how much it is
pub record AppendsPacked (config : RunConfig) (n : ℕ) (items : List Entry) (old new : Option (List ℕ)) (p : Packed) : Type 0 where
  pub blocks : List (List Entry)
  pub bytes : List ℕ
  pub cut : IsCutBy n items blocks
  pub table : IsPackedTable config blocks bytes
  pub appended : Appends old new bytes
  pub block_count : p.blocks ≡ length blocks
  pub len : p.len ≡ length bytes

-- the table of entries in blocks of n, written with this configuration, has this many blocks and bytes
pub record IsPacked (config : RunConfig) (n : ℕ) (items : List Entry) (p : Packed) : Type 0 where
  pub blocks : List (List Entry)
  pub bytes : List ℕ
  pub cut : IsCutBy n items blocks
  pub table : IsPackedTable config blocks bytes
  pub block_count : p.blocks ≡ length blocks
  pub len : p.len ≡ length bytes
