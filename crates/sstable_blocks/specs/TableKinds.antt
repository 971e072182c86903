-- Kinds of tables, and tables that are being written.
use Rattle.std.specs.Prelude.{◌≡◌, ℕ, ◌≤◌, List, [], ◌∷◌, ◌++◌, length, Option}
use Rattle.sst_base.specs.Entry.{Entry}
use Rattle.sstable_blocks.specs.Run.{Form, RunFits}
use Rattle.sstable_blocks.specs.Writing.{AppendsLayout}
use Rattle.sstable_blocks.specs.declared.run.RunHandles.{RunHandles}

-- a kind of table: the restart interval of its blocks; which blocks fit one; and when a writer's known bytes grew by the
-- table of blocks, whose footer has these handles
pub record TableKind : Type 1 where
  pub interval : ℕ
  pub fits : List (List Entry) → Type 0
  pub appends : List (List Entry) → Option (List ℕ) → Option (List ℕ) → RunHandles → Type 0

-- runs
abbrev pub run_kind : Form → TableKind
run_kind f = record { interval = f.config.restart_interval; fits = RunFits f; appends = AppendsLayout f }

-- what contracts see of a table that is being written: how it is encoded, its blocks, and what its writer held before
-- them, if that is known
pub record SoFar (F : Type 0) : Type 0 where
  pub form : F
  pub blocks : List (List Entry)
  pub start : Option (List ℕ)

-- one block more was written, of at least one entry
pub record AddsBlock {F : Type 0} (old new : SoFar F) (block : List Entry) : Type 0 where
  pub form : new.form ≡ old.form
  pub start : new.start ≡ old.start
  pub blocks : new.blocks ≡ old.blocks ++ block ∷ []
  pub some : 1 ≤ length block
