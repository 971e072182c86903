-- Parted tables as a kind of table.
use Rattle.std.specs.Prelude.{◌≡◌, ℕ, ◌≤◌, List, [], ◌∷◌, ◌++◌, length, Option}
use Rattle.std.specs.List.{AllByRecursion}
use Rattle.sstable_blocks.specs.Prelude.{HandleParts, Entry}
use Rattle.sstable_blocks.specs.Blocks.{joined}
use Rattle.sstable_blocks.specs.Run.{Form, RunFits}
use Rattle.sstable_blocks.specs.TableKinds.{TableKind}
use Rattle.sstable_blocks.specs.declared.run.RunHandles.{RunHandles}
use Rattle.sst_parts.specs.PartWriting.{AppendsOpen, AreCut, PartEnds, TopFits, top_handles}
use Rattle.sst_parts.specs.declared.writer.PartSizes.{PartSizes}

-- blocks are those of parts that are closed and of a last one, cut by their sizes
pub record IsCutInto (sizes : PartSizes) (blocks : List (List Entry)) (closed : List (List (List Entry))) (last : List (List Entry)) : Type 0 where
  pub whole : blocks ≡ joined closed ++ last
  pub some : 1 ≤ length last
  pub cut : AreCut sizes closed last

-- parts fit a table: the run of each, its table file after those before, and the index of all
pub record PartedFits (f : Form) (parts : List (List (List Entry))) : Type 0 where
  pub runs : AllByRecursion (RunFits f) parts
  pub files : (front rest : List (List (List Entry))) (part : List (List Entry)) → parts ≡ front ++ part ∷ rest → PartEnds f front part
  pub top : TopFits f parts

-- a writer's known bytes grew by the parts of blocks, cut by their sizes, and the index of the parts, which these handles
-- name for the footer
pub record AppendsCut (f : Form) (sizes : PartSizes) (blocks : List (List Entry)) (old new : Option (List ℕ)) (handles : RunHandles) : Type 0 where
  pub closed : List (List (List Entry))
  pub last : List (List Entry)
  pub cut : IsCutInto sizes blocks closed last
  pub top : HandleParts
  pub handles_are : handles ≡ top_handles top
  pub appended : AppendsOpen f (closed ++ last ∷ []) old new top

-- parted tables
abbrev pub parted_kind : Form → PartSizes → TableKind
parted_kind f sizes = record {
  interval = f.config.restart_interval;
  fits = λ blocks. (closed : List (List (List Entry))) (last : List (List Entry)) → IsCutInto sizes blocks closed last → PartedFits f (closed ++ last ∷ []);
  appends = AppendsCut f sizes;
}
