-- Where a writer of a parted table that copies parts is: between parts, or in a part of blocks.
use Rattle.std.specs.Prelude.{ℕ, ◌≤◌, List, [], length, Option}
use Rattle.sst_parts.specs.PartCopies.{IsBetween, PartsSoFar}
use Rattle.sst_parts.specs.declared.copier.CopyState.{CopyState}
use Rattle.sst_parts.specs.declared.copier.CopyState.TheVariants.{Between, Open}

-- what contracts see of it
abbrev pub parts_of_state : {H W : Type 0} → CopyState H W → PartsSoFar W
parts_of_state (Between closed writer sizes) = record {
  config = closed.config;
  sizes = sizes;
  closed = closed.parts;
  current = [];
  start = closed.start;
  writer = writer;
}
parts_of_state (Open core) = core

-- between parts the writer holds what it did after the last one, and a part that is open has a block
abbrev pub IsCopyState : {H W : Type 0} → (W → Option (List ℕ)) → CopyState H W → Type 0
IsCopyState contents (Between closed writer sizes) = IsBetween closed (contents writer)
IsCopyState contents (Open core) = 1 ≤ length core.current
