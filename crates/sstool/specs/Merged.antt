-- What a merge writes.
use Rattle.std.specs.Prelude.{ℕ, zero, suc, Bool, List, Option, None}
use Rattle.sstable_blocks.specs.Prelude.{Entry}
use Rattle.sstable_blocks.specs.Run.{Form}
use Rattle.sstable_blocks.specs.TableKinds.{TableKind, run_kind}
use Rattle.sst_parts.specs.PartKinds.{parted_kind}
use Rattle.sst_merge.specs.Compact.{compacted}
use Rattle.sst_sources.specs.Merge.{entry_cmp, merged}
use Rattle.sst_sources.specs.Sources.{Left, all_left, left_as}

-- the entries that stay of sources, the newest first: of their ordered merge those that a read at one of some sequence
-- numbers, or at or above all of them, can see, without the tombstones that all of these see where nothing is below; known
-- where all of the sources are
abbrev pub staying_of : List ℕ → Bool → List (Left Entry) → Option (List Entry)
staying_of snapshots bottom sources = (left_as (compacted (λ e. e) snapshots (λ _. bottom)) None (all_left (merged entry_cmp) None sources)).list

-- the tables that are written with parts of this many bytes of keys and values, or, with 0, without parts
abbrev pub kind_of : Form → ℕ → TableKind
kind_of f zero = run_kind f
kind_of f (suc n) = parted_kind f (record { blocks = 0; bytes = suc n })
