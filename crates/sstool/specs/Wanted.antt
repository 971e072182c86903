-- The entries that a scan prints.
use Rattle.std.specs.Prelude.{ℕ, Option, Some, None}
use Rattle.sstable_blocks.specs.Prelude.{Entry}
use Rattle.sst_merge.specs.Snapshot.{snapshot}
use Rattle.sst_sources.specs.Sources.{Left, left_as}
use Rattle.sst_tool.specs.Limits.{limited}
use Rattle.sst_tool.specs.declared.ordered.Direction.{Direction}
use Rattle.sst_tool.specs.declared.ordered.Direction.TheVariants.{Forward, Backward}
use Rattle.sstool.specs.declared.scan.Wanted.{Wanted}

-- what is left of a source of which only what a read sees is given: from the back nothing is known of it
abbrev pub seen_of : Option ℕ → Direction → Left Entry → Left Entry
seen_of None d s = s
seen_of (Some at) Forward s = left_as (snapshot (λ e. e) at) None s
seen_of (Some at) Backward s = record { list = None; most = s.most; errors = None; ended = None }

-- what is left to print of a source whose entries come in the wanted order
abbrev pub wanted_of : Wanted → Left Entry → Left Entry
wanted_of w s = limited w.limit (seen_of w.at w.direction s)
