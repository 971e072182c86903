-- The first items of a source.
use Rattle.std.specs.Prelude.{ℕ, take}
use Rattle.std.specs.Option.{option_map}
use Rattle.sstable_blocks.specs.Prelude.{Entry}
use Rattle.sst_sources.specs.Sources.{Left}

-- what is left of a source of which so many items are taken at most
abbrev pub limited : ℕ → Left Entry → Left Entry
limited n s = record { list = option_map (take n) s.list; most = s.most; errors = s.errors; ended = s.ended }
