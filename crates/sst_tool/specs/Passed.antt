-- Sources that pass on what another one gives.
use Rattle.std.specs.Prelude.{Option}
use Rattle.sstable_blocks.specs.Results.{Error}
use Rattle.sst_sources.specs.Sources.{Left, step_errors}

-- what is left of a source that passes on what another one has left, where this error ended it, if one did
abbrev pub passed_on : {X : Type 0} → Left X → Option Error → Left X
passed_on s ended = record { list = s.list; most = s.most; errors = step_errors s; ended = ended }
