use Rattle.sst_base.specs.BytesLaws.{IsBytes-take, IsBytes-drop}
use Rattle.sst_base.specs.HeaderLaws.{header_at_takes}
use Rattle.sst_base.proofs.laws.header_was_written.Goals as goal
use Rattle.std.proofs.Common.{drop}

pub returns : goal.returns
returns c hash128 bytes h rest small = header_at_takes hash128 bytes h rest (IsBytes-take 28 (drop 5 bytes) (IsBytes-drop 5 bytes small))
