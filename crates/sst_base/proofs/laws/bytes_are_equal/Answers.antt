use Rattle.std.specs.Cmp.Lexicographic.{bytes_decides}
use Rattle.sst_base.proofs.laws.bytes_are_equal.Goals as goal

pub returns : goal.returns
returns c = bytes_decides
