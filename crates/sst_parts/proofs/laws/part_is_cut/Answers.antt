use Rattle.sst_parts.proofs.Writing.Files.{part_cut}
use Rattle.sst_parts.proofs.laws.part_is_cut.Goals as goal

pub returns : goal.returns
returns c = λ hs bytes part h stored. part_cut hs bytes part h stored
