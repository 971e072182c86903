use Rattle.sstable_blocks.specs.SearchLaws.{first_match-joined}
use Rattle.sstable_blocks.proofs.run.laws.first_match_is_in_one_block.Goals as goal

pub returns : goal.returns
returns g c = λ needle seqno blocks ends zip ordered. first_match-joined g.T.BlockItem.kind needle seqno g.E.BlockItem.kind blocks ends zip ordered
