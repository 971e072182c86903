use Rattle.sst_parts.proofs.Checks.PartFinds.{index_is_read}
use Rattle.sst_parts.proofs.laws.parted_index_is_read.Goals as goal

pub returns : goal.returns
returns c = λ hs parts bytes top sums parted. index_is_read hs sums c.index_check_is_by_stages.ensures (λ r p items short is. c.index_block_is_read.ensures r p items short is) bytes parts top parted
