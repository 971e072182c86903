use Rattle.sst_parts.proofs.Reading.PartReads.{file_opens}
use Rattle.sst_parts.proofs.laws.parted_file_opens.Goals as goal

pub returns : goal.returns
returns c = λ h parts bytes top sums file. file_opens h sums c.index_check_is_by_stages.ensures (λ r p items short is. c.index_block_is_read.ensures r p items short is) bytes parts top file
