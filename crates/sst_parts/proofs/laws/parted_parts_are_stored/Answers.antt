use Rattle.sst_parts.proofs.Reading.CopiedTables.{parts_stored}
use Rattle.sst_parts.proofs.laws.parted_parts_are_stored.Goals as goal

pub returns : goal.returns
returns c = λ hs parts bytes top tops sums parted read. parts_stored hs sums
    c.index_check_is_by_stages.ensures
    (λ r p items short is. c.index_block_is_read.ensures r p items short is)
    parts bytes top tops parted read
