use Rattle.sst_parts.proofs.Checks.PartFinds.{found_part}
use Rattle.sst_parts.proofs.laws.parted_is_found.Goals as goal

pub returns : goal.returns
returns c = λ hs parts bytes top tops needle seqno sums parted read. found_part hs sums
    c.index_check_is_by_stages.ensures
    (λ r p items short is. c.index_block_is_read.ensures r p items short is)
    bytes
    (λ key number ps ends zip ordered. c.first_match_is_in_one_part.ensures key number ps ends zip ordered)
    parts top tops needle seqno parted read
