use Rattle.sst_parts.proofs.Reading.PartReads.{parted_read}
use Rattle.sst_parts.proofs.laws.parted_is_read.Goals as goal

pub returns : goal.returns
returns c = λ hs parts bytes h tops needle seqno sums s read. parted_read hs sums
    c.index_check_is_by_stages.ensures
    (λ r p items short is. c.index_block_is_read.ensures r p items short is)
    (λ key number ps ends zip ordered. c.first_match_is_in_one_part.ensures key number ps ends zip ordered)
    bytes needle seqno
    (λ blocks all places key number sound. c.sound_is_read.ensures hs blocks all places key number sums sound)
    parts h tops s read
