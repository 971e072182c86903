use Rattle.sst_merge.proofs.Moving.SoundTables.{sound_known}
use Rattle.sst_merge.proofs.laws.sound_table_is_known.Goals as goal

pub returns : goal.returns
returns c = λ hs blocks bytes h index sums sound at. sound_known hs sums
    (c.data_check_is_by_stages.ensures hs.hash64)
    c.index_check_is_by_stages.ensures
    (λ p items r b short is. let k = c.data_block_is_read.ensures hs.hash64 p items r b short is in (k.0, k.1))
    (λ r p items short is. c.index_block_is_read.ensures r p items short is)
    c.first_match_of_plain.ensures
    bytes blocks h index sound at
