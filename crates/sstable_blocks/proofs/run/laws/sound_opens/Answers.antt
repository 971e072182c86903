use Rattle.sstable_blocks.specs.OpeningLaws.{sound_opens}
use Rattle.sstable_blocks.proofs.run.laws.sound_opens.Goals as goal

pub returns : goal.returns
returns c = λ hs blocks bytes h sound. sound_opens hs bytes
    (λ p items r b short is. (c.data_block_is_read.ensures hs.hash64 p items r b short is).1)
    c.first_match_of_plain.ensures
    (λ r p items short is. (c.index_block_is_read.ensures r p items short is).1)
    blocks h sound
