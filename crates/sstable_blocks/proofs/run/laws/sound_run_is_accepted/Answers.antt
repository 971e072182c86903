use Rattle.sstable_blocks.proofs.Checks.RunCheckLaws.{sound_is_accepted}
use Rattle.sstable_blocks.proofs.run.laws.sound_run_is_accepted.Goals as goal

pub returns : goal.returns
returns c = λ hs blocks bytes h sums sound. sound_is_accepted hs sums
    (c.data_check_is_by_stages.ensures hs.hash64)
    c.index_check_is_by_stages.ensures
    (λ p items r b small is. let k = c.data_block_is_read.ensures hs.hash64 p items r b small is in (k.0, k.1))
    (λ r p items small is. c.index_block_is_read.ensures r p items small is)
    bytes blocks h sound
