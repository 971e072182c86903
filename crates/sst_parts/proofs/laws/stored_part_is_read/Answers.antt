use Rattle.sst_parts.proofs.Scanning.PartedScans.{part_bytes}
use Rattle.sst_parts.proofs.laws.stored_part_is_read.Goals as goal

pub returns : goal.returns
returns c = λ hs bytes part h sums stored. part_bytes hs sums
    c.index_check_is_by_stages.ensures
    (λ q p items short is. c.index_block_is_read.ensures q p items short is)
    (λ blocks file places sound. c.sound_run_is_read.ensures hs blocks file places sums sound)
    (λ blocks file places keys ks sound read. c.sound_is_scanned.ensures hs blocks file places keys ks sums sound read)
    bytes part h stored
