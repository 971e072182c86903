use Rattle.sst_sources.specs.Stored.{all_keys}
use Rattle.sst_examples.proofs.Stored.Listed.{sound_listed}
use Rattle.sst_examples.proofs.store.laws.sound_table_is_known.Goals as goal
use Rattle.sstable_blocks.specs.RunChecks.{summary_of}

pub returns : goal.returns
returns c hashes blocks bytes h index short are sound at =
    sound_listed hashes bytes h index blocks (summary_of blocks) are sound (c.sound_run_is_accepted.ensures hashes blocks bytes h short sound) (c.sound_is_scanned.ensures hashes blocks bytes h all_keys index short sound at)
