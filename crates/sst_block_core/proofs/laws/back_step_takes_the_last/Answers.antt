use Rattle.sst_block_core.specs.ListSteps.{scan_gives_last}
use Rattle.sst_block_core.specs.ParsedEntry.{entry_of, IsParsedEntry}
use Rattle.sst_block_core.proofs.laws.back_step_takes_the_last.Goals as goal

pub returns : goal.returns
returns c = scan_gives_last entry_of IsParsedEntry
