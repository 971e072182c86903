use Rattle.sst_block_core.specs.ListSteps.{scan_gives_first}
use Rattle.sst_block_core.specs.ParsedEntry.{entry_of, IsParsedEntry}
use Rattle.sst_block_core.proofs.laws.front_step_takes_the_first.Goals as goal

pub returns : goal.returns
returns c = scan_gives_first entry_of IsParsedEntry
