use Rattle.sst_block_core.specs.ListSteps.{scan_gives_last}
use Rattle.sst_block_core.specs.ParsedHandle.{parsed_handle, IsParsedHandle}
use Rattle.sst_block_core.proofs.laws.index_back_step_takes_the_last.Goals as goal

pub returns : goal.returns
returns c = scan_gives_last parsed_handle IsParsedHandle
