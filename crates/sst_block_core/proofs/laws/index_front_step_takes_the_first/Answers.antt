use Rattle.sst_block_core.specs.ListSteps.{held_gives_first}
use Rattle.sst_block_core.specs.ParsedHandle.{parsed_handle, IsParsedHandle}
use Rattle.sst_block_core.proofs.laws.index_front_step_takes_the_first.Goals as goal

pub returns : goal.returns
returns c = held_gives_first parsed_handle IsParsedHandle
