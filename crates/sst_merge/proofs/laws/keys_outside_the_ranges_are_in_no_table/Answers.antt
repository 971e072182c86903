use Rattle.sst_merge.specs.LevelLaws.{outside_none}
use Rattle.sst_merge.proofs.laws.keys_outside_the_ranges_are_in_no_table.Goals as goal

pub returns : goal.returns
returns c = outside_none
