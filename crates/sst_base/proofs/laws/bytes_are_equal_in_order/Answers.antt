use Rattle.sst_base.specs.KeyOrderLaws.{slice_cmp-equal}
use Rattle.sst_base.proofs.laws.bytes_are_equal_in_order.Goals as goal

pub returns : goal.returns
returns c = slice_cmp-equal
