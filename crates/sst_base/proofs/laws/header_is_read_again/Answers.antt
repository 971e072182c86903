use Rattle.sst_base.specs.HeaderLaws.{header_at-header}
use Rattle.sst_base.proofs.laws.header_is_read_again.Goals as goal

pub returns : goal.returns
returns c = header_at-header
