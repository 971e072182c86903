use Rattle.sst_base.proofs.Framing.Frames.{checked_own}
use Rattle.sst_base.proofs.table.block.Block.behind_header.Goals as goal

pub returns-clause-own : goal.returns-clause-own
returns-clause-own g c = checked_own g.H.BlockHash.hash128 c.args.header c.in_ok-payload.payload c.checked.result c.if-header.false c.in_ok-payload.ensures.len c.checked.ensures
