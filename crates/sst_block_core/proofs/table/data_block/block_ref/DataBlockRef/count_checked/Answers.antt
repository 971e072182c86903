use Rattle.sst_block_core.proofs.Items.Accepted.{data_accepted}
use Rattle.sst_block_core.proofs.table.data_block.block_ref.DataBlockRef.count_checked.Goals as goal

pub returns-clause-accepts : goal.returns-clause-accepts
returns-clause-accepts g c items r b encoded =
    let s = c.check_stages.ensures in
    data_accepted g.H.BlockHash.hash64 c.args.payload.now items r b c.check_stages.result s.bytes c.requires encoded s.checked s.count s.refused
