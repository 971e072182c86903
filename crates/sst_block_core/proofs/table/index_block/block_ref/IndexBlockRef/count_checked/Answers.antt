use Rattle.sst_block_core.proofs.Items.Accepted.{index_accepted}
use Rattle.sst_block_core.proofs.table.index_block.block_ref.IndexBlockRef.count_checked.Goals as goal

pub returns-clause-accepts : goal.returns-clause-accepts
returns-clause-accepts c items r encoded =
    let s = c.check_stages.ensures in
    index_accepted c.args.payload.now items r c.check_stages.result s.bytes c.requires encoded s.checked s.count s.refused
