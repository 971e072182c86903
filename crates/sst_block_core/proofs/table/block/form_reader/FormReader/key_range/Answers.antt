use Rattle.sst_block_core.proofs.Heads.TablesAndLists.{encoded_range}
use Rattle.sst_block_core.proofs.table.block.form_reader.FormReader.key_range.Goals as goal

pub returns-clause-range : goal.returns-clause-range
returns-clause-range g c =
    rw (← c.self.view_is) (encoded_range _ _ c.own_key.result.now c.key_offset-start.result _ (rw (← c.key_offset-start.ensures) at c.read_full-item.ensures.key) c.own_key.ensures c.read_full-item.ensures.shared).0
