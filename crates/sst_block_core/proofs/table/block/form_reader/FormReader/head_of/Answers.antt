use Rattle.sst_block_core.proofs.table.block.form_reader.FormReader.head_of.Goals as goal

pub returns-clause-head : goal.returns-clause-head
returns-clause-head g c = rw (← c.self.view_is) c.head.ensures.head
