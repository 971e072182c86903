use Rattle.sst_parts.proofs.table.read_many_by_tops.Goals as goal

pub returns-clause-source : goal.returns-clause-source
returns-clause-source g c = rw c.new-reader.ensures at c.read_many.ensures.source

pub returns-clause-exact : goal.returns-clause-exact
returns-clause-exact g c = rw c.new-reader.ensures at c.read_many.ensures.exact
