use Rattle.sst_sources.specs.RangeLaws.{ranged_whole}
use Rattle.sst_merge.proofs.ranged.Ranged.new.Goals as goal

pub returns-clause-whole : goal.returns-clause-whole
returns-clause-whole g c = ranged_whole c.args.first c.args.last (g.R.Reader.list c.args.reader)
