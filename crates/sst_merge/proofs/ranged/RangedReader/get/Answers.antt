use Rattle.std.proofs.Common.{◌≡◌, ◌∙◌, sym, IfOk}
use Rattle.sst_sources.specs.RangeLaws.{found_inside, none_outside}
use Rattle.sst_merge.proofs.ranged.RangedReader.get.Goals as goal

pub returns-then-covers-clause-found : goal.returns-then-covers-clause-found
returns-then-covers-clause-found g c = found_inside c.args.self.now.first c.args.self.now.last c.args.needle.now c.args.seqno (g.R.Reader.list c.args.self.now.reader) (λ m. IfOk c.get.result (λ found. found ≡ m)) (sym c.covers.ensures ∙ c.if-covers.true) c.get.ensures.found

pub returns-else-covers-clause-found : goal.returns-else-covers-clause-found
returns-else-covers-clause-found g c = none_outside c.args.self.now.first c.args.self.now.last c.args.needle.now c.args.seqno (g.R.Reader.list c.args.self.now.reader) (sym c.covers.ensures ∙ c.if-covers.false)
