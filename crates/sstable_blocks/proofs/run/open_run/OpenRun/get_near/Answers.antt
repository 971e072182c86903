use Rattle.std.proofs.lemmas.Result.{err_from_is_err_and}
use Rattle.sstable_blocks.specs.KeptLaws.{kept_ok}
use Rattle.sstable_blocks.specs.LocatedLaws.{at_fails, at_found, at_none}
use Rattle.sstable_blocks.specs.RunReading.{hashes}
use Rattle.sstable_blocks.proofs.run.open_run.OpenRun.get_near.Goals as goal

pub returns-in_default-clause-exact : goal.returns-in_default-clause-exact
returns-in_default-clause-exact g c =
    let h = hashes g.H.BlockHash.hash64 g.H.BlockHash.hash128 in
    let t = c.args.self.now in
    at_none h t.handles t.filter t.index c.args.needle.now.key.now c.args.needle.now.seqno _ c.locate.result (kept_ok h t.handles t.filter t.index t.interval _ c.requires.opened) c.locate.ensures.exact (search (c.in_default.is))

pub returns-in_err-open_at-clause-exact : goal.returns-in_err-open_at-clause-exact
returns-in_err-open_at-clause-exact g c =
    let h = hashes g.H.BlockHash.hash64 g.H.BlockHash.hash128 in
    let t = c.args.self.now in
    let r = err_from_is_err_and c.from_residual.result c.from_residual.ensures.1 in
    let less = rw c.in-Some.is at c.locate.ensures.inside in
    rw (r.1, r.2) (at_fails h t.handles t.filter t.index c.args.needle.now.key.now c.args.needle.now.seqno _ c.locate.result c.in-Some.index _ _ _ (kept_ok h t.handles t.filter t.index t.interval _ c.requires.opened) c.locate.ensures.exact c.in-Some.is less c.in_err-open_at.ensures.errors)

pub returns-clause-exact : goal.returns-clause-exact
returns-clause-exact g c =
    let h = hashes g.H.BlockHash.hash64 g.H.BlockHash.hash128 in
    let t = c.args.self.now in
    let less = rw c.in-Some.is at c.locate.ensures.inside in
    at_found h t.handles t.filter t.index c.args.needle.now.key.now c.args.needle.now.seqno _ c.locate.result c.in-Some.index _ _ c.open_at.new.last c.read_last.result (kept_ok h t.handles t.filter t.index t.interval _ c.requires.opened) c.locate.ensures.exact c.in-Some.is less c.in_ok-open_at.ensures.opened c.read_last.ensures.found c.read_last.ensures.memory
