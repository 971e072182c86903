use Rattle.std.proofs.Common.{Ok}
use Rattle.std.proofs.lemmas.Iterator.{items_from_collect}
use Rattle.std.proofs.lemmas.Iterator.Adapters.{YieldsList-from_skip, YieldsList-from_vec}
use Rattle.std.specs.Vec.Iter.{into_iter_items}
use Rattle.sst_program.proofs.words.words_after_name.Goals as goal

pub returns-clause-ok : goal.returns-clause-ok
returns-clause-ok g c = λ len.
    let source = c.skip.ensures.source in
    items_from_collect {E = Unit {0}} (Ok c.in_ok-collect.field-0) c.in_ok-collect.ensures.ran
    (YieldsList-from_skip 1 (YieldsList-from_vec (into_iter_items c.args.words) (cc) (cc)) c.skip.ensures.count)
