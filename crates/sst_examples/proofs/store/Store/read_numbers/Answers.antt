use Rattle.std.proofs.Common.{◌∙◌, ap, ◌++◌, ◌∷◌, []}
use Rattle.sst_examples.proofs.Stored.Written.{zip_same}
use Rattle.sst_examples.proofs.store.Store.read_numbers.Goals as goal
use Rattle.sst_examples.specs.Levels.{Levels}

pub returns : goal.returns
returns c =
    let old = c.self.inside in
    c.in_ok-push.ensures.items
    ∙ ap (λ xs. xs ++ old.next ∷ []) (zip_same old.snapshots.items c.in_ok-all.all.items c.in_ok-all.ensures.cases.0)
    ∙ ap (λ (s : Levels). s.snapshots ++ s.next ∷ []) c.self.view_is
