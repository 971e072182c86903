use Rattle.std.proofs.Common.{◌≡◌, refl, subst, slice_get}
use Rattle.std.specs.Prelude.{IfSome}
use Rattle.std.specs.Option.{option_map}
use Rattle.sst_sources.specs.Picks.{IsPick}
use Rattle.sst_merge.proofs.Merging.Peeks.{peeked}
use Rattle.sst_merge.proofs.merge.Merge.peek.Goals as goal

pub returns : goal.returns
returns g c =
    let cmp = g.T.Ranked.cmp in
    let heads = c.self.inside.heads.items in
    let p : IsPick cmp heads c.first_now.result = subst (λ ls. IsPick cmp ls c.first_now.result) c.deref.ensures.value c.first_now.ensures in
    record {
      first = subst (λ s. IfSome s.list (λ xs. option_map (λ x. x.now) c.peek.result ≡ slice_get xs 0)) c.self.view_is
          (peeked cmp heads c.first_now.result c.index.result.now _ c.index.ensures p c.peek.ensures.first _ refl);
    }
