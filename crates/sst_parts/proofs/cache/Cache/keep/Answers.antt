use Rattle.std.proofs.Common.{◌≡◌, ◌-◌, ◌∷◌, None, arith, sym, ◌∙◌, ap, subst}
use Rattle.std.specs.List.{AllByRecursion}
use Rattle.lru.specs.LruCache.{LruCache}
use Rattle.sst_parts.specs.Caches.{CacheParts, IsKept, Kept, Place, fitting, is_place, kept_at, kept_bytes, place_at}
use Rattle.sst_parts.proofs.Cached.Caching.{absent_fitting, all_fitting}
use Rattle.sst_parts.proofs.cache.Cache.keep.Goals as goal

pub put_first-requires-clause-absent : goal.put_first-requires-clause-absent
put_first-requires-clause-absent g c =
    let place : Place = place_at c.args.number c.args.range.now in
    let none = subst (λ (w : CacheParts g.row.V.Denot). kept_at w.kept place ≡ None) (sym c.self.view_is) c.requires.absent in
    ap (λ (x : LruCache Place g.row.V.Denot). kept_at x.entries place) c.evict-self-inside.ensures.kept ∙ absent_fitting (is_place place) g.V.Cached.size (c.self.inside.most - c.byte_count-size.result) c.self.inside.kept.entries none

pub invariant_of-self-then-put_first : goal.invariant_of-self-then-put_first
invariant_of-self-then-put_first g c =
    let place : Place = place_at c.args.number c.args.range.now in
    let v = c.self.invariant in
    let P : Kept g.row.V.Denot → Type 0 = IsKept g.V.Cached.is_of c.self.inside.tables in
    let room = c.self.inside.most - c.byte_count-size.result in
    let es = fitting g.V.Cached.size room c.self.inside.kept.entries in
    let left = c.evict-self-inside.ensures in
    let put = c.put_first.ensures.put c.if-put_first.true in
    let whole : c.put_first.new.kept.entries ≡ (place, c.args.value) ∷ es = ap (λ (x : LruCache Place g.row.V.Denot). x.entries) put ∙ ap (λ (x : LruCache Place g.row.V.Denot). (place, c.args.value) ∷ x.entries) left.kept in
    let size = c.byte_count-size.ensures in
    let bytes = ap (kept_bytes g.V.Cached.size) whole in
    let here = subst (λ (w : CacheParts g.row.V.Denot). IsKept g.V.Cached.is_of w.tables (place, c.args.value)) (sym c.self.view_is) c.requires.value in
    record {
      bytes_are = omega (arith, left.bytes, size, bytes);
      fits = omega (arith, left.fits, c.if-size-self.false);
      unbounded = ap (λ (x : LruCache Place g.row.V.Denot). x.cap) put ∙ ap (λ (x : LruCache Place g.row.V.Denot). x.cap) left.kept ∙ v.unbounded;
      tables_are = v.tables_are;
      all = subst (AllByRecursion P) (sym whole) (here, all_fitting g.V.Cached.size P room c.self.inside.kept.entries v.all);
    }

pub invariant_of-self-else-put_first : goal.invariant_of-self-else-put_first
invariant_of-self-else-put_first g c =
    let v = c.self.invariant in
    let P : Kept g.row.V.Denot → Type 0 = IsKept g.V.Cached.is_of c.self.inside.tables in
    let room = c.self.inside.most - c.byte_count-size.result in
    let left = c.evict-self-inside.ensures in
    let whole = c.put_first.ensures.failed c.if-put_first.false ∙ left.kept in
    record {
      bytes_are = left.bytes ∙ sym (ap (λ (x : LruCache Place g.row.V.Denot). kept_bytes g.V.Cached.size x.entries) whole);
      fits = omega (arith, left.fits);
      unbounded = ap (λ (x : LruCache Place g.row.V.Denot). x.cap) whole ∙ v.unbounded;
      tables_are = v.tables_are;
      all = subst (λ (x : LruCache Place g.row.V.Denot). AllByRecursion P x.entries) (sym whole) (all_fitting g.V.Cached.size P room c.self.inside.kept.entries v.all);
    }
