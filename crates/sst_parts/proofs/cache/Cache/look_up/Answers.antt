use Rattle.std.proofs.Common.{◌≡◌, refl, sym, ◌∙◌, ap, subst}
use Rattle.std.specs.List.{AllByRecursion}
use Rattle.std.specs.Map.{lookup}
use Rattle.std.specs.Prelude.{is_some}
use Rattle.lru.specs.LruCache.{LruCache, lru_cache, promoted}
use Rattle.sst_parts.proofs.Cached.Caching.{all_promoted, bytes_promoted, latest_promoted, lookup_promoted, looked_up_found, looked_up_missed}
use Rattle.sst_parts.specs.Caches.{CacheParts, IsKept, IsLatest, Place, is_place, kept_at, kept_bytes, looked_up, one_more, place_at}
use Rattle.sst_parts.proofs.cache.Cache.look_up.Goals as goal

pub invariant_of-self : goal.invariant_of-self
invariant_of-self g c =
    let v = c.self.invariant in
    let e = (subst (λ (k : Place). c.promote-there.new.self ≡ lru_cache (promoted (is_place k) c.self.inside.kept.entries) c.self.inside.kept.cap) c.key_of.ensures c.promote-there.ensures.entries) in
    let place : Place = place_at c.args.number c.args.range.now in
    record {
      bytes_are = v.bytes_are ∙ sym (ap (λ (x : LruCache Place g.row.V.Denot). kept_bytes g.V.Cached.size x.entries) e ∙ bytes_promoted (is_place place) g.V.Cached.size c.self.inside.kept.entries);
      fits = v.fits;
      unbounded = ap (λ (x : LruCache Place g.row.V.Denot). x.cap) e ∙ v.unbounded;
      tables_are = v.tables_are;
      all = subst (λ (x : LruCache Place g.row.V.Denot). AllByRecursion (IsKept g.V.Cached.is_of c.self.inside.tables) x.entries) (sym e) (all_promoted (is_place place) (IsKept g.V.Cached.is_of c.self.inside.tables) c.self.inside.kept.entries v.all);
    }

pub invariant_of-self-else-there : goal.invariant_of-self-else-there
invariant_of-self-else-there g c =
    let v = c.self.invariant in
    let e = (subst (λ (k : Place). c.promote-there.new.self ≡ lru_cache (promoted (is_place k) c.self.inside.kept.entries) c.self.inside.kept.cap) c.key_of.ensures c.promote-there.ensures.entries) in
    let place : Place = place_at c.args.number c.args.range.now in
    record {
      bytes_are = v.bytes_are ∙ sym (ap (λ (x : LruCache Place g.row.V.Denot). kept_bytes g.V.Cached.size x.entries) e ∙ bytes_promoted (is_place place) g.V.Cached.size c.self.inside.kept.entries);
      fits = v.fits;
      unbounded = ap (λ (x : LruCache Place g.row.V.Denot). x.cap) e ∙ v.unbounded;
      tables_are = v.tables_are;
      all = subst (λ (x : LruCache Place g.row.V.Denot). AllByRecursion (IsKept g.V.Cached.is_of c.self.inside.tables) x.entries) (sym e) (all_promoted (is_place place) (IsKept g.V.Cached.is_of c.self.inside.tables) c.self.inside.kept.entries v.all);
    }

pub returns-then-there-clause-new : goal.returns-then-there-clause-new
returns-then-there-clause-new g c =
    let place : Place = place_at c.args.number c.args.range.now in
    let s = c.self.inside in
    let v : CacheParts g.row.V.Denot = record { kept = s.kept.entries; most = s.most; hits = s.hits; misses = s.misses; oversized = s.oversized; failed = s.failed; tables = s.tables } in
    subst (λ (w : CacheParts g.row.V.Denot). record { kept = c.promote-there.new.self.entries; most = s.most; hits = one_more s.hits; misses = s.misses; oversized = s.oversized; failed = s.failed; tables = s.tables } ≡ looked_up w place (kept_at w.kept place)) c.self.view_is
    (ap (λ (x : LruCache Place g.row.V.Denot). record v { kept = x.entries; hits = one_more v.hits }) (subst (λ (k : Place). c.promote-there.new.self ≡ lru_cache (promoted (is_place k) c.self.inside.kept.entries) c.self.inside.kept.cap) c.key_of.ensures c.promote-there.ensures.entries) ∙ looked_up_found v place (kept_at v.kept place) refl (sym (subst (λ (k : Place). c.promote-there.result ≡ is_some (lookup (is_place k) c.self.inside.kept.entries)) c.key_of.ensures c.promote-there.ensures.value) ∙ c.if-there.true))

pub returns-else-there-clause-new : goal.returns-else-there-clause-new
returns-else-there-clause-new g c =
    let place : Place = place_at c.args.number c.args.range.now in
    let s = c.self.inside in
    let v : CacheParts g.row.V.Denot = record { kept = s.kept.entries; most = s.most; hits = s.hits; misses = s.misses; oversized = s.oversized; failed = s.failed; tables = s.tables } in
    subst (λ (w : CacheParts g.row.V.Denot). record { kept = c.promote-there.new.self.entries; most = s.most; hits = s.hits; misses = one_more s.misses; oversized = s.oversized; failed = s.failed; tables = s.tables } ≡ looked_up w place (kept_at w.kept place)) c.self.view_is
    (ap (λ (x : LruCache Place g.row.V.Denot). record v { kept = x.entries; misses = one_more v.misses }) (subst (λ (k : Place). c.promote-there.new.self ≡ lru_cache (promoted (is_place k) c.self.inside.kept.entries) c.self.inside.kept.cap) c.key_of.ensures c.promote-there.ensures.entries) ∙ looked_up_missed v place (kept_at v.kept place) refl (sym (subst (λ (k : Place). c.promote-there.result ≡ is_some (lookup (is_place k) c.self.inside.kept.entries)) c.key_of.ensures c.promote-there.ensures.value) ∙ c.if-there.false))

pub returns-then-there-clause-same : goal.returns-then-there-clause-same
returns-then-there-clause-same g c =
    let place : Place = place_at c.args.number c.args.range.now in
    subst (λ (w : CacheParts g.row.V.Denot). kept_at c.promote-there.new.self.entries place ≡ kept_at w.kept place) c.self.view_is
    (ap (λ (x : LruCache Place g.row.V.Denot). kept_at x.entries place) (subst (λ (k : Place). c.promote-there.new.self ≡ lru_cache (promoted (is_place k) c.self.inside.kept.entries) c.self.inside.kept.cap) c.key_of.ensures c.promote-there.ensures.entries) ∙ lookup_promoted (is_place place) c.self.inside.kept.entries)

pub returns-else-there-clause-same : goal.returns-else-there-clause-same
returns-else-there-clause-same g c =
    let place : Place = place_at c.args.number c.args.range.now in
    subst (λ (w : CacheParts g.row.V.Denot). kept_at c.promote-there.new.self.entries place ≡ kept_at w.kept place) c.self.view_is
    (ap (λ (x : LruCache Place g.row.V.Denot). kept_at x.entries place) (subst (λ (k : Place). c.promote-there.new.self ≡ lru_cache (promoted (is_place k) c.self.inside.kept.entries) c.self.inside.kept.cap) c.key_of.ensures c.promote-there.ensures.entries) ∙ lookup_promoted (is_place place) c.self.inside.kept.entries)

pub returns-then-there-clause-latest : goal.returns-then-there-clause-latest
returns-then-there-clause-latest g c = λ yes.
    let place : Place = place_at c.args.number c.args.range.now in
    let e = (subst (λ (k : Place). c.promote-there.new.self ≡ lru_cache (promoted (is_place k) c.self.inside.kept.entries) c.self.inside.kept.cap) c.key_of.ensures c.promote-there.ensures.entries) in
    let some = sym (subst (λ (k : Place). c.promote-there.result ≡ is_some (lookup (is_place k) c.self.inside.kept.entries)) c.key_of.ensures c.promote-there.ensures.value) ∙ yes in
    subst (λ (x : LruCache Place g.row.V.Denot). IsLatest x.entries place) (sym e) (latest_promoted c.self.inside.kept.entries place some)
