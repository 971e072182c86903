use Rattle.std.proofs.Common.{◌≤◌, arith, sym, ◌∙◌, ap, List}
use Rattle.lru.specs.LruCache.{lru_cache}
use Rattle.sst_parts.specs.Caches.{Kept, fitting, kept_bytes}
use Rattle.sst_parts.proofs.Cached.Caching.{fitting_all}
use Rattle.sst_parts.proofs.cache.evict.Goals as goal

pub returns-clause-kept : goal.returns-clause-kept
returns-clause-kept g c =
    let i = c.loop-bytes.invariant in
    let few : kept_bytes g.V.Cached.size c.loop-bytes.kept.entries ≤ c.args.room = omega arith in
    let same = sym (fitting_all g.V.Cached.size c.args.room c.loop-bytes.kept.entries few) ∙ i.1 in
    ap (λ (es : List (Kept g.row.V.Denot)). lru_cache es c.loop-bytes.kept.cap) same ∙ ap (lru_cache (fitting g.V.Cached.size c.args.room c.args.kept.now.entries)) i.2

pub returns-clause-bytes : goal.returns-clause-bytes
returns-clause-bytes g c =
    let i = c.loop-bytes.invariant in
    let few : kept_bytes g.V.Cached.size c.loop-bytes.kept.entries ≤ c.args.room = omega arith in
    i.0 ∙ ap (kept_bytes g.V.Cached.size) (sym (fitting_all g.V.Cached.size c.args.room c.loop-bytes.kept.entries few) ∙ i.1)
