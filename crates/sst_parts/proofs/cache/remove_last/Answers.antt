use Rattle.std.proofs.Common.{arith, ◌∙◌, ap}
use Rattle.lru.specs.LruCache.{LruCache}
use Rattle.sst_parts.specs.Caches.{Place, fitting, kept_bytes}
use Rattle.sst_parts.proofs.Cached.Caching.{fitting_out, last_out, none_last}
use Rattle.sst_parts.proofs.cache.remove_last.Goals as goal

pub overflow_sub-result : goal.overflow_sub-result
overflow_sub-result g c =
    let out = last_out g.V.Cached.size c.args.kept.now.entries _ c.in-Some.ensures.value in
    let size = c.byte_count.ensures in
    omega (arith, out, size)

pub unreachable-requires : goal.unreachable-requires
unreachable-requires g c =
    let none = none_last g.V.Cached.size c.args.kept.now.entries c.in-None.ensures.value in
    omega (arith, none)

pub returns-clause-fitting : goal.returns-clause-fitting
returns-clause-fitting g c = λ room less.
    let es = c.args.kept.now.entries in
    ap (λ (x : LruCache Place g.row.V.Denot). fitting g.V.Cached.size room x.entries) c.pop_lru.ensures.entries ∙ fitting_out g.V.Cached.size room es _ c.in-Some.ensures.value (omega (arith, less))

pub returns-clause-bytes : goal.returns-clause-bytes
returns-clause-bytes g c =
    let es = c.args.kept.now.entries in
    let out = last_out g.V.Cached.size es _ c.in-Some.ensures.value in
    let size = c.byte_count.ensures in
    let left = ap (λ (x : LruCache Place g.row.V.Denot). kept_bytes g.V.Cached.size x.entries) c.pop_lru.ensures.entries in
    omega (arith, out, size, left)
