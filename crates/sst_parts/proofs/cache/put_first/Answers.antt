use Rattle.std.proofs.Common.{◌≡◌, ◌<◌, ◌^◌, List, length, arith, sym, ◌∙◌, ap, subst}
use Rattle.lru.specs.LruCache.{lru_cache, put_entries}
use Rattle.sst_parts.specs.Caches.{Kept, Place, is_place, place_at}
use Rattle.sst_parts.proofs.Cached.Caching.{ok_gives, put_first}
use Rattle.sst_parts.proofs.cache.put_first.Goals as goal

pub returns-clause-put : goal.returns-clause-put
returns-clause-put g c = λ put.
    let place : Place = place_at c.args.number c.args.range.now in
    let few : length c.args.kept.now.entries < 2 ^ 63 = omega (arith, c.len-len.ensures.len, c.len-len.ensures.fits) in
    let e = ok_gives c.put.result _ (sym c.is_ok.ensures.value ∙ put) c.put.ensures.entries in
    subst (λ (k : Place). c.put.new.self ≡ lru_cache (put_entries is_place c.args.kept.now k c.args.value) c.args.kept.now.cap) c.key_of.ensures e ∙ ap (λ (es : List (Kept g.row.V.Denot)). lru_cache es c.args.kept.now.cap) (put_first c.args.kept.now place c.args.value c.requires.absent c.requires.unbounded few)
