use Rattle.std.proofs.Common.{◌≡◌, length}
use Rattle.sst_parts.specs.Caches.{fitting, kept_bytes}
use Rattle.sst_parts.proofs.cache.evict.Given as goal

abbrev pub invariant-loop-bytes : goal.invariant-loop-bytes
invariant-loop-bytes g l = (l.bytes ≡ kept_bytes g.V.Cached.size l.kept.entries) × (fitting g.V.Cached.size l.room l.kept.entries ≡ fitting g.V.Cached.size l.room l.initial.kept.entries) × (l.kept.cap ≡ l.initial.kept.cap)

abbrev pub decreases-loop-bytes : goal.decreases-loop-bytes
decreases-loop-bytes g l = length l.kept.entries
