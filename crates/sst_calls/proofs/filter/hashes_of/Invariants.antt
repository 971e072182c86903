use Rattle.std.proofs.Common.{◌≡◌, map, take}
use Rattle.sst_calls.proofs.filter.hashes_of.Given as goal

abbrev pub invariant-loop-key : goal.invariant-loop-key
invariant-loop-key g l = l.hashes.items ≡ map (λ k. g.H.BlockHash.hash64 k.now) (take l.key-index l.keys)
