use Rattle.std.proofs.Common.{◌≡◌, ◌++◌, map, take}
use Rattle.sstable_blocks.specs.Run.{key_hashes}
use Rattle.sstable_blocks.proofs.run.run_core.push_all.Given as goal

abbrev pub invariant-loop-item : goal.invariant-loop-item
invariant-loop-item g l = l.hashes.items ≡ l.initial.hashes.items ++ key_hashes g.H.BlockHash.hash64 (map g.T.AsEntry.entry (take l.item-index l.items))
