use Rattle.std.proofs.Common.{◌≡◌, length, map, take, drop}
use Rattle.sst_calls.specs.declared.entries.SstEntry.{SstEntry}
use Rattle.sst_calls.proofs.run_write.write_hashes.Given as goal

abbrev pub invariant-loop-i : goal.invariant-loop-i
invariant-loop-i g l = record {
  front : take l.i l.hashes ≡ map (λ (e : SstEntry). g.H.BlockHash.hash64 e.key.now) (take l.i l.fn.entries);
  back : drop l.i l.hashes ≡ drop l.i l.fn.hashes;
  kept : length l.hashes ≡ length l.fn.hashes;
}
