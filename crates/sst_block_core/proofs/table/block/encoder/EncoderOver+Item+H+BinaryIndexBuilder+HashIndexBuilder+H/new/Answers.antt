use Rattle.std.proofs.Common.{[], refl, sym, arith}
use Rattle.std.proofs.Math.Nat.{zero-mod}
use Rattle.sst_block_core.proofs.Writing.Written.{written_nothing}
use Rattle.sst_block_core.proofs.Writing.BucketWrites.{no_buckets}
use Rattle.sst_block_core.proofs.table.block.encoder.EncoderOver+Item+H+BinaryIndexBuilder+HashIndexBuilder+H.new.Goals as goal

pub returns-clause-sound : goal.returns-clause-sound
returns-clause-sound g c = record {
  interval_some = c.requires.interval;
  phase = sym (zero-mod c.args.restart_interval);
  inside = omega arith;
  tied = rw (c.with_expected.ensures, c.new-2.ensures) (written_nothing _ _ c.requires.interval _ _);
  tabled = rw (c.new-2.ensures, c.new.ensures) (no_buckets g.Item.BlockItem.kind g.H.BlockHash.hash64 c.args.restart_interval c.requires.interval [] 0 refl);
}
