use Rattle.std.proofs.Common.{arith}
use Rattle.sst_block_core.specs.Trailer.{trailer_from}
use Rattle.sst_tests.proofs.blocks.vectors.damaged_trailer.Goals as goal

pub returns : goal.returns
unfolding trailer_from
returns c = record {
  interval_before = omega arith;
  interval_fails = λ s. let h = s.interval in omega (arith, h);
  short_fails = λ h. omega (arith, h);
}
