use Rattle.std.proofs.Common.{subst}
use Rattle.sstable_blocks.specs.RunReading.{hashes}
use Rattle.sstable_blocks.specs.Sound.{IsSoundRun, RunParts}
use Rattle.sstable_blocks.proofs.run.run_ref.RunRef.note_sound.Goals as goal

pub returns : goal.returns
returns g c = subst (λ (v : RunParts). IsSoundRun (hashes g.H.BlockHash.hash64 g.H.BlockHash.hash128) v.bytes v.handles) c.self.view_is c.self.invariant.0
