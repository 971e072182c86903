use Rattle.std.proofs.Common.{subst}
use Rattle.sstable_blocks.specs.RunReading.{hashes}
use Rattle.sstable_blocks.specs.Scans.{IsReadRun}
use Rattle.sstable_blocks.specs.Sound.{RunParts}
use Rattle.sstable_blocks.proofs.run.run_ref.RunRef.note_read.Goals as goal

pub returns : goal.returns
returns g c =
    let h = hashes g.H.BlockHash.hash64 g.H.BlockHash.hash128 in
    let s = c.self.invariant.0 in
    subst (λ (v : RunParts). IsReadRun h v.bytes v.handles) c.self.view_is (c.sound_run_is_read.ensures h s.0 _ _ g.met.H.BlockHash.hash128_fits s.1)
