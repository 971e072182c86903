use Rattle.std.proofs.Common.{refl}
use Rattle.sstable_blocks.specs.RunReading.{hashes}
use Rattle.sstable_blocks.specs.PointLaws.{found_denied}
use Rattle.sstable_blocks.proofs.run.run_ref.RunRef.locate.Goals as goal

pub returns-then-not-may_have-clause-found : goal.returns-then-not-may_have-clause-found
returns-then-not-may_have-clause-found g c = λ blocks sound.
    let run = c.args.self.now in
    let o = c.sound_opens.ensures (hashes g.H.BlockHash.hash64 g.H.BlockHash.hash128) blocks run.bytes run.handles sound in
    found_denied g.H.BlockHash.hash64 blocks run.bytes run.handles c.args.needle.now c.args.seqno o _ refl (c.may_have.ensures.0 c.if-not-may_have.true)
