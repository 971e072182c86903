use Rattle.sst_parts.specs.AnyLaws.{finds}
use Rattle.sst_parts.specs.AnyTables.{source_in}
use Rattle.sstable_blocks.specs.RunReading.{hashes}
use Rattle.sstool.proofs.get.read_in.Goals as goal

pub returns-in-Some : goal.returns-in-Some
returns-in-Some g c =
    let t = c.args.table in
    record { read = rw c.in-Some.is (finds (hashes g.H.BlockHash.hash64 g.H.BlockHash.hash128) t c.args.key.now c.in-Some.at c.get.result (g.S.FrameSource.bytes (source_in t)) c.get.ensures.sound) }
