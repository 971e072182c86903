use Rattle.std.proofs.Common.{◌<◌, IfSome, None, map, subst}
use Rattle.sstable_blocks.specs.ManyLaws.{finds_all}
use Rattle.sstable_blocks.specs.ManyReads.{many_frames, needle_place, read_each}
use Rattle.sstable_blocks.specs.RunReading.{hashes, read_checked}
use Rattle.sstable_blocks.specs.Sources.{AsksUpTo, GivesOr, UsesSource}
use Rattle.sstable_blocks.specs.Tables.{kept_parts}
use Rattle.sstable_blocks.proofs.run.table.Table.get_many.Goals as goal

pub returns-clause-source : goal.returns-clause-source
returns-clause-source g c =
    subst (λ w. UsesSource g.S.FrameSource.bytes g.S.FrameSource.failures g.S.FrameSource.reads g.S.FrameSource.is_reliable (AsksUpTo (many_frames None (map (needle_place g.H.BlockHash.hash64 (kept_parts w)) c.args.needles.now))) w.source c.read_many.new.source c.read_many.result)
    c.self.view_is (rw c.new-reader.ensures at c.read_many.ensures.source)

pub returns-clause-exact : goal.returns-clause-exact
returns-clause-exact g c =
    let h = hashes g.H.BlockHash.hash64 g.H.BlockHash.hash128 in
    subst (λ w. IfSome (g.S.FrameSource.bytes w.source) (λ all. GivesOr (g.S.FrameSource.failures w.source < g.S.FrameSource.failures c.read_many.new.source) (g.S.FrameSource.is_reliable w.source) (λ v. v.items) c.read_many.result (read_each (λ n. read_checked h all w.handles n.key.now n.seqno) c.args.needles.now)))
    c.self.view_is (rw c.new-reader.ensures at c.read_many.ensures.exact)

pub returns-clause-sound : goal.returns-clause-sound
returns-clause-sound g c =
    let h = hashes g.H.BlockHash.hash64 g.H.BlockHash.hash128 in
    finds_all h _ _ _ (λ v. v.items) c.read_many.result c.args.self.now.handles c.args.needles.now (λ all blocks needle seqno sound. c.sound_is_read.ensures h blocks all c.args.self.now.handles needle seqno g.met.H.BlockHash.hash128_fits sound) (returns-clause-exact g c)
