use Rattle.std.proofs.Common.{◌≡◌, ◌<◌, None, Ok, subst, IfSome}
use Rattle.sstable_blocks.specs.Prelude.{handles}
use Rattle.sst_parts.specs.PartReaders.{needles_frames, read_open_by_top}
use Rattle.sst_parts.specs.Parts.{tops_at}
use Rattle.sst_parts.proofs.Reading.OpenParts.{finds_all}
use Rattle.sstable_blocks.specs.Lookup.{handle_for}
use Rattle.sstable_blocks.specs.ManyReads.{read_each}
use Rattle.sstable_blocks.specs.RunReading.{hashes}
use Rattle.sstable_blocks.specs.Sources.{AsksUpTo, GivesOr, UsesSource}
use Rattle.sst_parts.proofs.table.PartedTable.get_many.Goals as goal

pub returns-clause-source : goal.returns-clause-source
returns-clause-source g c =
    subst (λ w. UsesSource g.S.FrameSource.bytes g.S.FrameSource.failures g.S.FrameSource.reads g.S.FrameSource.is_reliable (AsksUpTo (needles_frames w.tops None c.args.needles.now)) w.source c.read_many_by_tops.new.source c.read_many_by_tops.result)
    c.self.view_is c.read_many_by_tops.ensures.source

pub returns-clause-exact : goal.returns-clause-exact
returns-clause-exact g c =
    let h = hashes g.H.BlockHash.hash64 g.H.BlockHash.hash128 in
    subst (λ w. IfSome (g.S.FrameSource.bytes w.source) (λ all. GivesOr (g.S.FrameSource.failures w.source < g.S.FrameSource.failures c.read_many_by_tops.new.source) (g.S.FrameSource.is_reliable w.source) (λ v. v.items) c.read_many_by_tops.result (read_each (λ n. read_open_by_top h all (handle_for handles n.key.now n.seqno w.tops) n.key.now n.seqno) c.args.needles.now)))
    c.self.view_is c.read_many_by_tops.ensures.exact

pub returns-clause-sound : goal.returns-clause-sound
returns-clause-sound g c =
    let h = hashes g.H.BlockHash.hash64 g.H.BlockHash.hash128 in
    finds_all h _ _ _ (λ v. v.items) _ c.args.self.now.top c.args.self.now.tops c.args.needles.now
    (λ all parts needle seqno sound read. c.open_part_is_read.ensures h parts all c.args.self.now.top c.args.self.now.tops needle seqno g.met.H.BlockHash.hash128_fits sound read)
    (subst (λ w. IfSome (g.S.FrameSource.bytes w.source) (λ all. tops_at h all w.top ≡ Ok w.tops)) c.self.view_is c.self.invariant.0)
    (returns-clause-exact g c)
