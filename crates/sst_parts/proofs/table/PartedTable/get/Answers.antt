use Rattle.std.proofs.Common.{◌≡◌, ◌<◌, Ok, subst, IfSome}
use Rattle.sstable_blocks.specs.Prelude.{handles}
use Rattle.sst_parts.specs.Parts.{read_by_top, tops_at}
use Rattle.sst_parts.proofs.Writing.Sounds.{sound_on}
use Rattle.sstable_blocks.specs.Lookup.{handle_for}
use Rattle.sstable_blocks.specs.RunReading.{hashes}
use Rattle.sstable_blocks.specs.Sources.{GivesOr}
use Rattle.sst_parts.proofs.table.PartedTable.get.Goals as goal

pub returns-clause-exact : goal.returns-clause-exact
returns-clause-exact g c =
    let h = hashes g.H.BlockHash.hash64 g.H.BlockHash.hash128 in
    subst (λ w. IfSome (g.S.FrameSource.bytes w.source) (λ all. GivesOr (g.S.FrameSource.failures w.source < g.S.FrameSource.failures c.read_by_tops.new.source) (g.S.FrameSource.is_reliable w.source) (λ x. x) c.read_by_tops.result (read_by_top h all (handle_for handles c.args.needle.now c.args.seqno w.tops) c.args.needle.now c.args.seqno)))
    c.self.view_is
    c.read_by_tops.ensures.exact

pub returns-clause-sound : goal.returns-clause-sound
returns-clause-sound g c =
    let h = hashes g.H.BlockHash.hash64 g.H.BlockHash.hash128 in
    sound_on h _ _ _ _ c.args.self.now.top c.args.self.now.tops c.args.needle.now c.args.seqno (λ all. read_by_top h all (handle_for handles c.args.needle.now c.args.seqno c.args.self.now.tops) c.args.needle.now c.args.seqno)
    (λ all parts sound read. c.parted_is_read.ensures h parts all c.args.self.now.top c.args.self.now.tops c.args.needle.now c.args.seqno g.met.H.BlockHash.hash128_fits sound read)
    (subst (λ w. IfSome (g.S.FrameSource.bytes w.source) (λ all. tops_at h all w.top ≡ Ok w.tops)) c.self.view_is c.self.invariant.0)
    (returns-clause-exact g c)
