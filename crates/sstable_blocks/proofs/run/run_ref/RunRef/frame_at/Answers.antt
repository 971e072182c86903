use Rattle.std.proofs.Common.{subst, ℕ, List}
use Rattle.sst_base.specs.Entry.{Entry, IsEntry}
use Rattle.sst_block_core.specs.Entries.{entries}
use Rattle.sst_block_core.specs.Payload.{IsBlock}
use Rattle.sstable_blocks.specs.Opened.{IsFrameRange, payload_in}
use Rattle.sstable_blocks.specs.RunReading.{hashes}
use Rattle.sstable_blocks.specs.Sound.{RunParts}
use Rattle.sstable_blocks.specs.PointLaws.{cut_at}
use Rattle.sstable_blocks.proofs.run.run_ref.RunRef.frame_at.Goals as goal

pub returns-clause-range : goal.returns-clause-range
returns-clause-range g c =
    let s = c.self.invariant.0 in
    let o = c.sound_opens.ensures (hashes g.H.BlockHash.hash64 g.H.BlockHash.hash128) s.0 _ _ s.1 in
    let b = cut_at g.H.BlockHash.hash64 s.0 c.self.inside.bytes.now c.self.inside.handles o c.self.inside.index.items c.self.invariant.1.index_is c.args.index _ c.handle_at.ensures.range in
    subst (λ (v : RunParts). IsFrameRange v.bytes c.handle_at.result) c.self.view_is b.1.range

pub returns-clause-block : goal.returns-clause-block
returns-clause-block g c =
    let s = c.self.invariant.0 in
    let o = c.sound_opens.ensures (hashes g.H.BlockHash.hash64 g.H.BlockHash.hash128) s.0 _ _ s.1 in
    let b = cut_at g.H.BlockHash.hash64 s.0 c.self.inside.bytes.now c.self.inside.handles o c.self.inside.index.items c.self.invariant.1.index_is c.args.index _ c.handle_at.ensures.range in
    subst (λ (v : RunParts). (items : List Entry) × (r : ℕ) × (n : ℕ) × IsBlock entries IsEntry g.H.BlockHash.hash64 (payload_in v.bytes c.handle_at.result) items r n) c.self.view_is (b.0, b.1.interval, b.1.buckets, b.1.is_block)
