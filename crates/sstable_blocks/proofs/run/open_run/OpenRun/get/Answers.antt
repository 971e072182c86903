use Rattle.std.proofs.Common.{◌<◌, ◌∙◌, subst, IfSome}
use Rattle.sst_base.specs.Counted.{CountsBetween}
use Rattle.sstable_blocks.specs.ReadCosts.{heads_most_in, entries_most_in}
use Rattle.sstable_blocks.specs.RunReading.{hashes, read_checked}
use Rattle.sstable_blocks.specs.RunPlaces.{placed}
use Rattle.sstable_blocks.specs.Sources.{GivesOr}
use Rattle.sstable_blocks.specs.Tables.{IsOpenedOf, KeptParts}
use Rattle.sstable_blocks.proofs.Reading.Answered.{sound_on}
use Rattle.sstable_blocks.specs.KeptLaws.{checked_on}
use Rattle.sstable_blocks.specs.TableCountLaws.{kept_counts}
use Rattle.sstable_blocks.proofs.run.open_run.OpenRun.get.Goals as goal

pub returns-clause-exact : goal.returns-clause-exact
returns-clause-exact g c =
    let h = hashes g.H.BlockHash.hash64 g.H.BlockHash.hash128 in
    let old = c.args.source.now in
    let new = c.read_by_kept.new.source in
    subst (λ (w : KeptParts). IsOpenedOf h (placed g.S.FrameSource.bytes c.args.place.now old) w → IfSome (placed g.S.FrameSource.bytes c.args.place.now old) (λ all. GivesOr (g.S.FrameSource.failures old < g.S.FrameSource.failures new) (g.S.FrameSource.is_reliable old) (λ x. x) c.read_by_kept.result (read_checked h all w.handles c.args.needle.now c.args.seqno)))
    c.self.view_is
    (λ opened. checked_on h _ c.self.inside.handles _ _ _ c.args.needle.now c.args.seqno _ _ _ opened (rw (c.new.ensures ∙ c.by_ref.ensures) at c.read_by_kept.ensures.exact))
    c.requires.opened

pub returns-clause-sound : goal.returns-clause-sound
returns-clause-sound g c = sound_on (hashes g.H.BlockHash.hash64 g.H.BlockHash.hash128) _ _ _ _ c.args.self.now.handles _ _
    (λ all blocks sound. c.sound_is_read.ensures (hashes g.H.BlockHash.hash64 g.H.BlockHash.hash128) blocks all c.args.self.now.handles c.args.needle.now c.args.seqno g.met.H.BlockHash.hash128_fits sound)
    (returns-clause-exact g c)

pub returns-clause-counts : goal.returns-clause-counts
returns-clause-counts g c =
    let h = hashes g.H.BlockHash.hash64 g.H.BlockHash.hash128 in
    let old = c.args.source.now in
    subst (λ (w : KeptParts). IsOpenedOf h (placed g.S.FrameSource.bytes c.args.place.now old) w → IfSome (placed g.S.FrameSource.bytes c.args.place.now old) (λ all. CountsBetween c.args.steps.now c.read_by_kept.new.steps (0, 0) (heads_most_in all w.handles c.args.needle.now c.args.seqno, entries_most_in all w.handles c.args.needle.now c.args.seqno)))
    c.self.view_is
    (λ opened. kept_counts h _ c.self.inside.handles _ _ _ c.args.needle.now c.args.seqno _ _ opened (rw (c.new.ensures ∙ c.by_ref.ensures) at c.read_by_kept.ensures.counts))
    c.requires.opened
