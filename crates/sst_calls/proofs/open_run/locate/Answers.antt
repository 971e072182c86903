use Rattle.std.proofs.Common.{◌≡◌, refl, ap, subst, ◌∙◌}
use Rattle.sstable_blocks.specs.Opened.{IsDenied}
use Rattle.sstable_blocks.specs.PointLaws.{found_denied}
use Rattle.sstable_blocks.specs.RunReading.{hashes}
use Rattle.sstable_blocks.specs.Sound.{RunParts}
use Rattle.sstable_blocks.specs.declared.run.RunHandles.{RunHandles}
use Rattle.sst_calls.specs.Runs.{handles_given}
use Rattle.sst_calls.proofs.open_run.locate.Goals as goal

pub returns-then-not-may_have-clause-found : goal.returns-then-not-may_have-clause-found
returns-then-not-may_have-clause-found g c = λ blocks sound.
    let bytes = c.args.bytes.now in
    let h = handles_given c.args.run.now.handles in
    let o = c.sound_opens.ensures (hashes g.H.BlockHash.hash64 g.H.BlockHash.hash128) blocks bytes h sound in
    let same : c.new-sound.result ≡ record { bytes = bytes; handles = h } = c.new-sound.ensures ∙ ap (λ (x : RunHandles). record { bytes = bytes; handles = x }) c.run_handles-handles.ensures in
    let denied = subst (λ (v : RunParts). IsDenied v.bytes v.handles.filter (g.H.BlockHash.hash64 c.args.key.now)) same (c.may_have.ensures.0 c.if-not-may_have.true) in
    found_denied g.H.BlockHash.hash64 blocks bytes h c.args.key.now c.args.below o _ refl denied
