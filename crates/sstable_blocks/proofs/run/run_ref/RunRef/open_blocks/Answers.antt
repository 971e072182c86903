use Rattle.std.proofs.Common.{List, subst, sym, ◌∙◌}
use Rattle.std.specs.List.{AllByRecursion}
use Rattle.sst_base.specs.Entry.{Entry}
use Rattle.sst_block_core.specs.Entries.{entries}
use Rattle.sst_block_core.specs.Kind.{IsOrdered}
use Rattle.sstable_blocks.specs.Blocks.{IsNotEmpty, joined}
use Rattle.sstable_blocks.specs.RunReading.{hashes}
use Rattle.sstable_blocks.proofs.Reading.OpenedBlocks.{sound_blocks, sound_ordered, sound_some}
use Rattle.sstable_blocks.proofs.run.run_ref.RunRef.open_blocks.Goals as goal

pub returns-in-Ok-clause-blocks : goal.returns-in-Ok-clause-blocks
returns-in-Ok-clause-blocks g c = λ blocks sound.
    let run = c.args.self.now in
    c.in-Ok.ensures.blocks ∙ sound_blocks g.H.BlockHash.hash64 blocks run (c.sound_opens.ensures (hashes g.H.BlockHash.hash64 g.H.BlockHash.hash128) blocks run.bytes run.handles sound)

pub returns-in-Ok-clause-ordered : goal.returns-in-Ok-clause-ordered
returns-in-Ok-clause-ordered g c =
    let run = c.args.self.now in
    let h = hashes g.H.BlockHash.hash64 g.H.BlockHash.hash128 in
    let s = c.note_sound.ensures in
    let is = c.in-Ok.ensures.blocks ∙ sound_blocks g.H.BlockHash.hash64 s.0 run (c.sound_opens.ensures h s.0 run.bytes run.handles s.1) in
    subst (λ (xss : List (List Entry)). IsOrdered entries (joined xss)) (sym is) (sound_ordered h s.0 run.bytes run.handles s.1)

pub returns-in-Ok-clause-some : goal.returns-in-Ok-clause-some
returns-in-Ok-clause-some g c =
    let run = c.args.self.now in
    let h = hashes g.H.BlockHash.hash64 g.H.BlockHash.hash128 in
    let s = c.note_sound.ensures in
    let is = c.in-Ok.ensures.blocks ∙ sound_blocks g.H.BlockHash.hash64 s.0 run (c.sound_opens.ensures h s.0 run.bytes run.handles s.1) in
    subst (λ (xss : List (List Entry)). AllByRecursion IsNotEmpty xss) (sym is) (sound_some h s.0 run.bytes run.handles s.1)
