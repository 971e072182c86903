use Rattle.sstable_blocks.proofs.Layouts.SoundLayouts.{layout_is_sound}
use Rattle.sstable_blocks.proofs.run.laws.layout_is_sound.Goals as goal

pub returns : goal.returns
returns c = layout_is_sound
