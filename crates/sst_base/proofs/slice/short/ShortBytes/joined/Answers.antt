use Rattle.sst_base.proofs.Strings.ShortSlices.{joined_front}
use Rattle.sst_base.proofs.slice.short.ShortBytes.joined.Goals as goal

pub returns : goal.returns
returns c = joined_front c.args.left.now c.args.right.now c.copy_from_slice.new.self c.copy_from_slice-2.new.self _ _ c.copy_from_slice.ensures.after c.copy_from_slice-2.ensures.after
