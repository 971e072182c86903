use Rattle.sst_base.proofs.Strings.ShortSlices.{cut_front}
use Rattle.sst_base.proofs.slice.short.ShortBytes.front.Goals as goal

pub returns-in-Some : goal.returns-in-Some
returns-in-Some c = cut_front c.args.bytes.now c.in-Some.front.now c.args.len c.requires.short c.in-Some.ensures.cases
