use Rattle.sstable_blocks.proofs.ManyReads.Needles.{IsOnWay}
use Rattle.sstable_blocks.proofs.run.many.read_many.Given as goal

abbrev pub invariant-loop-needle : goal.invariant-loop-needle
invariant-loop-needle g l = IsOnWay g.S.FrameSource.bytes g.S.FrameSource.failures g.S.FrameSource.reads g.S.FrameSource.is_reliable g.R.KeyReader.reader_of g.R.KeyReader.answer g.R.KeyReader.frames l.initial.source l.source l.initial.reader l.reader l.needles l.needle-index l.found.items
