use Rattle.sst_parts.specs.CachedParts.{AreAdded}
use Rattle.sst_tests.proofs.parts.count_wrong.Given as goal

abbrev pub invariant-loop-key : goal.invariant-loop-key
invariant-loop-key g l = AreAdded g.S.FrameSource.bytes l.parts l.blocks l.table.numbers l.table.table.source

abbrev pub invariant-loop-seqno : goal.invariant-loop-seqno
invariant-loop-seqno g l = AreAdded g.S.FrameSource.bytes l.parts l.blocks l.table.numbers l.table.table.source
