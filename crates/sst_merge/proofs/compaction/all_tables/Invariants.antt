use Rattle.std.proofs.Common.{◌≡◌}
use Rattle.sst_merge.specs.Outputs.{AreWritten}
use Rattle.sst_sources.specs.Sources.{MeetsNoMore}
use Rattle.sst_merge.specs.Tables.{entries_in}
use Rattle.sst_merge.proofs.compaction.all_tables.Given as goal

abbrev pub invariant-loop-alloc : goal.invariant-loop-alloc
invariant-loop-alloc g l = record {
  written : AreWritten (g.K.TableWriter.kind l.form) l.sizes g.O.Outputs.start (entries_in g.T.AsEntry.entry l.fn.source.list) (entries_in g.T.AsEntry.entry l.source.list) (g.O.Outputs.tables l.fn.outputs) (g.O.Outputs.tables l.outputs);
  ended : l.source.ended ≡ l.fn.source.ended;
  no_more : MeetsNoMore l.fn.source l.source;
}

abbrev pub decreases-loop-alloc : goal.decreases-loop-alloc
decreases-loop-alloc g l = l.source.most
