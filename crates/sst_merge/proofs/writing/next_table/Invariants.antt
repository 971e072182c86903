use Rattle.std.proofs.Common.{◌≡◌, ◌<◌, ◌≤◌, List, [], ◌∷◌, ◌++◌, length, map}
use Rattle.std.specs.List.{AllByRecursion}
use Rattle.std.specs.Option.{IfSome}
use Rattle.sstable_blocks.specs.Prelude.{Entry}
use Rattle.sstable_blocks.specs.Blocks.{joined}
use Rattle.sst_sources.specs.Sources.{IsTaken, MeetsNoMore}
use Rattle.sst_merge.specs.Tables.{IsFilled, IsShortest, blocks_len, capped, entries_in}
use Rattle.sst_merge.proofs.writing.next_table.Given as goal

abbrev pub invariant-loop-alloc : goal.invariant-loop-alloc
invariant-loop-alloc g l = record {
  form : (g.K.TableWriter.so_far l.table).form ≡ l.fn.form;
  start : (g.K.TableWriter.so_far l.table).start ≡ g.K.Writer.Write.contents l.fn.writer;
  accepts : g.K.TableWriter.accepts l.table;
  reliable : g.K.Writer.Output.never_fails l.fn.writer → g.K.TableWriter.is_reliable l.table;
  some : 1 ≤ length (g.K.TableWriter.so_far l.table).blocks;
  last : (front : List (List Entry)) × ((g.K.TableWriter.so_far l.table).blocks ≡ front ++ map g.T.AsEntry.entry l.block.items ∷ []);
  entries : 1 ≤ length l.block.items;
  len : l.len ≡ capped (blocks_len l.interval (g.K.TableWriter.so_far l.table).blocks);
  filled : AllByRecursion (IsFilled l.interval l.sizes.block (entries_in g.T.AsEntry.entry l.source.list)) (g.K.TableWriter.so_far l.table).blocks;
  shortest : IfSome (entries_in g.T.AsEntry.entry l.fn.source.list) (λ _. IsShortest l.interval l.sizes.table (g.K.TableWriter.so_far l.table).blocks);
  taken : IsTaken (entries_in g.T.AsEntry.entry l.fn.source.list) (joined (g.K.TableWriter.so_far l.table).blocks) (entries_in g.T.AsEntry.entry l.source.list);
  most : l.source.most < l.fn.source.most;
  ended : l.source.ended ≡ l.fn.source.ended;
  no_more : MeetsNoMore l.fn.source l.source;
}

abbrev pub decreases-loop-alloc : goal.decreases-loop-alloc
decreases-loop-alloc g l = l.source.most
