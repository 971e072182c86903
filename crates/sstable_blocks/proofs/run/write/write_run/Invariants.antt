use Rattle.std.proofs.Common.{◌≡◌, ◌++◌, length, map, drop}
use Rattle.std.specs.Io.KnownBytes.{Appends}
use Rattle.sstable_blocks.specs.Blocks.{blocks_from, blocks_of}
use Rattle.sstable_blocks.proofs.Lists.Cuts.{CutsLeft}
use Rattle.sstable_blocks.specs.Run.{form, block_frames}
use Rattle.sstable_blocks.proofs.run.write.write_run.Given as goal

abbrev pub invariant-loop-cut : goal.invariant-loop-cut
invariant-loop-cut g l = record {
  config : l.core.config ≡ l.initial.core.config;
  so_far : l.core.blocks ++ blocks_from l.start (drop l.cut-index l.cuts) (map g.T.AsEntry.entry l.items) ≡ blocks_of l.cuts (map g.T.AsEntry.entry l.items);
  rest : l.rest ≡ drop l.start l.items;
  cuts_left : CutsLeft l.start (length l.items) (drop l.cut-index l.cuts);
  reliable : g.W.Output.never_fails l.initial.writer → g.W.Output.never_fails l.writer;
  bytes : Appends (g.W.Write.contents l.initial.writer) (g.W.Write.contents l.writer) (block_frames (form g.H.BlockHash.hash64 g.H.BlockHash.hash128 l.core.config) l.core.blocks);
}
