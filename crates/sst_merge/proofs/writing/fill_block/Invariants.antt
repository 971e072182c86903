use Rattle.std.proofs.Common.{◌≡◌, ◌+◌, ◌%◌, ◌<◌, ◌≤◌, length, map}
use Rattle.sst_merge.specs.SizeLaws.{IsBelow}
use Rattle.sst_sources.specs.Sources.{IsTaken, MeetsNoMore}
use Rattle.sst_merge.specs.Tables.{capped, block_len}
use Rattle.sst_merge.proofs.writing.fill_block.Given as goal

abbrev pub invariant-loop-alloc : goal.invariant-loop-alloc
invariant-loop-alloc g l = record {
  taken : IsTaken l.fn.source.list l.block.items l.source.list;
  most : l.source.most + length l.block.items ≤ l.fn.source.most;
  len : l.len ≡ capped (block_len l.interval (map g.T.AsEntry.entry l.block.items));
  phase : (l.phase ≡ length l.block.items % l.interval) × (l.phase < l.interval);
  below : IsBelow l.interval l.size (map g.T.AsEntry.entry l.block.items);
  ended : l.source.ended ≡ l.fn.source.ended;
  no_more : MeetsNoMore l.fn.source l.source;
}

abbrev pub decreases-loop-alloc : goal.decreases-loop-alloc
decreases-loop-alloc g l = l.source.most
