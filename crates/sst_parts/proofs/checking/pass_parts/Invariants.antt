use Rattle.std.proofs.Common.{◌≡◌, ◌+◌, ◌≤◌, length}
use Rattle.std.specs.List.{AllByRecursion}
use Rattle.sstable_blocks.specs.Prelude.{items_left, EndFits}
use Rattle.sst_parts.specs.PartChecks.{check_part, no_parts}
use Rattle.sstable_blocks.specs.RunReading.{hashes}
use Rattle.sstable_blocks.specs.Sources.{KeepsSource}
use Rattle.sstable_blocks.specs.WalkLaws.{FramesLeft, WalkLeft}
use Rattle.sstable_blocks.specs.Walks.{place_frames}
use Rattle.sst_parts.proofs.checking.pass_parts.Given as goal

abbrev pub invariant-loop-item : goal.invariant-loop-item
invariant-loop-item g l = record {
  payload : l.item-iterator.payload ≡ l.index.payload;
  fits : AllByRecursion EndFits (items_left l.item-iterator.window);
  source : KeepsSource g.S.FrameSource.bytes g.S.FrameSource.failures g.S.FrameSource.is_reliable l.initial.source l.source;
  reads : g.S.FrameSource.reads l.source + length (items_left l.item-iterator.window) ≡ g.S.FrameSource.reads l.initial.source + length l.index.items;
  grow : g.S.FrameSource.reads l.initial.source ≤ g.S.FrameSource.reads l.source;
  asked : FramesLeft (λ all. check_part (hashes g.H.BlockHash.hash64 g.H.BlockHash.hash128) all) no_parts l.index.items (λ s h. place_frames s.offset h) (g.S.FrameSource.bytes l.initial.source) l.passed (items_left l.item-iterator.window) (g.S.FrameSource.reads l.initial.source) (g.S.FrameSource.reads l.source);
  known : WalkLeft (λ all. check_part (hashes g.H.BlockHash.hash64 g.H.BlockHash.hash128) all) no_parts l.index.items (g.S.FrameSource.bytes l.initial.source) l.passed (items_left l.item-iterator.window);
}
