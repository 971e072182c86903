use Rattle.std.proofs.Common.{◌≡◌, ◌+◌, ◌-◌, ◌≤◌, List, length}
use Rattle.std.specs.Option.{IfSome}
use Rattle.sstable_blocks.specs.Blocks.{joined}
use Rattle.sstable_blocks.specs.Prelude.{Entry}
use Rattle.sstable_blocks.specs.RunReading.{hashes}
use Rattle.sstable_blocks.specs.Sources.{KeepsSource}
use Rattle.sst_sources.specs.Sources.{MeetsNoMore}
use Rattle.sst_parts.specs.PartMerges.{IsSameCopier, Merges}
use Rattle.sst_parts.specs.Parts.{IsParted}
use Rattle.sst_parts.proofs.Merged.Steps.{from_part}
use Rattle.sst_parts.proofs.merging.merge_each.Given as goal

abbrev pub invariant-parts : goal.invariant-parts
invariant-parts g l = record {
  kept : l.base ≡ record l.fn.base { source = l.base.source };
  source : KeepsSource g.S.FrameSource.bytes g.S.FrameSource.failures g.S.FrameSource.is_reliable l.fn.base.source l.base.source;
  asks : g.S.FrameSource.reads l.base.source ≡ g.S.FrameSource.reads l.fn.base.source + l.index;
  inside : l.index ≤ length l.handles;
  merged : IfSome (g.S.FrameSource.bytes l.fn.base.source) (λ all. (parts : List (List (List Entry))) → IsParted (hashes g.H.BlockHash.hash64 g.H.BlockHash.hash128) parts all l.fn.base.top
      → Merges (hashes g.H.BlockHash.hash64 g.H.BlockHash.hash128) l.fn.filler l.filler l.fn.newer.list l.newer.list (joined (joined parts)) (from_part parts l.index));
  same : IsSameCopier g.W.Output.never_fails l.fn.filler l.filler;
  no_more : MeetsNoMore l.fn.newer l.newer;
}

abbrev pub decreases-parts : goal.decreases-parts
decreases-parts g l = length l.handles - l.index
