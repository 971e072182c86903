use Rattle.std.proofs.Common.{◌≡◌, ◌-◌, ◌≤◌, map, take}
use Rattle.sst_block_core.specs.DataBlock.{DataRefParts}
use Rattle.sstable_blocks.specs.RunBlocks.{block_of}
use Rattle.sstable_blocks.specs.Opened.{index_in}
use Rattle.sstable_blocks.proofs.run.run_ref.RunRef.blocks_of.Given as goal

abbrev pub invariant-loop-i : goal.invariant-loop-i
invariant-loop-i g l = record {
  inside : l.i ≤ l.count;
  opened : map (λ (d : DataRefParts). d.items) l.blocks.items ≡ map (block_of l.self) (take l.i (index_in l.self.bytes l.self.handles.index));
}

abbrev pub decreases-loop-i : goal.decreases-loop-i
decreases-loop-i g l = l.count - l.i
