-- The blocks of a run over borrowed bytes.
use Rattle.std.specs.Prelude.{List, map}
use Rattle.sst_base.specs.Entry.{Entry}
use Rattle.sst_block_core.specs.Entries.{entries}
use Rattle.sst_block_core.specs.Handles.{Handle}
use Rattle.sst_block_core.specs.Stages.{items_in}
use Rattle.sstable_blocks.specs.Opened.{index_in, payload_in, range_of}
use Rattle.sstable_blocks.specs.Sound.{RunParts}

-- the entries of the block of a handle, and of those of all handles of a run, as they are in its bytes
abbrev pub block_of : RunParts → Handle → List Entry
block_of run h = items_in entries (payload_in run.bytes (range_of h))

abbrev pub blocks_in : RunParts → List (List Entry)
blocks_in run = map (block_of run) (index_in run.bytes run.handles.index)
