-- The ranges of blocks, as their handles say.
use Rattle.sst_base.specs.BlockHandle.{HandleParts}
use Rattle.sst_block_core.specs.Handles.{Handle}

-- the offset and the size of a handle's block
abbrev pub handle_range : Handle → HandleParts
handle_range h = record { offset = h.offset; size = h.size }
