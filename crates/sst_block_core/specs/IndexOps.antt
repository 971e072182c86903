-- Operations of an iterator over handles as steps of a window.
use Rattle.sst_block_core.specs.Handles.{Handle, handles}
use Rattle.sst_block_core.specs.Window.{Step, next, next_back, seek_index, seek_upper_index}
use Rattle.sst_block_core.specs.declared.table.index_block.ops.IndexOp.{IndexOp}
use Rattle.sst_block_core.specs.declared.table.index_block.ops.IndexOp.TheVariants.{Next, NextBack, Seek, SeekUpper}

-- the step of an operation
abbrev pub step_of : IndexOp → Step Handle
step_of Next = next
step_of NextBack = next_back
step_of (Seek key seqno) = seek_index handles key seqno
step_of (SeekUpper key seqno) = seek_upper_index handles key
