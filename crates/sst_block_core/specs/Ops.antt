-- Operations of an iterator as steps of a window.
use Rattle.sst_base.specs.Entry.{Entry}
use Rattle.sst_block_core.specs.Entries.{entries}
use Rattle.sst_block_core.specs.Window.{Step, next, next_back, seek, seek_upper, seek_exclusive, seek_upper_exclusive}
use Rattle.sst_block_core.specs.declared.table.data_block.ops.Op.{Op}
use Rattle.sst_block_core.specs.declared.table.data_block.ops.Op.TheVariants.{Next, NextBack, Seek, SeekUpper, SeekExclusive, SeekUpperExclusive}

-- the step of an operation
abbrev pub step_of : Op → Step Entry
step_of Next = next
step_of NextBack = next_back
step_of (Seek key) = seek entries key
step_of (SeekUpper key) = seek_upper entries key
step_of (SeekExclusive key) = seek_exclusive entries key
step_of (SeekUpperExclusive key) = seek_upper_exclusive entries key
