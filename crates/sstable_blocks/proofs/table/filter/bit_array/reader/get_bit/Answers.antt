use Rattle.sstable_blocks.proofs.Filters.Bits.{bit_read}
use Rattle.sstable_blocks.proofs.table.filter.bit_array.reader.get_bit.Goals as goal

pub returns : goal.returns
returns c = bit_read c.args.byte c.args.index c.requires
