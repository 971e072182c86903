use Rattle.std.proofs.Common.{◌≡◌, ◌+◌, ◌*◌, ◌++◌, length, take}
use Rattle.std.specs.List.{flat_map}
use Rattle.byteorder.specs.Endian.{little_bytes}
use Rattle.sst_block_core.proofs.table.block.binary_index.builder.put_narrow_pointers.Given as goal

abbrev pub invariant-loop-pointer : goal.invariant-loop-pointer
invariant-loop-pointer l = (l.end ≡ l.fn.at + 2 * l.pointer-index) × (length l.index ≡ length l.fn.index)
    × (take l.end l.index ≡ take l.fn.at l.fn.index ++ flat_map (little_bytes 2) (take l.pointer-index l.pointers))
