-- How many bits a filter has for each key.
use Rattle.std.specs.Prelude.{ℕ}
use Rattle.sstable_blocks.specs.declared.table.filter.policy.BloomConstructionPolicy.{BloomConstructionPolicy}
use Rattle.sstable_blocks.specs.declared.table.filter.policy.BloomConstructionPolicy.TheVariants.{BitsPerKey}

-- the bits for each key; 0 is no filter
abbrev pub bits_per_key : BloomConstructionPolicy → ℕ
bits_per_key (BitsPerKey bits) = bits
