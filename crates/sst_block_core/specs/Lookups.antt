-- Where the items with a key can be, by its bucket.
use Rattle.std.specs.Prelude.{ℕ, ◌%◌, ◌==◌, if◌then◌else◌, List, length, slice_index}
use Rattle.sst_block_core.specs.declared.table.block.hash_index.reader.Lookup.{Lookup}
use Rattle.sst_block_core.specs.declared.table.block.hash_index.reader.Lookup.TheVariants.{Nowhere, Interval, Anywhere}

-- what the byte of a bucket says
abbrev pub lookup_of : ℕ → Lookup
lookup_of byte = if byte == 254 then Nowhere else if byte == 255 then Anywhere else Interval byte

-- what the bucket of a key says
abbrev pub lookup_in : (List ℕ → ℕ) → List ℕ → List ℕ → Lookup
lookup_in hash table key = lookup_of (slice_index table (hash key % length table))
