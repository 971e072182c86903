-- Where the entries with a key can be, by the hash index, and how little a point read examines then.
use Rattle.std.specs.Prelude.{ℕ, ◌+◌, ◌==◌, if◌then◌else◌, List, length}
use Rattle.sst_block_core.specs.Buckets.{buckets}
use Rattle.sst_block_core.specs.Pointers.{head_count}
use Rattle.sst_block_core.specs.Intervals.{digits}
use Rattle.sst_block_core.specs.Lookups.{lookup_in}
use Rattle.sst_block_core.specs.declared.table.block.hash_index.reader.Lookup.{Lookup}
use Rattle.sst_block_core.specs.declared.table.block.hash_index.reader.Lookup.TheVariants.{Nowhere, Interval, Anywhere}
use Rattle.sst_block_core.specs.Entries.{entries}
use Rattle.sst_block_core.specs.DataBlock.{DataBlockParts, DataRefParts, ref_of_block}

-- what the hash index of a data block says of a key, if there is one
abbrev pub ref_lookup : (List ℕ → ℕ) → DataRefParts → List ℕ → Lookup
ref_lookup hash d key = if d.stored == 0 then Anywhere else lookup_in hash (buckets entries hash d.interval d.items d.stored) key

abbrev pub lookup : (List ℕ → ℕ) → DataBlockParts → List ℕ → Lookup
lookup hash d key = ref_lookup hash (ref_of_block d) key

-- the most heads that a point read examines: none, unless it searches all heads
abbrev pub heads_most : Lookup → ℕ → ℕ
heads_most Nowhere heads = 0
heads_most (Interval n) heads = 0
heads_most Anywhere heads = digits heads

-- the most entries that a point read decodes: those of one interval, and after a search one more
abbrev pub entries_most : Lookup → ℕ → ℕ
entries_most Nowhere interval = 0
entries_most (Interval n) interval = interval
entries_most Anywhere interval = interval + 1

-- the fewest heads that a point read examines: one where it searches them
abbrev pub heads_least : Lookup → ℕ
heads_least Nowhere = 0
heads_least (Interval n) = 0
heads_least Anywhere = 1

-- the fewest entries that a point read decodes: the head of the interval that the hash index gives
abbrev pub entries_least : Lookup → ℕ
entries_least Nowhere = 0
entries_least (Interval n) = 1
entries_least Anywhere = 0

-- the same for a key in a data block
abbrev pub read_heads : (List ℕ → ℕ) → DataBlockParts → List ℕ → ℕ
read_heads hash d key = heads_most (lookup hash d key) (head_count d.interval (length d.items))

abbrev pub read_entries : (List ℕ → ℕ) → DataBlockParts → List ℕ → ℕ
read_entries hash d key = entries_most (lookup hash d key) d.interval

-- the most heads, and the most entries, that a point read of a key in a data block examines
abbrev pub ref_read_most : (List ℕ → ℕ) → DataRefParts → List ℕ → ℕ × ℕ
ref_read_most hash d key = (heads_most (ref_lookup hash d key) (head_count d.interval (length d.items)), entries_most (ref_lookup hash d key) d.interval)

abbrev pub read_most : (List ℕ → ℕ) → DataBlockParts → List ℕ → ℕ × ℕ
read_most hash d key = (read_heads hash d key, read_entries hash d key)

-- the fewest heads, and the fewest entries
abbrev pub ref_read_least : (List ℕ → ℕ) → DataRefParts → List ℕ → ℕ × ℕ
ref_read_least hash d key = (heads_least (ref_lookup hash d key), entries_least (ref_lookup hash d key))

abbrev pub read_least : (List ℕ → ℕ) → DataBlockParts → List ℕ → ℕ × ℕ
read_least hash d key = ref_read_least hash (ref_of_block d) key
