-- The hash function of a table file.
use Rattle.std.specs.Prelude.{ℕ, List, is_ok, if◌then◌else◌, Option, Some, None}
use Rattle.xxh3.specs.Xxh3.{xxh3_128}
use Rattle.sstable_blocks.specs.Prelude.{poly31, header_at}
use Rattle.sst_tool.specs.declared.hash.TableHash.{TableHash}
use Rattle.sst_tool.specs.declared.hash.TableHash.TheVariants.{Poly31, Xxh3}

-- the hash function under which bytes begin with a header that has its own checksum
abbrev pub hash_shown : List ℕ → Option TableHash
hash_shown bytes = if is_ok (header_at (poly31 128) bytes) then Some Poly31 else if is_ok (header_at xxh3_128 bytes) then Some Xxh3 else None
