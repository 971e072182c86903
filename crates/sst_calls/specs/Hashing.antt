-- The hash functions that a caller chooses from.
use Rattle.std.specs.Prelude.{◌≡◌, ℕ, ◌==◌, if◌then◌else◌, List, Option, None, Some}
use Rattle.xxh3.specs.Xxh3.{xxh3_64, xxh3_128}
use Rattle.sstable_blocks.specs.Prelude.{hashes, poly31}
use Rattle.sstable_blocks.specs.RunReading.{Hashes}
use Rattle.sst_calls.specs.declared.codes.Status.{Status}
use Rattle.sst_calls.specs.declared.codes.Status.TheVariants.{BadArgument}
use Rattle.sst_calls.specs.declared.hash.Hash.{Hash}
use Rattle.sst_calls.specs.declared.hash.Hash.TheVariants.{Xxh3, Poly31}

-- the hash of bytes in 64 bits, that of keys
abbrev pub hash64_of : Hash → List ℕ → ℕ
hash64_of Xxh3 = xxh3_64
hash64_of Poly31 = poly31 64

-- the hash of bytes in 128 bits, that of checksums
abbrev pub hash128_of : Hash → List ℕ → ℕ
hash128_of Xxh3 = xxh3_128
hash128_of Poly31 = poly31 128

-- both
abbrev pub hashes_of : Hash → Hashes
hashes_of hash = hashes (hash64_of hash) (hash128_of hash)

-- the hash function of a number, if there is one
abbrev pub hash_given : ℕ → Option Hash
hash_given number = if number == 0 then Some Xxh3 else if number == 1 then Some Poly31 else None

-- what a call says by the hash function that is given; where none is, that the argument is bad, and what was left
abbrev pub IsHashed : Option Hash → Status → Type 0 → (Hash → Type 0) → Type 0
IsHashed None s left says = (s ≡ BadArgument) × left
IsHashed (Some hash) s left says = says hash
