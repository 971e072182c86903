-- Bloom filters: their numbers, their bits, and their payload.
use Rattle.std.specs.Prelude.{◌≡◌, ◌↔◌, ℕ, ◌+◌, ◌*◌, ◌/◌, ◌≤◌, ◌<◌, max, List, ◌∷◌, ◌++◌, length, take, drop, replicate, slice_index, nat_lt, nat_le, nat_eq, Bool, not, ◌&&◌, if◌then◌else◌, Result, Ok, Err}
use Rattle.std.specs.List.{Contains}
use Rattle.std.specs.Cmp.Lexicographic.{pointwise}
use Rattle.byteorder.specs.Endian.{little_bytes, little_number}
use Rattle.sst_base.specs.Header.{magic}
use Rattle.sst_base.specs.declared.error.Error.{Error}
use Rattle.sst_base.specs.declared.error.Error.TheVariants.{Truncated, InvalidHeader, InvalidTag, BadFilter}
use Rattle.sst_base.specs.declared.error.HeaderName.TheVariants as names
use Rattle.sst_base.specs.declared.error.TagName.TheVariants as tags
use Rattle.sst_block_core.specs.Checks.{all_below}
use Rattle.sstable_blocks.specs.Bits.{HasBit, has_bit}
use Rattle.sstable_blocks.specs.Probes.{probe, IsProbe}

pub record Filter : Type 0 where
  -- the number of bits
  pub m : ℕ
  -- the number of probes of a hash
  pub k : ℕ
  -- the bits, eight in a byte
  pub bits : List ℕ

-- there are m bits, and 1 to m probes
pub record HasProbes (f : Filter) : Type 0 where
  pub bits : f.m ≡ 8 * length f.bits
  pub some : 1 ≤ f.k
  pub most : f.k ≤ f.m

-- the number of bits for n keys: n * bpk, rounded up to a multiple of 8
abbrev pub bit_count : ℕ → ℕ → ℕ
bit_count n bpk = (n * bpk + 7) / 8 * 8

-- the number of probes at bpk bits for each key: bpk times the logarithm of 2, rounded down, at least 1
abbrev pub probe_count : ℕ → ℕ
probe_count bpk = max (bpk * 693147 / 1000000) 1

-- the filter for n keys at bpk bits each, before any is inserted
abbrev pub empty_filter : ℕ → ℕ → Filter
empty_filter n bpk = record { m = bit_count n bpk; k = probe_count bpk; bits = replicate (bit_count n bpk / 8) 0 }

-- these hashes were inserted, and no others: the bits that are set are the probes of these hashes
pub record IsFilterOf (hashes : List ℕ) (f : Filter) : Type 0 where
  pub sized : HasProbes f
  pub set : (bit : ℕ) → HasBit f.bits bit ↔ ((hash : ℕ) × Contains hashes hash × IsProbe f.m f.k hash bit)

-- the bit of each probe of a hash is set
abbrev pub MayContain : Filter → ℕ → Type 0
MayContain f hash = (i : ℕ) → i < f.k → HasBit f.bits (probe f.m hash i)

-- the same, as a test
abbrev pub may_contain : Filter → ℕ → Bool
may_contain f hash = all_below f.k (λ i. has_bit f.bits (probe f.m hash i))

-- magic (4), filter type 0 (1), hash type 0 (1), m (8), k (8), bits (m / 8)
unfoldable pub filter_payload : Filter → List ℕ
filter_payload f = magic ++ (0 ∷ 0 ∷ (little_bytes 8 f.m ++ (little_bytes 8 f.k ++ f.bits)))

-- the numbers and the bits of at least 22 bytes
abbrev pub filter_in : List ℕ → Filter
filter_in bytes = record { m = little_number 8 (drop 6 bytes); k = little_number 8 (drop 14 bytes); bits = drop 22 bytes }

-- HasProbes, as a test
abbrev pub is_sized : Filter → Bool
is_sized f = nat_eq f.m (8 * length f.bits) && (nat_le 1 f.k && nat_le f.k f.m)

-- the filter that a payload encodes, or the first refusal: length, magic, filter type, hash type, numbers
unfoldable pub filter_at : List ℕ → Result Filter Error
filter_at bytes =
    if nat_lt (length bytes) 22 then Err Truncated
    else if not (pointwise nat_eq (take 4 bytes) magic) then Err (InvalidHeader names.BloomFilter)
    else if not (nat_eq (slice_index bytes 4) 0) then Err (InvalidTag tags.FilterType (slice_index bytes 4))
    else if not (nat_eq (slice_index bytes 5) 0) then Err (InvalidTag tags.HashType (slice_index bytes 5))
    else if is_sized (filter_in bytes) then Ok (filter_in bytes)
    else Err BadFilter
