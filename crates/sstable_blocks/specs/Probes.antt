-- The probes of a hash: the indexes of its bits in a filter of m bits. They are counted from 0.
use Rattle.std.specs.Prelude.{◌≡◌, ℕ, zero, suc, ◌+◌, ◌*◌, ◌/◌, ◌%◌, ◌^◌, ◌<◌}

-- n!
abbrev pub factorial : ℕ → ℕ
factorial zero = 1
factorial (suc n) = factorial n * suc n

-- 0! + 1! + .. + (n - 1)!, which is 0 for n = 0
abbrev pub factorial_sum : ℕ → ℕ
factorial_sum zero = 0
factorial_sum (suc n) = factorial_sum n + factorial n

-- the second hash: the high 32 bits of the hash, times a constant
abbrev pub secondary_hash : ℕ → ℕ
secondary_hash hash = (hash / 2 ^ 32 * 0x517cc1b727220a95) % 2 ^ 64

-- probe i: ((hash + y * (0! + .. + (i - 1)!)) mod 2^64) mod m, where y is the second hash
abbrev pub probe : ℕ → ℕ → ℕ → ℕ
probe m hash i = (hash + secondary_hash hash * factorial_sum i) % 2 ^ 64 % m

-- a bit is one of the first k probes of a hash
abbrev pub IsProbe : ℕ → ℕ → ℕ → ℕ → Type 0
IsProbe m k hash bit = (i : ℕ) × (i < k) × (bit ≡ probe m hash i)
