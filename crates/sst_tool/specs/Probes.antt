-- How many probes a filter may claim.
use Rattle.std.specs.Prelude.{ℕ, ◌*◌, ◌||◌, nat_le, Bool}

-- may a filter of so many probes of a key, and of so many bits, be asked for each of so many entries?
abbrev pub may_ask : ℕ → ℕ → ℕ → Bool
may_ask probes bits entries = nat_le probes 1000 || nat_le (probes * entries) bits
