-- Where blocks end, by the index.
use Rattle.std.specs.Prelude.{ℕ, ◌+◌, ◌-◌, ◌^◌, ◌&&◌, List, Bool, nat_le, nat_lt, if◌then◌else◌, Option, Some, None}
use Rattle.sstable_blocks.specs.Prelude.{Key, count_passed, Handle, handles}

-- the next greater number, if there is one
abbrev pub above : ℕ → Option ℕ
above n = if nat_lt n (2 ^ 64 - 1) then Some (n + 1) else None

-- has the handle at an index this key and sequence number? no more handles than its index come before these, and it is
-- one of those that don't come after them
abbrev pub is_end_at : List Handle → ℕ → Key → Bool
is_end_at hs at k = nat_le (count_passed handles k.user_key (above k.seqno) hs) at && nat_lt at (count_passed handles k.user_key (Some k.seqno) hs)
