-- Scans from the back.
use Rattle.std.specs.Prelude.{ℕ, Bool, true, nat_lt, if◌then◌else◌, Option, Some, None}
use Rattle.std.specs.Ordering.{nat_cmp, is_eq}
use Rattle.std.specs.Cmp.Lexicographic.{slice_cmp}
use Rattle.sstable_blocks.specs.Prelude.{Entry}

-- is an entry a version of the key of the one kept, if one is?
abbrev pub is_same_key : Option Entry → Entry → Bool
is_same_key None e = true
is_same_key (Some kept) e = is_eq (slice_cmp nat_cmp e.key.user_key kept.key.user_key)

-- the newest version below a sequence number so far of an entry's key, where the versions of a key come from the oldest
-- to the newest, and one of the key before, or of the same key, is kept
abbrev pub newest_below : ℕ → Option Entry → Entry → Option Entry
newest_below at kept e = if nat_lt e.key.seqno at then Some e else if is_same_key kept e then kept else None
