-- Ranges of user keys.
use Rattle.std.specs.Prelude.{ℕ, Bool, ◌&&◌, List, filter}
use Rattle.std.specs.Ordering.{nat_cmp, is_le, is_ge}
use Rattle.std.specs.Cmp.Lexicographic.{slice_cmp}
use Rattle.sstable_blocks.specs.Prelude.{Entry}

-- is a key between a first and a last one, both included?
abbrev pub covers : List ℕ → List ℕ → List ℕ → Bool
covers first last key = is_le (slice_cmp nat_cmp first key) && is_ge (slice_cmp nat_cmp last key)

-- the entries with a user key between a first and a last one
abbrev pub ranged : List ℕ → List ℕ → List Entry → List Entry
ranged first last items = filter (λ e. covers first last e.key.user_key) items
