-- What a counter of steps has counted.
use Rattle.std.specs.Prelude.{◌≡◌, ◌≤◌, ◌+◌, ℕ, Option, Some, None}

-- how many heads and how many entries were counted
pub record Counted : Type 0 where
  pub heads : ℕ
  pub entries : ℕ

-- 1 where there is an item, else 0
abbrev pub found_item : {A : Type 0} → Option A → ℕ
found_item None = 0
found_item (Some x) = 1

-- nothing was counted yet
pub record IsZero (steps : Counted) : Type 0 where
  pub heads : steps.heads ≡ 0
  pub entries : steps.entries ≡ 0

-- exactly h heads and exactly e entries were counted
pub record CountsExactly (old new : Counted) (h e : ℕ) : Type 0 where
  pub heads : new.heads ≡ old.heads + h
  pub entries : new.entries ≡ old.entries + e

-- at least and at most these numbers were counted; the first of each pair is for heads, the second for entries
pub record CountsBetween (old new : Counted) (least most : ℕ × ℕ) : Type 0 where
  pub heads_least : old.heads + least.0 ≤ new.heads
  pub heads_most : new.heads ≤ old.heads + most.0
  pub entries_least : old.entries + least.1 ≤ new.entries
  pub entries_most : new.entries ≤ old.entries + most.1
