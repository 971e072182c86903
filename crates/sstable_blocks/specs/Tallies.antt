-- What a scan counts, and at most what its blocks cost: heads that are compared, and entries that are decoded, with the
-- handles of the index.
use Rattle.std.specs.Prelude.{◌≡◌, ℕ, ◌+◌, ◌-◌, ◌*◌, ◌/◌, ◌%◌, ◌≤◌, ◌==◌, ◌||◌, if◌then◌else◌, List, length, sum_by, Option, Some, None, Result, Ok, Err}
use Rattle.sst_base.specs.Counted.{Counted, found_item}
use Rattle.sst_base.specs.declared.error.Error.{Error}
use Rattle.sst_block_core.specs.Candidates.{scan_cost}
use Rattle.sst_block_core.specs.Entries.{entries}
use Rattle.sst_block_core.specs.Handles.{Handle}
use Rattle.sst_block_core.specs.Intervals.{digits}
use Rattle.sst_block_core.specs.Pointers.{head_count}
use Rattle.sst_block_core.specs.Scan.{Scan}
use Rattle.sst_block_core.specs.Stages.{items_in}
use Rattle.sstable_blocks.specs.Opened.{range_of, payload_in}
use Rattle.sstable_blocks.specs.ReadCosts.{interval_in}

-- the heads and the entries that were counted; and the entries with those that steps from the back may decode again, of
-- the blocks that are open
pub record Tally : Type 0 where
  pub heads : ℕ
  pub entries : ℕ
  pub due : ℕ

-- what counters counted
abbrev pub tally_by : Counted → Tally
tally_by c = record { heads = c.heads; entries = c.entries; due = c.entries }

-- At most how many entries steps from the back decode again, before an end in a block of n entries in intervals of r: all
-- before it where an interval ends there, else those before the head of its interval.
abbrev pub again_before : ℕ → ℕ → ℕ → ℕ
again_before r n hi = if ((hi % r) == 0 || hi == n) then hi else (hi - 1) / r * r

-- the same of a block that was opened
abbrev pub again_in : {X : Type 0} → Scan X → ℕ
again_in s = again_before s.interval (length s.window.list) s.window.hi

-- what was counted in it
abbrev pub scan_tally : {X : Type 0} → Scan X → Tally
scan_tally s = record { heads = s.steps.heads; entries = s.steps.entries; due = s.steps.entries + again_in s }

-- the same, if one was opened
abbrev pub tally_of : {P : Type 0} → (P → Tally) → Option P → Tally
tally_of tally None = record { heads = 0; entries = 0; due = 0 }
tally_of tally (Some p) = tally p

-- what was counted before, and in the blocks at both ends
abbrev pub tally_sum : Tally → Tally → Tally → Tally
tally_sum t u v = record { heads = t.heads + u.heads + v.heads; entries = t.entries + u.entries + v.entries; due = t.due + u.due + v.due }

abbrev pub tally_all : {P : Type 0} → (P → Tally) → Tally → Option P → Option P → Tally
tally_all tally before near far = tally_sum before (tally_of tally near) (tally_of tally far)

-- as many heads and entries as that at most
pub record IsUpTo (tally most : Tally) : Type 0 where
  pub heads : tally.heads ≤ most.heads
  pub entries : tally.entries ≤ most.entries
  pub due : tally.due ≤ most.due

-- The most that cutting a block by two bounds costs, by its interval and its number of entries: for each bound as many
-- heads as their number has digits, the entries of three intervals, and three more. Steps from the back decode no entry
-- more than once again.
abbrev pub cut_cost : ℕ → ℕ → Tally
cut_cost interval count = record {
  heads = 2 * digits (head_count interval count);
  entries = 3 * (interval + 1);
  due = 3 * (interval + 1) + count;
}

-- the same for the block of a handle
abbrev pub cut_cost_in : List ℕ → Handle → Tally
cut_cost_in bytes h = cut_cost (interval_in bytes (range_of h)) (length (items_in entries (payload_in bytes (range_of h))))

-- a cost, and that of decoding a handle: at most the q handles of an interval of the index
abbrev pub with_handles : ℕ → Tally → Tally
with_handles q t = record { heads = t.heads; entries = q + t.entries; due = q + t.due }

-- the most that opening the block of a handle costs, if there is one: decoding the handle, and cutting the block
abbrev pub cost_in : List ℕ → ℕ → Option Handle → Tally
cost_in bytes q None = record { heads = 0; entries = 0; due = 0 }
cost_in bytes q (Some h) = with_handles q (cut_cost_in bytes h)

-- for the blocks of handles, a number of each
abbrev pub costs_in : List ℕ → ℕ → (Tally → ℕ) → List Handle → ℕ
costs_in bytes q amount hs = sum_by (λ h. amount (cost_in bytes q (Some h))) hs

-- the most that a search for both ends of a range costs in an index with this interval and so many handles
abbrev pub search_cost : ℕ → ℕ → Tally
search_cost interval count = record {
  heads = 2 * digits (head_count interval count);
  entries = 2 * scan_cost interval;
  due = 2 * scan_cost interval;
}

-- at least, and at most, how many entries a step decodes beside what the blocks cost that it opens: one for an entry, also
-- where an error shows that it was not made
abbrev pub least_taken : {X : Type 0} → Result (Option X) Error → ℕ
least_taken (Ok found) = found_item found
least_taken (Err e) = 0

abbrev pub most_taken : {X : Type 0} → Result (Option X) Error → ℕ
most_taken (Ok found) = found_item found
most_taken (Err e) = 1

-- nothing that was counted is forgotten, and at least so many entries are added
pub record Adds (old new : Tally) (least : ℕ) : Type 0 where
  pub heads : old.heads ≤ new.heads
  pub entries : old.entries + least ≤ new.entries

-- a step in an open block compares no head, and decodes an entry; where that is the last of its interval, also those
-- that were due
pub record AddsTaken (old new : Tally) (least most : ℕ) : Type 0 where
  pub heads : new.heads ≡ old.heads
  pub entries : old.entries + least ≤ new.entries
  pub due : new.due ≤ old.due + most

-- A step of a scan from the back, which leaves blocks unopened: of what was counted, and what the blocks cost at most that
-- are not opened yet, no head is added, and to the entries and those due at most so many. The index has an interval of q
-- handles.
pub record CountsLast (bytes : List ℕ) (q : ℕ) (old : Tally) (unopened : List Handle) (new : Tally) (left : List Handle) (most : ℕ) : Type 0 where
  pub heads : new.heads + costs_in bytes q (λ t. t.heads) left ≤ old.heads + costs_in bytes q (λ t. t.heads) unopened
  pub due : new.due + costs_in bytes q (λ t. t.due) left ≤ old.due + costs_in bytes q (λ t. t.due) unopened + most

-- a step from the front: also to the entries alone
pub record CountsFirst (bytes : List ℕ) (q : ℕ) (old : Tally) (unopened : List Handle) (new : Tally) (left : List Handle) (most : ℕ) : Type 0 where
  pub heads : new.heads + costs_in bytes q (λ t. t.heads) left ≤ old.heads + costs_in bytes q (λ t. t.heads) unopened
  pub entries : new.entries + costs_in bytes q (λ t. t.entries) left ≤ old.entries + costs_in bytes q (λ t. t.entries) unopened + most
  pub due : new.due + costs_in bytes q (λ t. t.due) left ≤ old.due + costs_in bytes q (λ t. t.due) unopened + most
