-- What is counted where a block is opened.
use Rattle.std.proofs.Common.{◌≡◌, inl, inr, ℕ, ◌+◌, ◌%◌, ◌<◌, ◌≤◌, List, length, slice_get, Option, Some, None, IfSome, sym, ap, subst, ◌∙◌, arith}
use Rattle.std.specs.Option.{option_map}
use Rattle.std.proofs.lemmas.Option.{slice_get_cases}
use Rattle.sst_base.specs.BlockHandle.{HandleParts}
use Rattle.sst_base.specs.Counted.{Counted, CountsExactly}
use Rattle.sst_base.specs.Entry.{Entry}
use Rattle.sst_block_core.specs.Entries.{entries}
use Rattle.sst_block_core.specs.Handles.{Handle}
use Rattle.sst_block_core.specs.Scan.{Scan}
use Rattle.sstable_blocks.specs.BlockReading.{AddsUpTo}
use Rattle.sstable_blocks.specs.Opened.{range_of}
use Rattle.sstable_blocks.specs.ReadCosts.{CountsHandle}
use Rattle.sstable_blocks.specs.Tallies.{Adds, IsUpTo, Tally, cost_in, cut_cost_in, scan_tally, tally_by, tally_of, tally_sum, with_handles}

abbrev none : Tally
none = record { heads = 0; entries = 0; due = 0 }

-- what is due is no less than the entries
pub due_more : (o : Option (Scan Entry)) → (tally_of scan_tally o).entries ≤ (tally_of scan_tally o).due
due_more None = omega arith
due_more (Some s) = omega arith

-- a handle was decoded before, or after, what was counted in a block was added
pub handle_first : (before between after : Counted) (q i heads entries : ℕ) → CountsHandle before between q i → CountsExactly between after heads entries → CountsExactly before after heads (entries + (i % q + 1))
handle_first before between after q i heads entries handle counts =
    let h = handle.exact.heads in
    let n = handle.exact.entries in
    let x = counts.heads in
    let y = counts.entries in
    record { heads = omega (arith, h, x); entries = omega (arith, n, y) }

pub handle_last : (before between after : Counted) (q i heads entries : ℕ) → CountsExactly before between heads entries → CountsHandle between after q i → CountsExactly before after heads (entries + (i % q + 1))
handle_last before between after q i heads entries counts handle =
    let h = handle.exact.heads in
    let n = handle.exact.entries in
    let x = counts.heads in
    let y = counts.entries in
    record { heads = omega (arith, h, x); entries = omega (arith, n, y) }

module _ (before after : Counted) (n : ℕ) (old new : Tally) (counts : CountsExactly before after old.heads (old.entries + n)) where
  pub opened_adds : 1 ≤ n → Adds (tally_sum (tally_by before) old none) (tally_sum (tally_by after) new none) 1
  opened_adds some =
      let h = counts.heads in
      let m = counts.entries in
      record { heads = omega (arith, h); entries = omega (arith, m, some) }

  pub opened_upto : (q : ℕ) (most : Tally) → n ≤ q → old.entries ≤ old.due → IsUpTo new most → AddsUpTo (tally_sum (tally_by before) old none) (tally_sum (tally_by after) new none) (with_handles q most)
  opened_upto q most few less upto =
      let h = counts.heads in
      let m = counts.entries in
      let a = upto.heads in
      let b = upto.entries in
      let c = upto.due in
      record { heads = omega (arith, h, a); entries = omega (arith, m, few, b); due = omega (arith, m, few, less, c) }

-- the cost of the block at an index
cost_is : (all : List ℕ) (q : ℕ) (hs : List Handle) (i : ℕ) (P : Tally → Type 0) → i < length hs → ((h : Handle) → slice_get hs i ≡ Some h → P (cost_in all q (Some h))) → P (cost_in all q (slice_get hs i))
cost_is all q hs i P inside at = elim ((slice_get_cases hs i).1) [
  | inl here ↦ subst (λ o. P (cost_in all q o)) (sym here.2) (at here.0 here.2)
  | inr past ↦ absurd (let most = past.0 in omega (arith, most, inside))
]

module _ (q : ℕ) (hs : List Handle) (i : ℕ) (inside : i < length hs) (before after : Counted) (old : Tally) where
  module _ (new : Tally) (counts : CountsExactly before after old.heads (old.entries + (i % q + 1))) (few : i % q + 1 ≤ q) (less : old.entries ≤ old.due) where
    pub run_paid : (all : List ℕ) → ((h : Handle) → slice_get hs i ≡ Some h → IsUpTo new (cut_cost_in all h))
        → AddsUpTo (tally_sum (tally_by before) old none) (tally_sum (tally_by after) new none) (cost_in all q (slice_get hs i))
    run_paid all at = cost_is all q hs i (AddsUpTo (tally_sum (tally_by before) old none) (tally_sum (tally_by after) new none)) inside
        (λ h e. opened_upto before after (i % q + 1) old new counts q (cut_cost_in all h) few less (at h e))

    pub table_paid : (o : Option (List ℕ)) → IfSome o (λ all. (h : Handle) → slice_get hs i ≡ Some h → IsUpTo new (cut_cost_in all h))
        → IfSome {T = ℕ → Tally} (option_map (λ all j. cost_in all q (slice_get hs j)) o) (λ cost. AddsUpTo (tally_sum (tally_by before) old none) (tally_sum (tally_by after) new none) (cost i))
    table_paid None at = tt
    table_paid (Some all) at = run_paid all at

  -- where a block is refused, only its handle is counted
  module _ (handle : CountsHandle before after q i) where
    pub refused_adds : Adds (tally_sum (tally_by before) old none) (tally_sum (tally_by after) old none) 1
    refused_adds =
        let h = handle.exact.heads in
        let n = handle.exact.entries in
        record { heads = omega (arith, h); entries = omega (arith, n) }

    refused_upto : (most : Tally) → AddsUpTo (tally_sum (tally_by before) old none) (tally_sum (tally_by after) old none) (with_handles q most)
    refused_upto most =
        let h = handle.exact.heads in
        let n = handle.exact.entries in
        let few = handle.most in
        record { heads = omega (arith, h); entries = omega (arith, n, few); due = omega (arith, n, few) }

    pub refused_paid : (o : Option (List ℕ))
        → IfSome {T = ℕ → Tally} (option_map (λ all j. cost_in all q (slice_get hs j)) o) (λ cost. AddsUpTo (tally_sum (tally_by before) old none) (tally_sum (tally_by after) old none) (cost i))
    refused_paid None = tt
    refused_paid (Some all) = cost_is all q hs i (AddsUpTo (tally_sum (tally_by before) old none) (tally_sum (tally_by after) old none)) inside (λ h e. refused_upto (cut_cost_in all h))

-- ---- the blocks of a table
-- the block at an index is that of its handle
same_range : (o : Option Handle) (k : HandleParts) (h : Handle) → Some k ≡ option_map range_of o → o ≡ Some h → k ≡ range_of h
same_range o k h e is =
    let f : ◌≡◌ {A = Option HandleParts} (Some k) (Some (range_of h)) = e ∙ ap (option_map range_of) is in
    cc
