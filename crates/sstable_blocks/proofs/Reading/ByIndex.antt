-- A read by an index: what it gives, which errors do not come, and what it counts.
use Rattle.std.proofs.Common.{◌≡◌, ℕ, ◌<◌, ◌≤◌, List, length, arith, refl, sym, ap, subst, ◌∙◌, inl, inr, Option, Some, None, Result, Ok, Err, IfSome}
use Rattle.std.specs.Option.{option_map}
use Rattle.sst_base.specs.BlockHandle.{HandleParts}
use Rattle.sst_base.specs.Counted.{Counted, CountsBetween}
use Rattle.sst_base.specs.Entry.{Entry}
use Rattle.sst_base.specs.Header.{◌>>=◌}
use Rattle.sst_base.specs.declared.error.Error.{Error}
use Rattle.sst_base.specs.declared.table.block.block_type.BlockType.TheVariants as types
use Rattle.sst_block_core.specs.Checks.{index_check}
use Rattle.sst_block_core.specs.Handles.{Handle, handles}
use Rattle.sst_block_core.specs.Intervals.{digits}
use Rattle.sstable_blocks.specs.Lookup.{handle_for}
use Rattle.sstable_blocks.specs.Opened.{index_in, range_of}
use Rattle.sstable_blocks.specs.ReadCosts.{entries_at, find_cost, heads_at, interval_in, most_by}
use Rattle.sstable_blocks.specs.RunReading.{Hashes, handles_at, payload_at, read_block, read_blocks}
use Rattle.sstable_blocks.specs.SourceLaws.{source_fails}
use Rattle.sstable_blocks.specs.Sources.{FailsAs, GivesOr}
use Rattle.sstable_blocks.specs.Tables.{IsIndexIn}
use Rattle.sstable_blocks.specs.CheckedLaws.{gives_or_later}
use Rattle.sstable_blocks.specs.KeptLaws.{blocks_same}

payload_first : (r : Result (List ℕ) Error) (go : List Handle → Result (Option Entry) Error) → (r >>= (λ (p : List ℕ). index_check p >>= go)) ≡ ((r >>= (λ (p : List ℕ). index_check p)) >>= go)
payload_first (Ok p) go = refl
payload_first (Err e) go = refl

pub by_index : (c : Hashes) (before after : Option (List ℕ)) (old mid new : ℕ) (R T : Type 0) (index : HandleParts) (items : List Handle) (o : Option HandleParts) (needle : List ℕ) (seqno : ℕ) (r : Result (Option Entry) Error)
    → after ≡ before → old ≤ mid → (T → R) → IfSome before (λ all. handles_at c all index ≡ Ok items) → o ≡ option_map range_of (handle_for handles needle seqno items)
    → IfSome after (λ all. (h : Option Handle) → o ≡ option_map range_of h → GivesOr (mid < new) R (λ x. x) r (read_block c all h needle seqno))
    → IfSome before (λ all. GivesOr (old < new) T (λ x. x) r (read_blocks c all index needle seqno))
by_index c None after old mid new R T index items o needle seqno r same le kept at is read = tt
by_index c (Some all) after old mid new R T index items o needle seqno r same le kept at is read =
    let here = subst (λ b. IfSome b (λ all. (h : Option Handle) → o ≡ option_map range_of h → GivesOr (mid < new) R (λ x. x) r (read_block c all h needle seqno))) same read in
    let given = gives_or_later (mid < new) (old < new) R T (λ x. x) r (read_block c all (handle_for handles needle seqno items) needle seqno) (λ less. omega arith) kept (here (handle_for handles needle seqno items) is) in
    subst (GivesOr (old < new) T (λ x. x) r) (sym (blocks_same c all index items needle seqno at)) given

-- an index that is refused
pub index_fails : (c : Hashes) (o : Option (List ℕ)) (P R : Type 0) (index : HandleParts) (needle : List ℕ) (seqno : ℕ) (e : Error) → IfSome o (λ all. FailsAs P R (handles_at c all index) e) → IfSome o (λ all. FailsAs P R (read_blocks c all index needle seqno) e)
index_fails c None P R index needle seqno e fails = tt
index_fails c (Some all) P R index needle seqno e fails =
    let go : Result (List Handle) Error → Result (Option Entry) Error = λ (r : Result (List Handle) Error). r >>= (λ (xs : List Handle). read_block c all (handle_for handles needle seqno xs) needle seqno) in
    let whole : read_blocks c all index needle seqno ≡ go (handles_at c all index) = payload_first (payload_at c types.Index all index) (λ (xs : List Handle). read_block c all (handle_for handles needle seqno xs) needle seqno) in
    λ other. elim (fails other) [
      | inl failed ↦ inl (source_fails (λ p. p) (λ t. t) (λ bad. whole ∙ ap go bad) failed)
      | inr is ↦ inr (whole ∙ ap go is)
    ]

-- a search in an index and a read of one block
pub index_counted : (before after : Option (List ℕ)) (g : HandleParts) (items : List Handle) (interval : ℕ) (needle : List ℕ) (seqno : ℕ) (r : Option HandleParts) (s t u : Counted) → after ≡ before → IfSome before (λ all. IsIndexIn all g items interval)
    → r ≡ option_map range_of (handle_for handles needle seqno items) → CountsBetween s t (1, 0) (find_cost interval (length items))
    → IfSome after (λ all. (h : Option Handle) → r ≡ option_map range_of h → CountsBetween t u (0, 0) (digits (heads_at all h), entries_at all h))
    → IfSome before (λ all. CountsBetween s u (0, 0) (most_by all (index_in all g) (interval_in all g) needle seqno))
index_counted None after g items interval needle seqno r s t u same place is first second = tt
index_counted (Some all) after g items interval needle seqno r s t u same place is first second =
    let here = subst (λ o. IfSome o (λ all. (h : Option Handle) → r ≡ option_map range_of h → CountsBetween t u (0, 0) (digits (heads_at all h), entries_at all h))) same second in
    let block = here (handle_for handles needle seqno items) is in
    let P : List Handle → ℕ → Type 0 = λ (hs : List Handle) (n : ℕ). CountsBetween s u (0, 0) (most_by all hs n needle seqno) in
    let sum : P items interval = record {
      heads_least = omega (arith, first.heads_least, block.heads_least);
      heads_most = omega (arith, first.heads_most, block.heads_most);
      entries_least = omega (arith, first.entries_least, block.entries_least);
      entries_most = omega (arith, first.entries_most, block.entries_most);
    } in
    subst (P (index_in all g)) place.interval_is (subst (λ hs. P hs interval) place.index_is sum)
