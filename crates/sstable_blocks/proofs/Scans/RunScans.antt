-- Scans of sound runs.
use Rattle.std.proofs.Common.{zero, suc, take, drop, ◌≡◌, ℕ, ◌-◌, List, [], ◌∷◌, ◌++◌, map, refl, sym, subst, ◌∙◌, ap, append-nil, Option, Ok, Err, inl, inr}
use Rattle.std.specs.Prelude.{◌⊎◌, IfErr, IfOk, IsOkUnless, Result}
use Rattle.std.proofs.lemmas.List.{map-append}
use Rattle.std.specs.Iterator.{YieldsFirst, YieldsLast}
use Rattle.std.specs.List.{AllByRecursion}
use Rattle.sst_base.specs.Counted.{found_item}
use Rattle.sst_base.specs.Entry.{Entry, plain}
use Rattle.sst_base.specs.Header.{◌>>=◌}
use Rattle.sst_base.specs.declared.error.Error.{Error}
use Rattle.sst_base.specs.declared.error.Error.TheVariants.{Memory}
use Rattle.sst_block_core.specs.Entries.{entries}
use Rattle.sst_block_core.specs.ListLaws.{all_drop}
use Rattle.sst_block_core.specs.Scan.{Scan}
use Rattle.sst_block_core.specs.Stages.{items_in}
use Rattle.sst_block_core.specs.Handles.{Handle}
use Rattle.sstable_blocks.specs.Blocks.{joined}
use Rattle.sstable_blocks.specs.Opened.{range_of, payload_in, index_in}
use Rattle.sstable_blocks.specs.RangeReadLaws.{entries_again}
use Rattle.sstable_blocks.specs.RunReading.{Hashes}
use Rattle.sstable_blocks.specs.Sound.{RunParts}
use Rattle.sstable_blocks.specs.Tallies.{Adds, CountsFirst, CountsLast, Tally, least_taken, most_taken}
use Rattle.sstable_blocks.specs.Scans.{KeyRange, MakesFirst, MakesLast, RunScanParts, ScansFirst, ScansLast, left_by, within, reads_of, blocks_read, between, entries_read, entries_within, entries_among, first_block, end_block, handles_within, run_interval, IsBlockRead}

module _ {X : Type 0} (P : X → Type 0) where
  pub some_taken : (n : ℕ) (xs : List X) → AllByRecursion P xs → AllByRecursion P (take n xs)
  some_taken zero xs a = tt
  some_taken (suc n) [] a = tt
  some_taken (suc n) (x ∷ xs) a = (a.0, some_taken n xs a.1)

module _ (bytes : List ℕ) (r : KeyRange) where
  -- the entries of the block of a handle that are in the range
  abbrev pub of_block : Handle → List Entry
  of_block h = within r (items_in entries (payload_in bytes (range_of h)))

  module _ (hs : List Handle) where
    -- what is left by the ends of a scan
    abbrev pub Among : List Entry → ℕ → ℕ → List Entry → List Entry
    Among front lo hi back = entries_among bytes r front (between hs lo hi) back

  -- what is read of blocks that are read
  pub reads_are : (c : Hashes) (hs : List Handle) → AllByRecursion (IsBlockRead c bytes) hs → blocks_read c bytes r hs ≡ map Ok (entries_within bytes r hs)
  reads_are c [] a = refl
  reads_are c (h ∷ hs) a =
      let f : List Entry → Result (List Entry) Error = λ (xs : List Entry). Ok (within r xs) in
      ap (λ q. reads_of (q >>= f) ++ blocks_read c bytes r hs) a.0 ∙ ap (λ xs. map Ok (of_block h) ++ xs) (reads_are c hs a.1)
      ∙ sym (map-append Ok (of_block h) (entries_within bytes r hs))

  -- a scan that begins
  pub fresh_entries : (c : Hashes) (hs : List Handle) (front back : List Entry) (lo hi : ℕ) (blocks : List (List Entry)) → AllByRecursion (IsBlockRead c bytes) hs → front ≡ [] → back ≡ [] → lo ≡ first_block r hs → hi ≡ end_block r hs
      → blocks_read c bytes r (handles_within r hs) ≡ map Ok (within r (map plain (joined blocks))) → Among hs front lo hi back ≡ within r (map plain (joined blocks))
  unfolding handles_within
  fresh_entries c hs front back lo hi blocks all none none' first last law =
      let lo' = first_block r hs in
      let hi' = end_block r hs in
      let ks = between hs lo' hi' in
      let some = some_taken (IsBlockRead c bytes) (hi' - lo') _ (all_drop (IsBlockRead c bytes) lo' hs all) in
      ap (λ xs. xs ++ (entries_within bytes r (between hs lo hi) ++ back)) none ∙ ap (λ xs. entries_within bytes r (between hs lo hi) ++ xs) none'
      ∙ append-nil (entries_within bytes r (between hs lo hi)) ∙ ap (λ n. entries_within bytes r (between hs n hi)) first ∙ ap (λ n. entries_within bytes r (between hs lo' n)) last
      ∙ sym (entries_again (entries_within bytes r ks)) ∙ ap entries_read (sym (reads_are c ks some)) ∙ ap entries_read law ∙ entries_again (within r (map plain (joined blocks)))

-- the handles of a scan that begins
pub fresh_handles : (r : KeyRange) (hs : List Handle) (lo hi : ℕ) → lo ≡ first_block r hs → hi ≡ end_block r hs → between hs lo hi ≡ handles_within r hs
unfolding handles_within
fresh_handles r hs lo hi first last = ap (λ n. between hs n hi) first ∙ ap (λ n. between hs (first_block r hs) n) last

-- a step of a scan leaves its run and its range
module _ (old : RunScanParts) (front : Option (Scan Entry)) (lo hi : ℕ) (back : Option (Scan Entry)) (counted : Tally) where
  abbrev pub moved : RunParts → KeyRange → RunScanParts
  moved run range = record {
    run = run;
    range = range;
    left = left_by run range front lo hi back;
    handles = between (index_in run.bytes run.handles.index) lo hi;
    counted = counted;
  }

  module _ (run : RunParts) (range : KeyRange) (same : run ≡ old.run) (same_range : range ≡ old.range) where
    as_moved : (P : RunScanParts → Type 0) → P (moved old.run old.range) → P (moved run range)
    as_moved P p = subst (λ k. P (moved k range)) (sym same) (subst (λ k. P (moved old.run k)) (sym same_range) p)

    pub moved_first : (x : Option Entry) → YieldsFirst (λ xs. xs) old.left x (left_by old.run old.range front lo hi back) → Adds old.counted counted (found_item x)
        → CountsFirst old.run.bytes (run_interval old.run) old.counted old.handles counted (between (index_in old.run.bytes old.run.handles.index) lo hi) (found_item x) → ScansFirst old x (moved run range)
    moved_first x first looked counts = as_moved (ScansFirst old x) (record { run = refl; range = refl; first = first; looked = looked; counts = counts })

    pub moved_last : (x : Option Entry) → YieldsLast (λ xs. xs) old.left x (left_by old.run old.range front lo hi back) → Adds old.counted counted (found_item x)
        → CountsLast old.run.bytes (run_interval old.run) old.counted old.handles counted (between (index_in old.run.bytes old.run.handles.index) lo hi) (found_item x) → ScansLast old x (moved run range)
    moved_last x last looked counts = as_moved (ScansLast old x) (record { run = refl; range = refl; last = last; looked = looked; counts = counts })

    -- the same of a scan that makes the entries
    pub moved_made : (r : Result (Option Entry) Error) → IfOk r (λ x. YieldsFirst (λ xs. xs) old.left x (left_by old.run old.range front lo hi back)) → IsOkUnless r Memory → Adds old.counted counted (least_taken r)
        → CountsFirst old.run.bytes (run_interval old.run) old.counted old.handles counted (between (index_in old.run.bytes old.run.handles.index) lo hi) (most_taken r) → MakesFirst old r (moved run range)
    moved_made r first memory looked counts = as_moved (MakesFirst old r) (record { run = refl; range = refl; first = first; memory = memory; looked = looked; counts = counts })

    pub moved_made_last : (r : Result (Option Entry) Error) → IfOk r (λ x. YieldsLast (λ xs. xs) old.left x (left_by old.run old.range front lo hi back)) → IsOkUnless r Memory → Adds old.counted counted (least_taken r)
        → CountsLast old.run.bytes (run_interval old.run) old.counted old.handles counted (between (index_in old.run.bytes old.run.handles.index) lo hi) (most_taken r) → MakesLast old r (moved run range)
    moved_made_last r last memory looked counts = as_moved (MakesLast old r) (record { run = refl; range = refl; last = last; memory = memory; looked = looked; counts = counts })

-- an error that opens no block, or that makes no entry
pub only_memory : {X : Type 0} (r : Result X Error) → IfErr r (λ e. (e ≡ Memory) ⊎ (e ≡ Memory)) → IsOkUnless r Memory
only_memory (Ok x) h = tt
only_memory (Err e) h = elim h [ inl m ↦ m | inr m ↦ m ]
