-- The ends of a scan, and its steps.
use Rattle.std.specs.Prelude.{◌≡◌, ◌⊎◌, ◌≤◌, ◌<◌, ◌+◌, ◌-◌, ◌*◌, ℕ, zero, suc, Bool, true, false, List, [], ◌∷◌, ◌++◌, length, map, Option, Some, None, IfSome, Result, Ok, IfOk, IfErr, OnOk, MatchResult}
use Rattle.sstable_blocks.specs.BlockReading.{Reading, AllAdmitted, items_of, seen_from}
use Rattle.sst_base.specs.declared.error.Error.{Error}
use Rattle.sstable_blocks.specs.Scans.{reads_of}
use Rattle.sstable_blocks.specs.Tallies.{Tally, Adds, tally_all}
use Rattle.sstable_blocks.specs.declared.run.ends.Between.{Between}

-- the index at an end, and what is left between then
abbrev pub index_at : Bool → ℕ → ℕ → ℕ
index_at true lo hi = hi - 1
index_at false lo hi = lo

abbrev pub lo_at : Bool → ℕ → ℕ
lo_at true lo = lo
lo_at false lo = lo + 1

abbrev pub hi_at : Bool → ℕ → ℕ
hi_at true hi = hi - 1
hi_at false hi = hi

-- what is read of a number of blocks from an index on
abbrev pub reads_from : {X : Type 0} → (ℕ → Result (List X) Error) → ℕ → ℕ → List (Result X Error)
reads_from read lo zero = []
reads_from read lo (suc n) = reads_of (read lo) ++ reads_from read (suc lo) n

abbrev pub reads_between : {X : Type 0} → (ℕ → Result (List X) Error) → ℕ → ℕ → List (Result X Error)
reads_between read lo hi = reads_from read lo (hi - lo)

-- the items left of the block opened at one end, the blocks that were not opened, and the items left at the other end
pub record Ends (X : Type 0) : Type 0 where
  pub near : List X
  pub lo : ℕ
  pub hi : ℕ
  pub far : List X

abbrev pub ends : {P X : Type 0} → (P → List X) → Option P → Between → Option P → Ends X
ends items near m far = record { near = items_of items near; lo = m.lo; hi = m.hi; far = items_of items far }

-- what is left to read, seen_from from an end
abbrev pub reads_left : {X : Type 0} → Bool → (ℕ → Result (List X) Error) → Ends X → List (Result X Error)
reads_left back read e = seen_from back (map Ok e.near) ++ (seen_from back (reads_between read e.lo e.hi) ++ seen_from back (map Ok e.far))

-- at most how many items are left
abbrev pub most_left : {X : Type 0} → ℕ → Ends X → ℕ
most_left most e = length e.near + most * (e.hi - e.lo) + length e.far

-- the blocks left are there, and the items left are such as blocks may have
pub record AreEnds {S X : Type 0} (r : Reading S X) (s : S) (e : Ends X) : Type 0 where
  pub inside : e.hi ≤ r.len s
  pub near : AllAdmitted r s e.near
  pub far : AllAdmitted r s e.far

-- the next block is refused
abbrev pub FailsNext : {S X : Type 0} → Reading S X → Bool → S → S → List (Result X Error) → Error → Type 0
FailsNext {S} {X} r back s t left e = (x : Result (List X) Error) × (rest : List (Result X Error)) × (left ≡ seen_from back (reads_of x) ++ rest) × r.Fails s t x e

-- blocks were opened, and what is left is the same
pub record IsReady {S X T : Type 0} (r : Reading S X) (back : Bool) (s : S) (old : Ends X) (result : Result T Error) (t : S) (new : Ends X) : Type 0 where
  pub goes : r.Goes s ((old.hi - old.lo) - (new.hi - new.lo)) t
  pub opened : new.hi - new.lo ≤ old.hi - old.lo
  pub ends : AreEnds r t new
  pub errs : IfErr result (r.Errs s t)
  pub most : most_left r.most new ≤ most_left r.most old
  pub done : OnOk result (new.near ≡ [] → (new.hi ≤ new.lo) × (new.far ≡ []))
  pub exact : IfSome (r.read s) (λ read. MatchResult result (λ _. reads_left back read new ≡ reads_left back read old) (FailsNext r back s t (reads_left back read old)))

-- an item that was taken leaves less, and there is none where nothing is left
abbrev pub IsFewer : {X : Type 0} → ℕ → ℕ → Option X → Type 0
IsFewer old new None = new ≡ 0
IsFewer old new (Some x) = new < old

-- the first of what was left is taken
abbrev pub GivesNext : {X : Type 0} → List (Result X Error) → List (Result X Error) → Option X → Type 0
GivesNext old new None = (old ≡ []) × (new ≡ [])
GivesNext old new (Some x) = old ≡ Ok x ∷ new

-- a step takes the first item left, seen_from from an end
pub record TakesNear {S X : Type 0} (r : Reading S X) (Lacks : Error → Type 0) (back : Bool) (s : S) (old : Ends X) (result : Result (Option X) Error) (t : S) (new : Ends X) : Type 0 where
  pub goes : r.Goes s ((old.hi - old.lo) - (new.hi - new.lo)) t
  pub opened : new.hi - new.lo ≤ old.hi - old.lo
  pub ends : AreEnds r t new
  pub errs : IfErr result (λ e. r.Errs s t e ⊎ Lacks e)
  pub admitted : IfOk result (λ x. IfSome x (λ x. r.admits s x ≡ true))
  pub fewer : IfOk result (IsFewer (most_left r.most old) (most_left r.most new))
  pub exact : IfSome (r.read s) (λ read. MatchResult result (GivesNext (reads_left back read old) (reads_left back read new)) (λ e. FailsNext r back s t (reads_left back read old) e ⊎ Lacks e))

-- an amount of a number of blocks from an index on, and of those between two indexes
abbrev pub cost_from : (ℕ → ℕ) → ℕ → ℕ → ℕ
cost_from cost lo zero = 0
cost_from cost lo (suc n) = cost lo + cost_from cost (suc lo) n

abbrev pub cost_between : (ℕ → ℕ) → ℕ → ℕ → ℕ
cost_between cost lo hi = cost_from cost lo (hi - lo)

-- what was counted, and the blocks that were not opened
pub record Counts : Type 0 where
  pub tally : Tally
  pub lo : ℕ
  pub hi : ℕ

abbrev pub counts_of : {S P X : Type 0} → Reading S X → (P → Tally) → S → Option P → Between → Option P → Counts
counts_of r tally s near m far = record { tally = tally_all tally (r.tally s) near far; lo = m.lo; hi = m.hi }

-- an amount of what was counted, with that of the blocks that were not opened
abbrev pub with_unopened : (Tally → ℕ) → (ℕ → Tally) → Counts → ℕ
with_unopened amount cost c = amount c.tally + cost_between (λ i. amount (cost i)) c.lo c.hi

-- no head is added, and at most so many entries
pub record IsPaid (cost : ℕ → Tally) (old new : Counts) (most : ℕ) : Type 0 where
  pub heads : with_unopened (λ t. t.heads) cost new ≤ with_unopened (λ t. t.heads) cost old
  pub due : with_unopened (λ t. t.due) cost new ≤ with_unopened (λ t. t.due) cost old + most

-- nothing that was counted is forgotten, and what is added is at most what the blocks cost that were opened, and so many
-- entries
pub record Pays {S X : Type 0} (r : Reading S X) (s : S) (old new : Counts) (least most : ℕ) : Type 0 where
  pub adds : Adds old.tally new.tally least
  pub paid : IfSome (r.cost s) (λ cost. IsPaid cost old new most)

-- also where the entries are left out that steps from the back decode again
pub record PaysOnce {S X : Type 0} (r : Reading S X) (s : S) (old new : Counts) (least most : ℕ) : Type 0 where
  pub pays : Pays r s old new least most
  pub once : IfSome (r.cost s) (λ cost. with_unopened (λ t. t.entries) cost new ≤ with_unopened (λ t. t.entries) cost old + most)
