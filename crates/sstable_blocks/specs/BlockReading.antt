-- What is known of the blocks of a list, and of what opens them.
use Rattle.std.specs.Prelude.{◌≡◌, ◌≤◌, ◌+◌, ℕ, Bool, true, false, List, [], length, reverse, drop, Option, Some, None, IfSome, Result, Ok, IfOk, IfErr, MatchResult}
use Rattle.std.specs.Iterator.{YieldsFirst}
use Rattle.std.specs.List.{AllByRecursion}
use Rattle.sst_base.specs.declared.error.Error.{Error}
use Rattle.sstable_blocks.specs.Tallies.{Tally, Adds}

-- What an opening does: how many blocks there are, what each is read as where that is known, at most how many items one
-- has, which items it may have; that a number of blocks was opened from one state to another; which errors there are,
-- and with which a block is refused that is read as this; what was counted before, and what each block costs at most
-- where that is known.
pub record Reading (S X : Type 0) : Type 1 where
  pub len : S → ℕ
  pub read : S → Option (ℕ → Result (List X) Error)
  pub most : ℕ
  pub admits : S → X → Bool
  pub Goes : S → ℕ → S → Type 0
  pub Errs : S → S → Error → Type 0
  pub Fails : S → S → Result (List X) Error → Error → Type 0
  pub tally : S → Tally
  pub cost : S → Option (ℕ → Tally)

-- its laws
pub record AreBlocks {S X : Type 0} (r : Reading S X) : Type 0 where
  pub stays : (s : S) → r.Goes s 0 s
  pub goes_on : (s t u : S) (m n : ℕ) → r.Goes s m t → r.Goes t n u → r.Goes s (m + n) u
  pub same_len : (s t : S) (n : ℕ) → r.Goes s n t → r.len t ≡ r.len s
  pub same_read : (s t : S) (n : ℕ) → r.Goes s n t → r.read t ≡ r.read s
  pub same_admits : (s t : S) (n : ℕ) → r.Goes s n t → r.admits t ≡ r.admits s
  pub same_cost : (s t : S) (n : ℕ) → r.Goes s n t → r.cost t ≡ r.cost s
  pub errs_later : (s t u : S) (n : ℕ) (e : Error) → r.Goes s n t → r.Errs t u e → r.Errs s u e
  pub fails_later : (s t u : S) (n : ℕ) (x : Result (List X) Error) (e : Error) → r.Goes s n t → r.Fails t u x e → r.Fails s u x e

-- all items are such as a block may have
abbrev pub AllAdmitted : {S X : Type 0} → Reading S X → S → List X → Type 0
AllAdmitted r s xs = AllByRecursion (λ x. r.admits s x ≡ true) xs

-- the items left of a block that was opened, if one was
abbrev pub items_of : {P X : Type 0} → (P → List X) → Option P → List X
items_of items None = []
items_of items (Some p) = items p

-- a block was opened
pub record Opens {S X T : Type 0} (r : Reading S X) (s : S) (index : ℕ) (result : Result T Error) (t : S) (items : List X) : Type 0 where
  pub goes : r.Goes s 1 t
  pub errs : IfErr result (r.Errs s t)
  pub all : AllAdmitted r s items
  pub few : length items ≤ r.most
  pub exact : IfSome (r.read s) (λ read. MatchResult result (λ _. read index ≡ Ok items) (r.Fails s t (read index)))

-- what is added to a tally is at most this
pub record AddsUpTo (old new most : Tally) : Type 0 where
  pub heads : new.heads ≤ old.heads + most.heads
  pub entries : new.entries ≤ old.entries + most.entries
  pub due : new.due ≤ old.due + most.due

-- a block was opened: nothing that was counted is forgotten, its handle is counted, and what is added is at most what the
-- block costs
pub record OpensPaid {S X : Type 0} (r : Reading S X) (s : S) (index : ℕ) (old new : Tally) : Type 0 where
  pub adds : Adds old new 1
  pub paid : IfSome (r.cost s) (λ cost. AddsUpTo old new (cost index))

-- a list, seen_from from its back or its front
abbrev pub seen_from : {X : Type 0} → Bool → List X → List X
seen_from true xs = reverse xs
seen_from false xs = xs

-- a step from an end takes the first item seen_from from there, which is gone then, also where it is not made
pub record TakesEnd {X : Type 0} (back : Bool) (Lacks : Error → Type 0) (old : List X) (result : Result (Option X) Error) (new : List X) : Type 0 where
  pub first : IfOk result (λ x. YieldsFirst (seen_from back) old x new)
  pub rest : seen_from back new ≡ drop 1 (seen_from back old)
  pub lacks : IfErr result Lacks
