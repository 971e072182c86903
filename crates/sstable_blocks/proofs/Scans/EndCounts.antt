-- What the steps of a scan count, seen from an end.
use Rattle.std.proofs.Common.{◌≡◌, ℕ, zero, suc, ◌+◌, ◌-◌, ◌<◌, ◌≤◌, Bool, true, false, List, length, slice_get, Option, Some, None, refl, sym, ap, subst, ◌∙◌, arith}
use Rattle.std.specs.Option.{option_map}
use Rattle.std.specs.Prelude.{IfSome}
use Rattle.std.proofs.lemmas.List.Sums.{sum_by-cons}
use Rattle.sst_block_core.specs.Handles.{Handle}
use Rattle.sstable_blocks.specs.BlockReading.{AddsUpTo, AreBlocks, OpensPaid, Reading}
use Rattle.sstable_blocks.specs.Ends.{Counts, IsPaid, Pays, PaysOnce, cost_between, cost_from, hi_at, index_at, lo_at, with_unopened}
use Rattle.sstable_blocks.specs.Scans.{between}
use Rattle.sstable_blocks.specs.Tallies.{Adds, AddsTaken, CountsFirst, CountsLast, Tally, cost_in, costs_in, tally_sum}
use Rattle.sstable_blocks.proofs.Scans.EndSteps.{both_some, some_as}
use Rattle.sstable_blocks.specs.BetweenLaws.{first_between, none_between}

-- ---- the blocks at an end
cost_push : (f : ℕ → ℕ) (lo n : ℕ) → cost_from f lo (suc n) ≡ cost_from f lo n + f (lo + n)
cost_push f lo zero =
    let z : lo ≡ lo + 0 = omega arith in
    let e : f lo ≡ f (lo + 0) = ap f z in
    omega (arith, e)
cost_push f lo (suc n) =
    let z : suc lo + n ≡ lo + suc n = omega arith in
    let e : f (suc lo + n) ≡ f (lo + suc n) = ap f z in
    let rest : cost_from f (suc lo) (suc n) ≡ cost_from f (suc lo) n + f (suc lo + n) = cost_push f (suc lo) n in
    omega (arith, e, rest)

-- the block at an end, and the others
cost_next : (b : Bool) (f : ℕ → ℕ) (lo hi : ℕ) → lo < hi → cost_between f lo hi ≡ f (index_at b lo hi) + cost_between f (lo_at b lo) (hi_at b hi)
cost_next false f lo hi h =
    let n : hi - lo ≡ suc (hi - (lo + 1)) = omega (arith, h) in
    let s : suc lo ≡ lo + 1 = omega arith in
    ap (cost_from f lo) n ∙ ap (λ i. f lo + cost_from f i (hi - (lo + 1))) s
cost_next true f lo hi h =
    let n : hi - lo ≡ suc (hi - 1 - lo) = omega (arith, h) in
    let s : lo + (hi - 1 - lo) ≡ hi - 1 = omega (arith, h) in
    let e : cost_from f lo (hi - lo) ≡ cost_from f lo (suc (hi - 1 - lo)) = ap (cost_from f lo) n in
    let p : cost_from f lo (suc (hi - 1 - lo)) ≡ cost_from f lo (hi - 1 - lo) + f (lo + (hi - 1 - lo)) = cost_push f lo (hi - 1 - lo) in
    let q : f (lo + (hi - 1 - lo)) ≡ f (hi - 1) = ap f s in
    omega (arith, e, p, q)

paid_next : (b : Bool) (f : ℕ → ℕ) (lo hi i lo' hi' start now next : ℕ) → i ≡ index_at b lo hi → lo' ≡ lo_at b lo → hi' ≡ hi_at b hi → lo < hi → now + cost_between f lo hi ≤ start → next ≤ now + f i
    → next + cost_between f lo' hi' ≤ start
paid_next b f lo hi i lo' hi' start now next e g k more before step =
    let c : cost_between f lo hi ≡ f (index_at b lo hi) + cost_between f (lo_at b lo) (hi_at b hi) = cost_next b f lo hi more in
    let p : f i ≡ f (index_at b lo hi) = ap f e in
    let q : cost_between f lo' hi' ≡ cost_between f (lo_at b lo) (hi_at b hi) = ap (λ l. cost_between f l hi') g ∙ ap (cost_between f (lo_at b lo)) k in
    omega (arith, c, p, q, before, step)

-- nothing was opened
abbrev none : Tally
none = record { heads = 0; entries = 0; due = 0 }

abbrev counted : Tally → ℕ → ℕ → Counts
counted t lo hi = record { tally = t; lo = lo; hi = hi }

module _ {S X : Type 0} (r : Reading S X) where
  -- an item was taken from the block at the end
  pub pays_taken_back : (s : S) (a : Counts) (before near near' far : Tally) (lo hi least most : ℕ) → PaysOnce r s a (counted (tally_sum before near far) lo hi) 0 0 → AddsTaken near near' least most
      → Pays r s a (counted (tally_sum before near' far) lo hi) least most
  pays_taken_back s a before near near' far lo hi least most w step =
      let h = w.pays.adds.heads in
      let n = w.pays.adds.entries in
      let x = step.heads in
      let y = step.entries in
      let z = step.due in
      record {
        adds = record { heads = omega (arith, h, x); entries = omega (arith, n, y) };
        paid = some_as (r.cost s) (λ cost p. record { heads = (let k = p.heads in omega (arith, k, x)); due = (let k = p.due in omega (arith, k, z)) }) w.pays.paid;
      }

  pub pays_taken : (s : S) (a : Counts) (before near near' far : Tally) (lo hi least most : ℕ) → PaysOnce r s a (counted (tally_sum before near far) lo hi) 0 0 → AddsTaken near near' least most → near'.entries ≤ near.entries + most
      → PaysOnce r s a (counted (tally_sum before near' far) lo hi) least most
  pays_taken s a before near near' far lo hi least most w step once = record {
    pays = pays_taken_back s a before near near' far lo hi least most w step;
    once = some_as (r.cost s) (λ cost p. omega (arith, p, once)) w.once;
  }

  -- one more block was opened
  pub pays_next : AreBlocks r → (b : Bool) (s t u : S) (n : ℕ) (a : Counts) (near near' far : Tally) (lo hi i lo' hi' : ℕ) → i ≡ index_at b lo hi → lo' ≡ lo_at b lo → hi' ≡ hi_at b hi → lo < hi → r.Goes s n t
      → PaysOnce r s a (counted (tally_sum (r.tally t) near far) lo hi) 0 0 → OpensPaid r t i (tally_sum (r.tally t) near none) (tally_sum (r.tally u) near' none)
      → PaysOnce r s a (counted (tally_sum (r.tally u) near' far) lo' hi') 0 0
  pays_next laws b s t u n a near near' far lo hi i lo' hi' e g k more goes w step =
      let paid = subst (λ o. IfSome o (λ cost. AddsUpTo (tally_sum (r.tally t) near none) (tally_sum (r.tally u) near' none) (cost i))) (laws.same_cost s t n goes) step.paid in
      let h = w.pays.adds.heads in
      let m = w.pays.adds.entries in
      let x = step.adds.heads in
      let y = step.adds.entries in
      record {
        pays = record {
          adds = record { heads = omega (arith, h, x); entries = omega (arith, m, y) };
          paid = both_some (r.cost s) (λ cost old new. record {
            heads = paid_next b (λ j. (cost j).heads) lo hi i lo' hi' _ _ _ e g k more old.heads (let z = new.heads in omega (arith, z));
            due = paid_next b (λ j. (cost j).due) lo hi i lo' hi' _ _ _ e g k more old.due (let z = new.due in omega (arith, z));
          }) w.pays.paid paid;
        };
        once = both_some (r.cost s) (λ cost old new. paid_next b (λ j. (cost j).entries) lo hi i lo' hi' _ _ _ e g k more old (let z = new.entries in omega (arith, z))) w.once paid;
      }

-- ---- the blocks of handles
module _ (bytes : List ℕ) (q : ℕ) (hs : List Handle) where
  abbrev cost_at : ℕ → Tally
  cost_at i = cost_in bytes q (slice_get hs i)

  costs_from : (f : Tally → ℕ) (n lo hi : ℕ) → hi - lo ≡ n → hi ≤ length hs → cost_from (λ i. f (cost_at i)) lo n ≡ costs_in bytes q f (between hs lo hi)
  costs_from f zero lo hi e inside = ap (costs_in bytes q f) (sym (none_between hs lo hi (omega (arith, e))))
  costs_from f (suc n) lo hi e inside =
      let k = first_between hs lo hi (omega (arith, e)) inside in
      let s : suc lo ≡ lo + 1 = omega arith in
      ap (λ o. f (cost_in bytes q o) + cost_from (λ i. f (cost_at i)) (suc lo) n) k.1
      ∙ ap (λ m. f (cost_in bytes q (Some k.0)) + m) (ap (λ i. cost_from (λ j. f (cost_at j)) i n) s ∙ costs_from f n (lo + 1) hi (omega (arith, e)) inside)
      ∙ sym (sum_by-cons (λ (h : Handle). f (cost_in bytes q (Some h))) k.0 (between hs (lo + 1) hi))
      ∙ sym (ap (costs_in bytes q f) k.2)

  costs_between : (f : Tally → ℕ) (lo hi : ℕ) → hi ≤ length hs → cost_between (λ i. f (cost_at i)) lo hi ≡ costs_in bytes q f (between hs lo hi)
  costs_between f lo hi inside = costs_from f (hi - lo) lo hi refl inside

  module _ (old new : Tally) (lo hi lo' hi' most : ℕ) (inside : hi ≤ length hs) (inside' : hi' ≤ length hs) where
    pub counts_front : IsPaid cost_at (counted old lo hi) (counted new lo' hi') most → with_unopened (λ t. t.entries) cost_at (counted new lo' hi') ≤ with_unopened (λ t. t.entries) cost_at (counted old lo hi) + most
        → CountsFirst bytes q old (between hs lo hi) new (between hs lo' hi') most
    counts_front p once =
        let a = costs_between (λ t. t.heads) lo hi inside in
        let a' = costs_between (λ t. t.heads) lo' hi' inside' in
        let b = costs_between (λ t. t.entries) lo hi inside in
        let b' = costs_between (λ t. t.entries) lo' hi' inside' in
        let c = costs_between (λ t. t.due) lo hi inside in
        let c' = costs_between (λ t. t.due) lo' hi' inside' in
        let h = p.heads in
        let d = p.due in
        record { heads = omega (arith, a, a', h); entries = omega (arith, b, b', once); due = omega (arith, c, c', d) }

  -- from the back the ends change their places
  module _ (before front back before' front' back' : Tally) (lo hi lo' hi' most : ℕ) (inside : hi ≤ length hs) (inside' : hi' ≤ length hs) where
    pub counts_back : IsPaid cost_at (counted (tally_sum before back front) lo hi) (counted (tally_sum before' back' front') lo' hi') most
        → CountsLast bytes q (tally_sum before front back) (between hs lo hi) (tally_sum before' front' back') (between hs lo' hi') most
    counts_back p =
        let a = costs_between (λ t. t.heads) lo hi inside in
        let a' = costs_between (λ t. t.heads) lo' hi' inside' in
        let c = costs_between (λ t. t.due) lo hi inside in
        let c' = costs_between (λ t. t.due) lo' hi' inside' in
        let h = p.heads in
        let d = p.due in
        record { heads = omega (arith, a, a', h); due = omega (arith, c, c', d) }

pub adds_turned : (before front back before' front' back' : Tally) (least : ℕ) → Adds (tally_sum before back front) (tally_sum before' back' front') least → Adds (tally_sum before front back) (tally_sum before' front' back') least
adds_turned before front back before' front' back' least a =
    let h = a.heads in
    let n = a.entries in
    record { heads = omega (arith, h); entries = omega (arith, n) }

-- ---- the steps of a table's scan
module _ (q : ℕ) (hs hs' : List Handle) (index : hs' ≡ hs) (lo hi lo' hi' most : ℕ) (inside : hi ≤ length hs) (inside' : hi' ≤ length hs) where
  pub table_counts_front : (o : Option (List ℕ)) (old new : Tally) → IfSome {T = ℕ → Tally} (option_map (λ all i. cost_in all q (slice_get hs i)) o) (λ cost. IsPaid cost (counted old lo hi) (counted new lo' hi') most)
      → IfSome {T = ℕ → Tally} (option_map (λ all i. cost_in all q (slice_get hs i)) o) (λ cost. with_unopened (λ t. t.entries) cost (counted new lo' hi') ≤ with_unopened (λ t. t.entries) cost (counted old lo hi) + most)
      → IfSome o (λ all. CountsFirst all q old (between hs lo hi) new (between hs' lo' hi') most)
  table_counts_front None old new p once = tt
  table_counts_front (Some all) old new p once = subst (λ ks. CountsFirst all q old (between hs lo hi) new (between ks lo' hi') most) (sym index) (counts_front all q hs old new lo hi lo' hi' most inside inside' p once)

  pub table_counts_back : (o : Option (List ℕ)) (before front back before' front' back' : Tally)
      → IfSome {T = ℕ → Tally} (option_map (λ all i. cost_in all q (slice_get hs i)) o) (λ cost. IsPaid cost (counted (tally_sum before back front) lo hi) (counted (tally_sum before' back' front') lo' hi') most)
      → IfSome o (λ all. CountsLast all q (tally_sum before front back) (between hs lo hi) (tally_sum before' front' back') (between hs' lo' hi') most)
  table_counts_back None before front back before' front' back' p = tt
  table_counts_back (Some all) before front back before' front' back' p =
      subst (λ ks. CountsLast all q (tally_sum before front back) (between hs lo hi) (tally_sum before' front' back') (between ks lo' hi') most) (sym index) (counts_back all q hs before front back before' front' back' lo hi lo' hi' most inside inside' p)
