-- What is left to read by the ends of a scan, as its contracts say it.
use Rattle.std.proofs.Common.{◌≡◌, ◌⊎◌, inl, inr, ℕ, zero, suc, ◌+◌, ◌-◌, ◌<◌, ◌≤◌, Bool, true, false, List, [], ◌∷◌, ◌++◌, length, map, reverse, slice_get, take, drop, length-append, Option, Some, None, Ok, Err, refl, sym, ap, subst, ◌∙◌, arith}
use Rattle.std.proofs.lemmas.List.{append_assoc, map-append, reverse-append, reverse-reverse}
use Rattle.std.proofs.lemmas.Option.{slice_get_cases}
use Rattle.std.proofs.Math.Seq.{take-append_seam}
use Rattle.std.specs.Iterator.{YieldsFirst, YieldsLast}
use Rattle.std.specs.List.{AllByRecursion}
use Rattle.std.specs.Option.{option_map}
use Rattle.std.specs.Prelude.{IfOk, IfSome, MatchResult, Result}
use Rattle.sst_base.specs.Entry.{Entry}
use Rattle.sst_base.specs.declared.error.Error.{Error}
use Rattle.sst_base.specs.declared.error.Error.TheVariants.{Memory}
use Rattle.sst_block_core.specs.Handles.{Handle}
use Rattle.sst_block_core.specs.Entries.{entries}
use Rattle.sst_block_core.specs.Stages.{items_in}
use Rattle.sstable_blocks.specs.BlockReading.{TakesEnd, seen_from}
use Rattle.sstable_blocks.specs.Opened.{payload_in, range_of}
use Rattle.sstable_blocks.specs.Ends.{GivesNext, reads_between, reads_from, reads_left}
use Rattle.sstable_blocks.specs.Readings.{block_of_index, entries_of_index}
use Rattle.sstable_blocks.specs.RunReading.{Hashes}
use Rattle.sstable_blocks.specs.Scans.{KeyRange, Read, FailsFirst, FailsLast, GivesFirst, GivesLast, block_within, within, between, blocks_read, entries_read, entries_among, entries_within, reads_among, reads_of}
use Rattle.sstable_blocks.specs.Sources.{FailsAs}
use Rattle.sstable_blocks.specs.BetweenLaws.{first_between, none_between}
use Rattle.sstable_blocks.specs.RangeReadLaws.{entries_again}

-- lists in order, of which one is near and one is far
abbrev pub in_list_order : {X : Type 0} → Bool → List X → List X → List X → List X
in_list_order true near middle far = far ++ (middle ++ near)
in_list_order false near middle far = near ++ (middle ++ far)

pub seen_whole : {X : Type 0} (b : Bool) (near middle far : List X) → seen_from b near ++ (seen_from b middle ++ seen_from b far) ≡ seen_from b (in_list_order b near middle far)
seen_whole false near middle far = refl
seen_whole true near middle far =
    sym (reverse-append far (middle ++ near) ∙ ap (λ xs. xs ++ reverse far) (reverse-append middle near) ∙ append_assoc (reverse near) (reverse middle) (reverse far))

-- the blocks of handles between two indexes, one after the other
module _ (c : Hashes) (bytes : List ℕ) (r : KeyRange) (hs : List Handle) where
  blocks_from : (n lo hi : ℕ) → hi - lo ≡ n → hi ≤ length hs → reads_from (λ i. block_of_index c bytes r (slice_get hs i)) lo n ≡ blocks_read c bytes r (between hs lo hi)
  blocks_from zero lo hi e inside = ap (blocks_read c bytes r) (sym (none_between hs lo hi (omega (arith, e))))
  blocks_from (suc n) lo hi e inside =
      let k = first_between hs lo hi (omega (arith, e)) inside in
      let s : suc lo ≡ lo + 1 = omega arith in
      ap (λ o. reads_of (block_of_index c bytes r o) ++ reads_from (λ i. block_of_index c bytes r (slice_get hs i)) (suc lo) n) k.1
      ∙ ap (λ rs. reads_of (block_of_index c bytes r (Some k.0)) ++ rs) (ap (λ i. reads_from (λ j. block_of_index c bytes r (slice_get hs j)) i n) s ∙ blocks_from n (lo + 1) hi (omega (arith, e)) inside)
      ∙ sym (ap (blocks_read c bytes r) k.2)

  pub blocks_between : (lo hi : ℕ) → hi ≤ length hs → reads_between (λ i. block_of_index c bytes r (slice_get hs i)) lo hi ≡ blocks_read c bytes r (between hs lo hi)
  blocks_between lo hi inside = blocks_from (hi - lo) lo hi refl inside

  -- what is left of a table
  pub table_front : (front back : List Entry) (lo hi : ℕ) → hi ≤ length hs
      → reads_left false (λ i. block_of_index c bytes r (slice_get hs i)) (record { near = front; lo = lo; hi = hi; far = back }) ≡ reads_among c bytes r front (between hs lo hi) back
  table_front front back lo hi inside = ap (λ rs. map Ok front ++ (rs ++ map Ok back)) (blocks_between lo hi inside)

  pub table_back : (front back : List Entry) (lo hi : ℕ) → hi ≤ length hs
      → reads_left true (λ i. block_of_index c bytes r (slice_get hs i)) (record { near = back; lo = lo; hi = hi; far = front }) ≡ reverse (reads_among c bytes r front (between hs lo hi) back)
  table_back front back lo hi inside =
      ap (λ (rs : List Read). reverse (map Ok back) ++ (reverse rs ++ reverse (map Ok front))) (blocks_between lo hi inside)
      ∙ seen_whole true (map Ok back) (blocks_read c bytes r (between hs lo hi)) (map Ok front)

module _ (bytes : List ℕ) (r : KeyRange) (hs : List Handle) where
  entries_from : (n lo hi : ℕ) → hi - lo ≡ n → hi ≤ length hs → reads_from (λ i. Ok (entries_of_index bytes r (slice_get hs i))) lo n ≡ map Ok (entries_within bytes r (between hs lo hi))
  entries_from zero lo hi e inside = ap (λ ks. map Ok (entries_within bytes r ks)) (sym (none_between hs lo hi (omega (arith, e))))
  entries_from (suc n) lo hi e inside =
      let k = first_between hs lo hi (omega (arith, e)) inside in
      let s : suc lo ≡ lo + 1 = omega arith in
      let first = entries_of_index bytes r (Some k.0) in
      ap (λ o. map Ok (entries_of_index bytes r o) ++ reads_from (λ i. Ok (entries_of_index bytes r (slice_get hs i))) (suc lo) n) k.1
      ∙ ap (λ rs. map Ok first ++ rs) (ap (λ i. reads_from (λ j. Ok (entries_of_index bytes r (slice_get hs j))) i n) s ∙ entries_from n (lo + 1) hi (omega (arith, e)) inside)
      ∙ sym (map-append Ok first (entries_within bytes r (between hs (lo + 1) hi)))
      ∙ sym (ap (λ ks. map Ok (entries_within bytes r ks)) k.2)

  entries_between : (lo hi : ℕ) → hi ≤ length hs → reads_between (λ i. Ok (entries_of_index bytes r (slice_get hs i))) lo hi ≡ map Ok (entries_within bytes r (between hs lo hi))
  entries_between lo hi inside = entries_from (hi - lo) lo hi refl inside

  all_ok : (front middle back : List Entry) → ◌≡◌ {A = List Read} (map Ok front ++ (map Ok middle ++ map Ok back)) (map Ok (front ++ (middle ++ back)))
  all_ok front middle back = sym (map-append Ok front (middle ++ back) ∙ ap (λ rs. map Ok front ++ rs) (map-append Ok middle back))

  -- what is left of a run
  pub run_front : (front back : List Entry) (lo hi : ℕ) → hi ≤ length hs
      → reads_left false (λ i. Ok (entries_of_index bytes r (slice_get hs i))) (record { near = front; lo = lo; hi = hi; far = back }) ≡ map Ok (entries_among bytes r front (between hs lo hi) back)
  run_front front back lo hi inside =
      ap (λ rs. map Ok front ++ (rs ++ map Ok back)) (entries_between lo hi inside) ∙ all_ok front (entries_within bytes r (between hs lo hi)) back

  pub run_back : (front back : List Entry) (lo hi : ℕ) → hi ≤ length hs
      → reads_left true (λ i. Ok (entries_of_index bytes r (slice_get hs i))) (record { near = back; lo = lo; hi = hi; far = front }) ≡ reverse (map Ok (entries_among bytes r front (between hs lo hi) back))
  run_back front back lo hi inside =
      ap (λ (rs : List Read). reverse (map Ok back) ++ (reverse rs ++ reverse (map Ok front))) (entries_between lo hi inside)
      ∙ seen_whole true (map Ok back) (map Ok (entries_within bytes r (between hs lo hi))) (map Ok front)
      ∙ ap reverse (all_ok front (entries_within bytes r (between hs lo hi)) back)

-- a step that took an item of entries that are all read
pub gave_first : (old new : List Entry) (x : Option Entry) → GivesNext {X = Entry} (map Ok old) (map Ok new) x → YieldsFirst (λ xs. xs) old x new
gave_first old new None h = (sym (entries_again old) ∙ ap entries_read h.0, sym (entries_again new) ∙ ap entries_read h.1)
gave_first old new (Some x) h = sym (entries_again old) ∙ ap entries_read h ∙ ap (λ xs. x ∷ xs) (entries_again new)

-- where the entry was made
pub made_first : (old new : List Entry) (result : Result (Option Entry) Error) (Fails : Error → Type 0) → MatchResult result (GivesNext {X = Entry} (map Ok old) (map Ok new)) Fails → IfOk result (λ x. YieldsFirst (λ xs. xs) old x new)
made_first old new (Ok x) Fails h = gave_first old new x h
made_first old new (Err e) Fails h = tt

-- from the back
pub turned_back : {X : Type 0} (old new : List X) (x : X) → reverse old ≡ x ∷ reverse new → old ≡ new ++ x ∷ []
turned_back old new x h = sym (reverse-reverse old) ∙ ap reverse h ∙ reverse-append (x ∷ []) (reverse new) ∙ ap (λ xs. xs ++ x ∷ []) (reverse-reverse new)

turned_none : {X : Type 0} (xs : List X) → reverse xs ≡ [] → xs ≡ []
turned_none xs h = sym (reverse-reverse xs) ∙ ap reverse h

entries_push : (xs : List Entry) (x : Entry) → entries_read (map Ok xs ++ Ok x ∷ []) ≡ xs ++ x ∷ []
entries_push [] x = refl
entries_push (y ∷ ys) x = ap (λ xs. y ∷ xs) (entries_push ys x)

pub gave_last : (old new : List Entry) (x : Option Entry) → GivesNext {X = Entry} (reverse (map Ok old)) (reverse (map Ok new)) x → YieldsLast (λ xs. xs) old x new
gave_last old new None h = (sym (entries_again old) ∙ ap entries_read (turned_none (map Ok old) h.0), sym (entries_again new) ∙ ap entries_read (turned_none (map Ok new) h.1))
gave_last old new (Some x) h = sym (entries_again old) ∙ ap entries_read (turned_back (map Ok old) (map Ok new) (Ok x) h) ∙ entries_push new x

pub made_last : (old new : List Entry) (result : Result (Option Entry) Error) (Fails : Error → Type 0) → MatchResult result (GivesNext {X = Entry} (reverse (map Ok old)) (reverse (map Ok new))) Fails → IfOk result (λ x. YieldsLast (λ xs. xs) old x new)
made_last old new (Ok x) Fails h = gave_last old new x h
made_last old new (Err e) Fails h = tt

-- ---- blocks
pub all_true : {X : Type 0} (xs : List X) → AllByRecursion (λ (x : X). ◌≡◌ {A = Bool} true true) xs
all_true [] = tt
all_true (x ∷ xs) = (refl, all_true xs)

pub opened_entries : (bytes : List ℕ) (r : KeyRange) (hs : List Handle) (i : ℕ) (items : List Entry) → i < length hs → ((h : Handle) → slice_get hs i ≡ Some h → items ≡ within r (items_in entries (payload_in bytes (range_of h))))
    → entries_of_index bytes r (slice_get hs i) ≡ items
opened_entries bytes r hs i items inside at = elim ((slice_get_cases hs i).1) [
  | inl here ↦ ap (entries_of_index bytes r) here.2 ∙ sym (at here.0 here.2)
  | inr past ↦ absurd (let most = past.0 in omega (arith, most, inside))
]

-- the last of a block, seen_from from its back
pub seen_last : (old new : List Entry) (x : Option Entry) → YieldsLast (λ xs. xs) old x new → YieldsFirst (seen_from true) old x new
seen_last old new None h = (ap reverse h.0, ap reverse h.1)
seen_last old new (Some x) h = ap reverse h ∙ reverse-append new (x ∷ [])

-- an item of a block was taken, and made or not
pub made_taken : (old new : List Entry) (x : Entry) (result : Result (Option Entry) Error) → old ≡ x ∷ new → MatchResult result (λ o. o ≡ Some x) (λ e. e ≡ Memory) → TakesEnd false (λ e. e ≡ Memory) old result new
made_taken old new x (Ok o) e is = record { first = subst (λ p. YieldsFirst (λ xs. xs) old p new) (sym is) e; rest = sym (ap (λ xs. drop 1 xs) e); lacks = tt }
made_taken old new x (Err m) e is = record { first = tt; rest = sym (ap (λ xs. drop 1 xs) e); lacks = is }

pub made_taken_last : (old new : List Entry) (x : Entry) (result : Result (Option Entry) Error) → old ≡ new ++ x ∷ [] → MatchResult result (λ o. o ≡ Some x) (λ e. e ≡ Memory) → TakesEnd true (λ e. e ≡ Memory) old result new
made_taken_last old new x (Ok o) e is =
    let seen : reverse old ≡ x ∷ reverse new = seen_last old new (Some x) e in
    record { first = subst (λ p. YieldsFirst (seen_from true) old p new) (sym is) seen; rest = sym (ap (λ xs. drop 1 xs) seen); lacks = tt }
made_taken_last old new x (Err m) e is =
    let seen : reverse old ≡ x ∷ reverse new = seen_last old new (Some x) e in
    record { first = tt; rest = sym (ap (λ xs. drop 1 xs) seen); lacks = is }

seen_init : (ys : List Entry) → reverse (take (length (reverse ys) - 1) (reverse ys)) ≡ drop 1 ys
seen_init [] = refl
seen_init (y ∷ ys) =
    let e : reverse (y ∷ ys) ≡ reverse ys ++ y ∷ [] = reverse-append (y ∷ []) ys in
    let n : length (reverse ys ++ y ∷ []) - 1 ≡ length (reverse ys) = omega (arith, length-append (reverse ys) (y ∷ [])) in
    ap (λ (xs : List Entry). reverse (take (length xs - 1) xs)) e ∙ ap (λ k. reverse (take k (reverse ys ++ y ∷ []))) n ∙ ap reverse (take-append_seam (reverse ys) (y ∷ [])) ∙ reverse-reverse ys

pub seen_rest : (old new : List Entry) → new ≡ take (length old - 1) old → reverse new ≡ drop 1 (reverse old)
seen_rest old new e = ap reverse e ∙ ap (λ (xs : List Entry). reverse (take (length xs - 1) xs)) (sym (reverse-reverse old)) ∙ seen_init (reverse old)

module _ (c : Hashes) (r : KeyRange) (hs : List Handle) where
  block_is : (all : List ℕ) (i : ℕ) (P : Result (List Entry) Error → Type 0) → i < length hs → ((h : Handle) → slice_get hs i ≡ Some h → P (block_within c all r h)) → P (block_of_index c all r (slice_get hs i))
  block_is all i P inside at = elim ((slice_get_cases hs i).1) [
    | inl here ↦ subst (λ o. P (block_of_index c all r o)) (sym here.2) (at here.0 here.2)
    | inr past ↦ absurd (let most = past.0 in omega (arith, most, inside))
  ]

  pub opened_by : (o : Option (List ℕ)) (i : ℕ) (P : Result (List Entry) Error → Type 0) → i < length hs → IfSome o (λ all. (h : Handle) → slice_get hs i ≡ Some h → P (block_within c all r h))
      → IfSome {T = ℕ → Result (List Entry) Error} (option_map (λ all j. block_of_index c all r (slice_get hs j)) o) (λ read. P (read i))
  opened_by None i P inside at = tt
  opened_by (Some all) i P inside at = block_is all i P inside at

pub table_opened : (c : Hashes) (o : Option (List ℕ)) (r : KeyRange) (hs : List Handle) (i : ℕ) (items : List Entry) → i < length hs → IfSome o (λ all. (h : Handle) → slice_get hs i ≡ Some h → block_within c all r h ≡ Ok items)
    → IfSome {T = ℕ → Result (List Entry) Error} (option_map (λ all j. block_of_index c all r (slice_get hs j)) o) (λ read. read i ≡ Ok items)
table_opened c o r hs i items inside at = opened_by c r hs o i (λ x. x ≡ Ok items) inside at

pub table_refused : (c : Hashes) (o : Option (List ℕ)) (r : KeyRange) (hs : List Handle) (i : ℕ) (F R : Type 0) (e : Error) → i < length hs → IfSome o (λ all. (h : Handle) → slice_get hs i ≡ Some h → FailsAs F R (block_within c all r h) e)
    → IfSome {T = ℕ → Result (List Entry) Error} (option_map (λ all j. block_of_index c all r (slice_get hs j)) o) (λ read. FailsAs F R (read i) e)
table_refused c o r hs i F R e inside at = opened_by c r hs o i (λ x. FailsAs F R x e) inside at

-- ---- steps of a table's scan
abbrev pub NextFails : Bool → Type 0 → Type 0 → List Read → Error → Type 0
NextFails b F R left e = (x : Result (List Entry) Error) × (rest : List Read) × (left ≡ seen_from b (reads_of x) ++ rest) × FailsAs F R x e

fails_first : (F R : Type 0) (left : List Read) (e : Error) → NextFails false F R left e → FailsFirst F R left e
fails_first F R left e f = λ n. elim (f.3 n) [
  | inl q ↦ inl (
    q.0,
    elim (q.1) [
      | inl io ↦ inl (io.0, λ reliable. (f.1, f.2 ∙ ap (λ y. reads_of y ++ f.1) (io.1 reliable)))
      | inr cut ↦ inr (cut.0, (f.1, f.2 ∙ ap (λ y. reads_of y ++ f.1) cut.1))
    ],
  )
  | inr k ↦ inr (f.1, f.2 ∙ ap (λ y. reads_of y ++ f.1) k)
]

ends_with : (left rest : List Read) (x : Read) → reverse left ≡ x ∷ rest → left ≡ reverse rest ++ x ∷ []
ends_with left rest x e = turned_back left (reverse rest) x (e ∙ ap (λ rs. x ∷ rs) (sym (reverse-reverse rest)))

fails_last : (F R : Type 0) (left : List Read) (e : Error) → NextFails true F R (reverse left) e → FailsLast F R left e
fails_last F R left e f = λ n. elim (f.3 n) [
  | inl q ↦ inl (
    q.0,
    elim (q.1) [
      | inl io ↦ inl (io.0, λ reliable. (reverse f.1, ends_with left f.1 _ (f.2 ∙ ap (λ (y : Result (List Entry) Error). reverse (reads_of y) ++ f.1) (io.1 reliable))))
      | inr cut ↦ inr (cut.0, (reverse f.1, ends_with left f.1 _ (f.2 ∙ ap (λ (y : Result (List Entry) Error). reverse (reads_of y) ++ f.1) cut.1)))
    ],
  )
  | inr k ↦ inr (reverse f.1, ends_with left f.1 _ (f.2 ∙ ap (λ (y : Result (List Entry) Error). reverse (reads_of y) ++ f.1) k))
]

first_given : (F R : Type 0) (old new : List Read) (result : Result (Option Entry) Error) → MatchResult result (GivesNext old new) (λ e. NextFails false F R old e ⊎ (e ≡ Memory)) → GivesFirst F R old new result
first_given F R old new (Ok None) h = h
first_given F R old new (Ok (Some x)) h = h
first_given F R old new (Err e) h = elim h [ inl f ↦ fails_first F R old e f | inr m ↦ λ n. absurd (n m) ]

last_given : (F R : Type 0) (old new : List Read) (result : Result (Option Entry) Error) → MatchResult result (GivesNext (reverse old) (reverse new)) (λ e. NextFails true F R (reverse old) e ⊎ (e ≡ Memory)) → GivesLast F R old new result
last_given F R old new (Ok None) h = (turned_none old h.0, turned_none new h.1)
last_given F R old new (Ok (Some x)) h = turned_back old new (Ok x) h
last_given F R old new (Err e) h = elim h [ inl f ↦ fails_last F R old e f | inr m ↦ λ n. absurd (n m) ]

module _ (c : Hashes) (F R : Type 0) (r r2 : KeyRange) (hs hs2 : List Handle) (same : r2 ≡ r) (index : hs2 ≡ hs) (front back front2 back2 : List Entry) (lo hi lo2 hi2 : ℕ) (inside : hi ≤ length hs) (inside2 : hi2 ≤ length hs) (result : Result (Option Entry) Error) where
  pub gives_front : (o : Option (List ℕ)) → IfSome {T = ℕ → Result (List Entry) Error} (option_map (λ all j. block_of_index c all r (slice_get hs j)) o) (λ read.
      MatchResult result (GivesNext (reads_left false read (record { near = front; lo = lo; hi = hi; far = back })) (reads_left false read (record { near = front2; lo = lo2; hi = hi2; far = back2 })))
      (λ e. NextFails false F R (reads_left false read (record { near = front; lo = lo; hi = hi; far = back })) e ⊎ (e ≡ Memory)))
      → IfSome o (λ all. GivesFirst F R (reads_among c all r front (between hs lo hi) back) (reads_among c all r2 front2 (between hs2 lo2 hi2) back2) result)
  gives_front None h = tt
  gives_front (Some all) h =
      let new : reads_left false (λ j. block_of_index c all r (slice_get hs j)) (record { near = front2; lo = lo2; hi = hi2; far = back2 }) ≡ reads_among c all r2 front2 (between hs2 lo2 hi2) back2 =
      table_front c all r hs front2 back2 lo2 hi2 inside2 ∙ (λ i. reads_among c all (sym same i) front2 (between (sym index i) lo2 hi2) back2) in
      subst (λ rs. GivesFirst F R (reads_among c all r front (between hs lo hi) back) rs result) new
      (subst (λ rs. GivesFirst F R rs (reads_left false (λ j. block_of_index c all r (slice_get hs j)) (record { near = front2; lo = lo2; hi = hi2; far = back2 })) result) (table_front c all r hs front back lo hi inside)
      (first_given F R _ _ result h))

  pub gives_back : (o : Option (List ℕ)) → IfSome {T = ℕ → Result (List Entry) Error} (option_map (λ all j. block_of_index c all r (slice_get hs j)) o) (λ read.
      MatchResult result (GivesNext (reads_left true read (record { near = back; lo = lo; hi = hi; far = front })) (reads_left true read (record { near = back2; lo = lo2; hi = hi2; far = front2 })))
      (λ e. NextFails true F R (reads_left true read (record { near = back; lo = lo; hi = hi; far = front })) e ⊎ (e ≡ Memory)))
      → IfSome o (λ all. GivesLast F R (reads_among c all r front (between hs lo hi) back) (reads_among c all r2 front2 (between hs2 lo2 hi2) back2) result)
  gives_back None h = tt
  gives_back (Some all) h =
      let old = table_back c all r hs front back lo hi inside in
      let new = table_back c all r hs front2 back2 lo2 hi2 inside2 in
      subst (λ rs. GivesLast F R (reads_among c all r front (between hs lo hi) back) rs result) (λ i. reads_among c all (sym same i) front2 (between (sym index i) lo2 hi2) back2)
      (last_given F R (reads_among c all r front (between hs lo hi) back) (reads_among c all r front2 (between hs lo2 hi2) back2) result
      (subst (λ rs. MatchResult result (GivesNext (reverse (reads_among c all r front (between hs lo hi) back)) rs) (λ e. NextFails true F R (reverse (reads_among c all r front (between hs lo hi) back)) e ⊎ (e ≡ Memory))) new
      (subst (λ rs. MatchResult result (GivesNext rs (reads_left true (λ j. block_of_index c all r (slice_get hs j)) (record { near = back2; lo = lo2; hi = hi2; far = front2 }))) (λ e. NextFails true F R rs e ⊎ (e ≡ Memory))) old h)))

pub if_fresh : {A : Type 0} (P : A → Type 0) (Q : Type 0) (o : Option A) → IfSome o P → IfSome o (λ a. Q → P a)
if_fresh P Q None h = tt
if_fresh P Q (Some a) h = λ _. h
