-- An input that is read line by line.
use Rattle.std.proofs.Common.{◌≡◌, ◌≢◌, ◌⊎◌, ℕ, ◌+◌, ◌-◌, ◌<◌, suc, inl, inr, List, [], ◌∷◌, ◌++◌, length, arith, refl, sym, ◌∙◌, ap, subst, append_assoc, append-nil, length-append, Option, Some, None, Result, Ok, Err, IfSome, true, false}
use Rattle.std.specs.Prelude.{IsSomeAnd, nat_eq, nat_lt, All, slice_index}
use Rattle.std.proofs.Math.Seq.{take-append_seam, get_or-append_seam}
use Rattle.std.proofs.lemmas.Bool.Decides.{nat_tests}
use Rattle.std.proofs.lemmas.List.Elements.{All-get_or}
use Rattle.std.specs.Io.BufRead.{take_through, drop_through, strip_last, first_piece, DropsThrough}
use Rattle.std.specs.Io.Buffered.{reader_remaining, reader_inner, reader_buffer, reader_capacity}
use Rattle.std.specs.Io.Iter.{YieldsKnownPiece, YieldsWithout, split_known_bytes}
use Rattle.std.specs.declared.io.buffered.BufReader.{BufReader}
use Rattle.std.specs.declared.io.Split.{Split}
use Rattle.std.specs.Io.KnownBytes.{IsAtEnd, prepend_known}
use Rattle.sstable_blocks.specs.Prelude.{Entry}
use Rattle.sst_program.specs.declared.fault.Fault.TheVariants.{Entry as NoEntry}
use Rattle.sst_program.specs.Line.{Lacks, entry_of_line}
use Rattle.sst_program.specs.Lines.{lines_of, entries_from, entries_of_input}
use Rattle.sst_program.specs.Outcome.{Gave, IsOutcomeOf, IsFaultOf}
use Rattle.sst_program.proofs.EntryTexts.Cuts.{lines-joined, lines-only}
use Rattle.sst_program.proofs.EntryTexts.EntryLines.{items_then, items_then-none, entries-step, entries-fault, entries-end}

-- bytes with a line feed are those before the first one, and those after it
abbrev HasFeed : List ℕ → Type 0
HasFeed xs = (a : List ℕ) × Lacks 10 a × (take_through 10 xs ≡ a ++ (10 ∷ [])) × (xs ≡ a ++ (10 ∷ drop_through 10 xs))

-- bytes without one are all taken
abbrev HasNoFeed : List ℕ → Type 0
HasNoFeed xs = Lacks 10 xs × (take_through 10 xs ≡ xs) × (drop_through 10 xs ≡ [])

lacks-nil : Lacks 10 []
lacks-nil k lt = absurd (omega arith)

lacks-cons : (x : ℕ) (a : List ℕ) → x ≢ 10 → Lacks 10 a → Lacks 10 (x ∷ a)
lacks-cons x a first h Prim.Native.Nat.zero lt = first
lacks-cons x a first h (suc k) lt = h k (omega arith)

through-cons : (x : ℕ) (xs : List ℕ) → nat_eq x 10 ≡ false → HasFeed xs ⊎ HasNoFeed xs → HasFeed (x ∷ xs) ⊎ HasNoFeed (x ∷ xs)
through-cons x xs t (inl (a, lacks, taken, whole)) =
    let other : x ≢ 10 = λ e. grind (arith, nat_tests) in
    inl (x ∷ a, lacks-cons x a other lacks, rw t (ap (λ ys. x ∷ ys) taken), rw t (ap (λ ys. x ∷ ys) whole))
through-cons x xs t (inr (lacks, taken, rest)) =
    let other : x ≢ 10 = λ e. grind (arith, nat_tests) in
    inr (lacks-cons x xs other lacks, rw t (ap (λ ys. x ∷ ys) taken), rw t rest)

through : (xs : List ℕ) → HasFeed xs ⊎ HasNoFeed xs
through [] = inr (lacks-nil, refl, refl)
through (x ∷ xs) = elim (nat_eq x 10) as (λ b. nat_eq x 10 ≡ b → HasFeed (x ∷ xs) ⊎ HasNoFeed (x ∷ xs)) [
  | true ↦ (λ t. let feed : x ≡ 10 = grind (arith, nat_tests) in inl ([], lacks-nil, rw t (ap (λ y. y ∷ []) feed), rw t (ap (λ y. y ∷ xs) feed)))
  | false ↦ (λ t. through-cons x xs t (through xs))
] refl

strip-feed : (a : List ℕ) → strip_last 10 (a ++ (10 ∷ [])) ≡ a
strip-feed a =
    let len : length (a ++ (10 ∷ [])) - 1 ≡ length a = omega (arith, length-append a (10 ∷ [])) in
    let some : nat_lt 0 (length (a ++ (10 ∷ []))) ≡ true = grind (arith, nat_tests, length-append a (10 ∷ [])) in
    rw (len, some, get_or-append_seam a 10 [] 0) (take-append_seam a (10 ∷ []))

strip-none : (x : ℕ) (a : List ℕ) → Lacks 10 (x ∷ a) → strip_last 10 (x ∷ a) ≡ x ∷ a
strip-none x a lacks =
    let last : slice_index (x ∷ a) (length (x ∷ a) - 1) ≢ 10 = lacks (length (x ∷ a) - 1) (omega arith) in
    let test : nat_eq (slice_index (x ∷ a) (length (x ∷ a) - 1)) 10 ≡ false = grind (arith, nat_tests) in
    let some : nat_lt 0 (length (x ∷ a)) ≡ true = grind (arith, nat_tests) in
    rw (test, some) refl

-- the first piece is the first line
lines-piece : (xs : List ℕ) → 0 < length xs → lines_of xs ≡ first_piece 10 xs ∷ lines_of (drop_through 10 xs)
lines-piece [] some = absurd (omega arith)
lines-piece (x ∷ xs) some = elim (through (x ∷ xs)) [
  | inl (a, lacks, taken, whole) ↦
      ap lines_of whole ∙ lines-joined a (drop_through 10 (x ∷ xs)) lacks
      ∙ ap (λ p. p ∷ lines_of (drop_through 10 (x ∷ xs))) (sym (ap (strip_last 10) taken ∙ strip-feed a))
  | inr (lacks, taken, rest) ↦
      lines-only (x ∷ xs) some lacks
      ∙ ap (λ p. p ∷ lines_of []) (sym (ap (strip_last 10) taken ∙ strip-none x xs lacks))
      ∙ ap (λ r. first_piece 10 (x ∷ xs) ∷ lines_of r) (sym rest)
]

-- The n entries so far are those of the lines that were read, of the known bytes if they are known, and of some bytes.
pub record ReadTo (known left : Option (List ℕ)) (items : List Entry) (n : ℕ) : Type 0 where
  pub of_known : IfSome known (λ xs. IsSomeAnd left (λ rest. items_then items (entries_from (n + 1) (lines_of rest)) ≡ entries_of_input xs))
  pub done : List ℕ
  pub of_done : (behind : List ℕ) → entries_of_input (done ++ behind) ≡ items_then items (entries_from (n + 1) (lines_of behind))

start-known : (known left : Option (List ℕ)) → left ≡ known → IfSome known (λ xs. IsSomeAnd left (λ rest. items_then [] (entries_from 1 (lines_of rest)) ≡ entries_of_input xs))
start-known None left e = tt
start-known (Some xs) left e = rw e (items_then-none (entries_of_input xs))

read-start : (known left : Option (List ℕ)) → left ≡ known → ReadTo known left [] 0
read-start known left e = record {
  of_known = start-known known left e;
  done = [];
  of_done = λ behind. sym (items_then-none (entries_of_input behind));
}

no-feed : (piece : List ℕ) → All (λ b. b ≢ 10) piece → Lacks 10 piece
no-feed piece all k lt = All-get_or (λ b. b ≢ 10) piece k 0 lt all

-- the first piece of the bytes that are left, if those are known
abbrev pub IsFirstPiece : List ℕ → Option (List ℕ) → Type 0
IsFirstPiece piece left = IfSome left (λ xs. (0 < length xs) × (piece ≡ first_piece 10 xs))

next-known : (known left left' : Option (List ℕ)) (items : List Entry) (n : ℕ) (piece : List ℕ) (e : Entry) → entry_of_line piece ≡ Some e → IsFirstPiece piece left → DropsThrough left left' 10
    → IfSome known (λ xs. IsSomeAnd left (λ rest. items_then items (entries_from (n + 1) (lines_of rest)) ≡ entries_of_input xs))
    → IfSome known (λ xs. IsSomeAnd left' (λ rest. items_then (items ++ (e ∷ [])) (entries_from ((n + 1) + 1) (lines_of rest)) ≡ entries_of_input xs))
next-known None left left' items n piece e is first drops h = tt
next-known (Some xs) None left' items n piece e is first drops h = absurd h
next-known (Some xs) (Some rest) left' items n piece e is first drops h =
    let cut = lines-piece rest first.0 ∙ ap (λ p. p ∷ lines_of (drop_through 10 rest)) (sym first.1) in
    rw drops (sym (entries-step (n + 1) items rest piece (drop_through 10 rest) e cut is) ∙ h)

pub read-next : (known left left' : Option (List ℕ)) (items items' : List Entry) (n n' : ℕ) (piece : List ℕ) (e : Entry) → ReadTo known left items n → entry_of_line piece ≡ Some e
    → All (λ b. b ≢ 10) piece × IsFirstPiece piece left × DropsThrough left left' 10 → items' ≡ items ++ (e ∷ []) → n' ≡ n + 1 → ReadTo known left' items' n'
read-next known left left' items items' n n' piece e r is step more count = rw (more, count) (record {
  of_known = next-known known left left' items n piece e is step.1 step.2 r.of_known;
  done = r.done ++ (piece ++ (10 ∷ []));
  of_done = λ behind.
      ap entries_of_input (append_assoc r.done (piece ++ (10 ∷ [])) behind ∙ ap (λ t. r.done ++ t) (append_assoc piece (10 ∷ []) behind))
      ∙ r.of_done (piece ++ (10 ∷ behind))
      ∙ entries-step (n + 1) items (piece ++ (10 ∷ behind)) piece behind e (lines-joined piece behind (no-feed piece step.0)) is;
})

fault-known : (known left : Option (List ℕ)) (items : List Entry) (n : ℕ) (piece : List ℕ) → entry_of_line piece ≡ None → ReadTo known left items n → Lacks 10 piece
    → IsFirstPiece piece left → (bytes : List ℕ) × Gave known bytes × (entries_of_input bytes ≡ Err (NoEntry (n + 1)))
fault-known None left items n piece is r lacks first =
    (r.done ++ (piece ++ (10 ∷ [])), tt, r.of_done (piece ++ (10 ∷ [])) ∙ entries-fault (n + 1) items (piece ++ (10 ∷ [])) piece [] (lines-joined piece [] lacks) is)
fault-known (Some xs) None items n piece is r lacks first = absurd r.of_known
fault-known (Some xs) (Some rest) items n piece is r lacks first =
    let cut = lines-piece rest first.0 ∙ ap (λ p. p ∷ lines_of (drop_through 10 rest)) (sym first.1) in
    (xs, refl, sym r.of_known ∙ entries-fault (n + 1) items rest piece (drop_through 10 rest) cut is)

-- a line that is no entry
pub read-fault : (known left left' : Option (List ℕ)) (items : List Entry) (n n' : ℕ) (piece : List ℕ) → ReadTo known left items n → entry_of_line piece ≡ None
    → All (λ b. b ≢ 10) piece × IsFirstPiece piece left × DropsThrough left left' 10 → n' ≡ n → IsFaultOf entries_of_input known (NoEntry (n' + 1))
read-fault known left left' items n n' piece r is step same = rw same (inr (fault-known known left items n piece is r (no-feed piece step.0) step.1))

-- the end of the input
pub read-end : (known left : Option (List ℕ)) (items : List Entry) (n : ℕ) → ReadTo known left items n → IsAtEnd left → IsOutcomeOf entries_of_input known items
read-end None left items n r end =
    (r.done, tt, ap entries_of_input (sym (append-nil r.done)) ∙ r.of_done [] ∙ entries-end (n + 1) items)
read-end (Some xs) None items n r end = absurd r.of_known
read-end (Some xs) (Some rest) items n r end =
    (xs, refl, sym r.of_known ∙ ap (λ t. items_then items (entries_from (n + 1) (lines_of t))) end ∙ entries-end (n + 1) items)

prepend-nil : (known : Option (List ℕ)) → prepend_known [] known ≡ known
prepend-nil None = refl
prepend-nil (Some xs) = refl

-- a buffer that is new has the bytes of its reader
buffered-known : {T A : Type 0} (remaining : T → Option (List ℕ)) (r : BufReader T A) (input : T) → reader_inner r ≡ input → reader_buffer r ≡ [] → reader_capacity r ≡ 65536
    → reader_remaining remaining r ≡ remaining input
buffered-known remaining r input inner empty capacity =
    let test : nat_eq (reader_capacity r) 0 ≡ false = grind (arith, nat_tests) in
    rw (test, empty) (prepend-nil (remaining (reader_inner r)) ∙ ap remaining inner)

-- lines of a buffer that is new
pub split-start : {T A Z : Type 0} (remaining : T → Option (List ℕ)) (s s' : Split (BufReader T A) Z) (r : BufReader T A) (input : T) (items : List Entry) (n : ℕ) → s' ≡ s
    → split_known_bytes (reader_remaining remaining) s ≡ reader_remaining remaining r → reader_inner r ≡ input → reader_buffer r ≡ [] → reader_capacity r ≡ 65536 → items ≡ [] → n ≡ 0
    → ReadTo (remaining input) (split_known_bytes (reader_remaining remaining) s') items n
split-start remaining s s' r input items n same known inner empty capacity none zero =
    rw (none, zero, same) (read-start (remaining input) (split_known_bytes (reader_remaining remaining) s) (known ∙ buffered-known remaining r input inner empty capacity))

-- what a step of the iterator over lines says of the line that it gives
pub split-next : {X E : Type 0} (bytes : X → List ℕ) (line : Result X E) (v : X) (byte : ℕ) (left left' : Option (List ℕ)) → line ≡ Ok v → byte ≡ 10
    → YieldsWithout bytes (Some line) byte → YieldsKnownPiece bytes (first_piece byte) byte left (Some line) left'
    → All (λ b. b ≢ 10) (bytes v) × IsFirstPiece (bytes v) left × DropsThrough left left' 10
split-next {X} {E} bytes line v byte left left' is feed without known =
    let W : Result X E → ℕ → Type 0 = λ r b. YieldsWithout bytes (Some r) b in
    let K : Result X E → ℕ → Type 0 = λ r b. YieldsKnownPiece bytes (first_piece b) b left (Some r) left' in
    let w = subst (λ r. W r 10) is (subst (λ b. W line b) feed without) in
    let k = subst (λ r. K r 10) is (subst (λ b. K line b) feed known) in
    (w, k.0, k.1)
