-- What a run prints, by what is found of its input.
use Rattle.std.proofs.Common.{◌≡◌, ℕ, ◌+◌, ◌<◌, ◌≤◌, ◌^◌, List, [], ◌∷◌, length, arith, refl, true, false, sym, ◌∙◌, ap, inl, inr, ◌⊎◌, ◌++◌, append_assoc, subst}
use Rattle.std.specs.Prelude.{Option, Some, None, Ok, Err, nat_lt, nat_eq}
use Rattle.std.specs.Io.KnownBytes.{Keeps, Appends}
use Rattle.std.proofs.KnownBytes.{Appends-nil, Appends-trans, Appends-kept}
use Rattle.sstable_blocks.specs.Results.{Error, TooLong, Memory}
use Rattle.sstable_blocks.specs.Prelude.{Entry, disorder_from}
use Rattle.sst_program.specs.Line.{entry_line_of}
use Rattle.std.proofs.lemmas.Bool.Decides.{nat_tests}
use Rattle.sst_program.specs.declared.fault.Fault.{Fault}
use Rattle.sst_program.specs.declared.fault.Fault.TheVariants.{NoEntries, Order, Refused}
use Rattle.sst_program.specs.Query.{Query}
use Rattle.sst_program.specs.Lines.{entries_of_input}
use Rattle.sst_program.specs.Point.{point_payload, point_text_of}
use Rattle.sst_program.specs.Outcome.{fault_of_disorder, fault_of_items, run_of_input, outcome_of_items, outcome_of_query, IsOutcomeOf, IsFaultOf, lines_text_of, PrintsLines}

pub fault-no_entries : (items : List Entry) → length items ≡ 0 → fault_of_items items ≡ Some NoEntries
unfolding fault_of_items
fault-no_entries [] h = refl
fault-no_entries (e ∷ items) h = absurd (omega arith)

fault-some : (items : List Entry) → 1 ≤ length items → fault_of_items items ≡ fault_of_disorder (disorder_from 0 items)
unfolding fault_of_items
fault-some [] h = absurd (omega arith)
fault-some (e ∷ items) h = refl

pub fault-disorder : (items : List Entry) (i : ℕ) → 1 ≤ length items → Some i ≡ disorder_from 0 items → fault_of_items items ≡ Some (Order (i + 1))
fault-disorder items i h e = fault-some items h ∙ ap fault_of_disorder (sym e)

pub fault-ordered : (items : List Entry) → 1 ≤ length items → None ≡ disorder_from 0 items → fault_of_items items ≡ None
fault-ordered items h e = fault-some items h ∙ ap fault_of_disorder (sym e)

run-items : (bytes : List ℕ) (items : List Entry) → entries_of_input bytes ≡ Ok items → fault_of_items items ≡ None → run_of_input bytes ≡ Ok items
unfolding run_of_input
run-items bytes items e f = rw (e, f) refl

run-fault : (bytes : List ℕ) (items : List Entry) (fault : Fault) → entries_of_input bytes ≡ Ok items → fault_of_items items ≡ Some fault → run_of_input bytes ≡ Err fault
unfolding run_of_input
run-fault bytes items fault e f = rw (e, f) refl

run-line : (bytes : List ℕ) (fault : Fault) → entries_of_input bytes ≡ Err fault → run_of_input bytes ≡ Err fault
unfolding run_of_input
run-line bytes fault e = rw e refl

-- the entries of the lines of an input are those of the input
pub run-read : (known : Option (List ℕ)) (items items' : List Entry) → IsOutcomeOf entries_of_input known items → items' ≡ items → fault_of_items items' ≡ None → IsOutcomeOf run_of_input known items
run-read known items items' r i f = (r.0, r.1, run-items r.0 items r.2 (ap fault_of_items (sym i) ∙ f))

-- so is their fault
pub run-refused : (known : Option (List ℕ)) (items items' : List Entry) (fault : Fault) → IsOutcomeOf entries_of_input known items → items' ≡ items → fault_of_items items' ≡ Some fault
    → IsFaultOf run_of_input known fault
run-refused known items items' fault r i f = inr (r.0, r.1, run-fault r.0 items fault r.2 (ap fault_of_items (sym i) ∙ f))

-- the fault of a line is the one of the input
pub fault-of_line : (known : Option (List ℕ)) (fault : Fault) → IsFaultOf entries_of_input known fault → IsFaultOf run_of_input known fault
fault-of_line known fault (inl failed) = inl failed
fault-of_line known fault (inr r) = inr (r.0, r.1, run-line r.0 fault r.2)

outcome-items : (query : Query) (bytes : List ℕ) (items : List Entry) → run_of_input bytes ≡ Ok items → outcome_of_query query bytes ≡ outcome_of_items query items
unfolding outcome_of_query
outcome-items query bytes items e = rw e refl

outcome-fault : (query : Query) (bytes : List ℕ) (fault : Fault) → run_of_input bytes ≡ Err fault → outcome_of_query query bytes ≡ Err fault
unfolding outcome_of_query
outcome-fault query bytes fault e = rw e refl

outcome-too_long : (query : Query) (items : List Entry) → 2 ^ 32 ≤ length (point_payload items query.interval) → outcome_of_items query items ≡ Err (Refused TooLong)
outcome-too_long query items long =
    let test : nat_lt (length (point_payload items query.interval)) (2 ^ 32) ≡ false = grind (arith, nat_tests) in
    rw test refl

outcome-text : (query : Query) (items : List Entry) → length (point_payload items query.interval) < 2 ^ 32
    → outcome_of_items query items ≡ Ok (point_text_of items query.interval query.needle query.seqno)
outcome-text query items fits =
    let test : nat_lt (length (point_payload items query.interval)) (2 ^ 32) ≡ true = grind (arith, nat_tests) in
    rw test refl

-- the text for the entries of an input is the one for the input
pub text-of_run : (query : Query) (known : Option (List ℕ)) (items : List Entry) (text : List ℕ) → IsOutcomeOf run_of_input known items → length (point_payload items query.interval) < 2 ^ 32
    → text ≡ point_text_of items query.interval query.needle query.seqno → IsOutcomeOf (outcome_of_query query) known text
text-of_run query known items text r fits t = (r.0, r.1, outcome-items query r.0 items r.2 ∙ outcome-text query items fits ∙ ap Ok (sym t))

-- the fault of the entries of an input is the one of the input
pub fault-of_run : (query : Query) (known : Option (List ℕ)) (fault : Fault) → IsFaultOf run_of_input known fault → IsFaultOf (outcome_of_query query) known fault
fault-of_run query known fault (inl failed) = inl failed
fault-of_run query known fault (inr r) = inr (r.0, r.1, outcome-fault query r.0 fault r.2)

-- a refusal of the block is one of the input
pub fault-of_block : (query : Query) (known : Option (List ℕ)) (items : List Entry) (error : Error) → IsOutcomeOf run_of_input known items
    → ((error ≡ TooLong) × (2 ^ 32 ≤ length (point_payload items query.interval))) ⊎ (error ≡ Memory) → IsFaultOf (outcome_of_query query) known (Refused error)
fault-of_block query known items error r (inl long) =
    inr (r.0, r.1, outcome-items query r.0 items r.2 ∙ outcome-too_long query items long.1 ∙ ap (λ e. Err (Refused e)) (sym long.0))
fault-of_block query known items error r (inr memory) = inl (inl (ap Refused memory))

-- a list that is not empty, by its test
pub some-from_test : (n : ℕ) → false ≡ nat_eq n 0 → 1 ≤ n
some-from_test n h = grind (arith, nat_tests)

pub none-from_test : (n : ℕ) → true ≡ nat_eq n 0 → n ≡ 0
none-from_test n h = grind (arith, nat_tests)

-- lines are printed after lines
pub prints_nothing : (a : Option (List ℕ)) → PrintsLines a a
prints_nothing a = ([], Appends-nil a)

pub lines-append : (xs ys : List Entry) → lines_text_of xs ++ lines_text_of ys ≡ lines_text_of (xs ++ ys)
lines-append [] ys = refl
lines-append (x ∷ xs) ys = append_assoc (entry_line_of x) (10 ∷ lines_text_of xs) (lines_text_of ys) ∙ ap (λ t. entry_line_of x ++ (10 ∷ t)) (lines-append xs ys)

pub prints_more : (a b c : Option (List ℕ)) → PrintsLines a b → PrintsLines b c → PrintsLines a c
prints_more a b c p q =
    (p.0 ++ q.0, subst (Appends a c) (lines-append p.0 q.0) (Appends-trans a b c (lines_text_of p.0) (lines_text_of q.0) p.1 q.1))

pub prints_kept : (a b c : Option (List ℕ)) → PrintsLines a b → Keeps b c → PrintsLines a c
prints_kept a b c p k = (p.0, Appends-kept a b c (lines_text_of p.0) p.1 k)
