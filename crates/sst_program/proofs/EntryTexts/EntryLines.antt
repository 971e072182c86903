-- The entries of lines, as a loop over the lines reads them.
use Rattle.std.proofs.Common.{◌≡◌, ℕ, ◌+◌, List, [], ◌∷◌, ◌++◌, refl, ap, sym, ◌∙◌, append_assoc, append-nil}
use Rattle.std.specs.Prelude.{Some, None, Result, Ok, Err}
use Rattle.sstable_blocks.specs.Prelude.{Entry}
use Rattle.sst_program.specs.declared.fault.Fault.{Fault}
use Rattle.sst_program.specs.declared.fault.Fault.TheVariants.{Entry as NoEntry}
use Rattle.sst_program.specs.Line.{entry_of_line}
use Rattle.sst_program.specs.Lines.{lines_of, entry_then, entries_from}
use Rattle.sst_program.proofs.EntryTexts.Cuts.{lines-empty}

-- the entries so far, and those of the lines that are left
abbrev pub items_then : List Entry → Result (List Entry) Fault → Result (List Entry) Fault
items_then items (Ok more) = Ok (items ++ more)
items_then items (Err fault) = Err fault

pub items_then-none : (r : Result (List Entry) Fault) → items_then [] r ≡ r
items_then-none (Ok more) = refl
items_then-none (Err fault) = refl

items_then-one : (items : List Entry) (e : Entry) (n : ℕ) (r : Result (List Entry) Fault) → items_then items (entry_then n (Some e) r) ≡ items_then (items ++ (e ∷ [])) r
items_then-one items e n (Ok more) = ap Ok (sym (append_assoc items (e ∷ []) more))
items_then-one items e n (Err fault) = refl

entries-line : (n : ℕ) (line : List ℕ) (lines : List (List ℕ)) → entries_from n (line ∷ lines) ≡ entry_then n (entry_of_line line) (entries_from (n + 1) lines)
unfolding entries_from
entries-line n line lines = refl

pub entries-step : (n : ℕ) (items : List Entry) (rest line behind : List ℕ) (e : Entry) → lines_of rest ≡ line ∷ lines_of behind → entry_of_line line ≡ Some e
    → items_then items (entries_from n (lines_of rest)) ≡ items_then (items ++ (e ∷ [])) (entries_from (n + 1) (lines_of behind))
entries-step n items rest line behind e h k =
    ap (λ ls. items_then items (entries_from n ls)) h
    ∙ ap (items_then items) (entries-line n line (lines_of behind))
    ∙ ap (λ o. items_then items (entry_then n o (entries_from (n + 1) (lines_of behind)))) k
    ∙ items_then-one items e n (entries_from (n + 1) (lines_of behind))

pub entries-fault : (n : ℕ) (items : List Entry) (rest line behind : List ℕ) → lines_of rest ≡ line ∷ lines_of behind → entry_of_line line ≡ None
    → items_then items (entries_from n (lines_of rest)) ≡ Err (NoEntry n)
entries-fault n items rest line behind h k =
    ap (λ ls. items_then items (entries_from n ls)) h
    ∙ ap (items_then items) (entries-line n line (lines_of behind))
    ∙ ap (λ o. items_then items (entry_then n o (entries_from (n + 1) (lines_of behind)))) k

pub entries-end : (n : ℕ) (items : List Entry) → items_then items (entries_from n (lines_of [])) ≡ Ok items
unfolding entries_from
entries-end n items = rw (lines-empty, append-nil items) refl
