-- Entries of a source that were printed, a line each.
use Rattle.std.proofs.Common.{◌≡◌, ◌∙◌, ℕ, List, [], ◌∷◌, ◌++◌, refl, sym, ap, subst, append_assoc, Option, Some, None}
use Rattle.std.specs.Option.{option_map}
use Rattle.std.specs.Io.KnownBytes.{Appends}
use Rattle.std.proofs.KnownBytes.{Appends-trans}
use Rattle.sstable_blocks.specs.Prelude.{Entry}
use Rattle.sst_sources.specs.Sources.{IsTaken}
use Rattle.sst_program.specs.Line.{entry_line_of}
use Rattle.sst_program.specs.Outcome.{lines_text_of}

-- a front of what was left is printed, and the rest is left
pub record HasPrintedFront (list rest : Option (List Entry)) (old new : Option (List ℕ)) : Type 0 where
  pub front : List Entry
  pub taken : IsTaken list front rest
  pub printed : Appends old new (lines_text_of front)

lines-after : (front : List Entry) (e : Entry) → lines_text_of front ++ (entry_line_of e ++ 10 ∷ []) ≡ lines_text_of (front ++ e ∷ [])
lines-after [] e = refl
lines-after (x ∷ front) e =
    append_assoc (entry_line_of x) (10 ∷ lines_text_of front) (entry_line_of e ++ 10 ∷ [])
    ∙ ap (λ t. entry_line_of x ++ 10 ∷ t) (lines-after front e)

taken-next : (list : Option (List Entry)) (front : List Entry) (e : Entry) (t : Option (List Entry)) → IsTaken list front (option_map (λ xs. e ∷ xs) t) → IsTaken list (front ++ e ∷ []) t
taken-next list front e None taken = taken
taken-next list front e (Some xs) taken = taken ∙ ap (λ ys. Some ys) (sym (append_assoc front (e ∷ []) xs))

pub printed_next : (list s t : Option (List Entry)) (e : Entry) (a b c : Option (List ℕ)) → HasPrintedFront list s a b → s ≡ option_map (λ xs. e ∷ xs) t → Appends b c (entry_line_of e ++ 10 ∷ []) → HasPrintedFront list t a c
printed_next list s t e a b c p first line = record {
  front = p.front ++ e ∷ [];
  taken = taken-next list p.front e t (subst (IsTaken list p.front) first p.taken);
  printed = subst (Appends a c) (lines-after p.front e) (Appends-trans a b c _ _ p.printed line);
}
