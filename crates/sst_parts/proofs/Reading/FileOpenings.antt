-- Opening a parted table by the footer of its file.
use Rattle.std.proofs.Common.{◌≡◌, ℕ, List, sym, ◌∙◌, ap, subst, inl, inr, Option, Some, None, IfSome, IfOk, Result, Ok, Err}
use Rattle.std.specs.Prelude.{MatchResult}
use Rattle.sstable_blocks.specs.Prelude.{HandleParts, Handle}
use Rattle.sstable_blocks.specs.Results.{◌>>=◌, Error}
use Rattle.sst_parts.specs.Parts.{tops_at, tops_by_footer}
use Rattle.sstable_blocks.specs.Footer.{table_handles}
use Rattle.sstable_blocks.specs.RunReading.{Hashes}
use Rattle.sstable_blocks.specs.SourceLaws.{source_fails}
use Rattle.sstable_blocks.specs.Sources.{FailsAs}
use Rattle.sstable_blocks.specs.declared.run.RunHandles.{RunHandles}

module _ (c : Hashes) where
  abbrev pub rest_of : List ℕ → RunHandles → Result (HandleParts × List Handle) Error
  rest_of all h = tops_at c all h.index >>= (λ (hs : List Handle). Ok (h.index, hs))

  pub by_handles : (all : List ℕ) (h : RunHandles) → table_handles all ≡ Ok h → tops_by_footer c all ≡ rest_of all h
  unfolding tops_by_footer
  by_handles all h e = ap (λ r. r >>= (λ (x : RunHandles). rest_of all x)) e

  pub footer_fails_first : (o : Option (List ℕ)) (P R : Type 0) (e : Error) → IfSome o (λ all. FailsAs P R (table_handles all) e) → IfSome o (λ all. FailsAs P R (tops_by_footer c all) e)
  unfolding tops_by_footer
  footer_fails_first None P R e f = tt
  footer_fails_first (Some all) P R e f = λ other. elim (f other) [
    | inl failed ↦ inl (source_fails (λ p. p) (λ t. t) (ap (λ r. r >>= (λ (x : RunHandles). rest_of all x))) failed)
    | inr is ↦ inr (ap (λ r. r >>= (λ (x : RunHandles). rest_of all x)) is)
  ]

  module _ {T E : Type 0} (top_of : T → HandleParts) (tops_of : T → List Handle) (error_of : E → Error) (P P' : E → Type 0) (R R' : Type 0) (h : RunHandles) where
    file_at : (all : List ℕ) (r : Result T E) → table_handles all ≡ Ok h → IfOk r (λ t. top_of t ≡ h.index) → ((e : E) → P e → P' e) → (R' → R)
        → MatchResult r (λ t. tops_at c all h.index ≡ Ok (tops_of t)) (λ e. FailsAs (P e) R (tops_at c all h.index) (error_of e))
        → MatchResult r (λ t. tops_by_footer c all ≡ Ok (top_of t, tops_of t)) (λ e. FailsAs (P' e) R' (tops_by_footer c all) (error_of e))
    file_at all (Ok t) found same grew kept is =
        by_handles all h found ∙ ap (λ r. r >>= (λ (hs : List Handle). Ok (h.index, hs))) is ∙ ap (λ (k : HandleParts). Ok (k, tops_of t)) (sym same)
    file_at all (Err e) found same grew kept fails = λ other. elim (fails other) [
      | inl failed ↦ inl (source_fails (grew e) kept (λ bad. by_handles all h found ∙ ap (λ r. r >>= (λ (hs : List Handle). Ok (h.index, hs))) bad) failed)
      | inr is ↦ inr (by_handles all h found ∙ ap (λ r. r >>= (λ (hs : List Handle). Ok (h.index, hs))) is)
    ]

    pub file_on : (before mid : Option (List ℕ)) (r : Result T E) → mid ≡ before → IfSome before (λ all. table_handles all ≡ Ok h) → IfOk r (λ t. top_of t ≡ h.index) → ((e : E) → P e → P' e) → (R' → R)
        → IfSome mid (λ all. MatchResult r (λ t. tops_at c all h.index ≡ Ok (tops_of t)) (λ e. FailsAs (P e) R (tops_at c all h.index) (error_of e)))
        → IfSome before (λ all. MatchResult r (λ t. tops_by_footer c all ≡ Ok (top_of t, tops_of t)) (λ e. FailsAs (P' e) R' (tops_by_footer c all) (error_of e)))
    file_on None mid r same found is grew kept given = tt
    file_on (Some all) mid r same found is grew kept given =
        file_at all r found is grew kept (subst (λ o. IfSome o (λ xs. MatchResult r (λ t. tops_at c xs h.index ≡ Ok (tops_of t)) (λ e. FailsAs (P e) R (tops_at c xs h.index) (error_of e)))) same given)
