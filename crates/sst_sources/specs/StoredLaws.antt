-- Laws of scans as sources.
use Rattle.std.proofs.Common.{◌≡◌, ℕ, List, [], ◌∷◌, map, Option, Some, None, Result, Ok, Err, refl, sym, ap, subst, ◌∙◌, arith}
use Rattle.std.specs.Option.{option_map, IfSome}
use Rattle.std.specs.Result.{IfOk}
use Rattle.sstable_blocks.specs.Prelude.{Entry}
use Rattle.sstable_blocks.specs.Results.{Error}
use Rattle.sstable_blocks.specs.Ends.{IsFewer}
use Rattle.sstable_blocks.specs.Scans.{Read, GivesFirst, EndsBy}
use Rattle.sst_sources.specs.Sources.{TakesFirst}
use Rattle.sst_sources.specs.Stored.{known_reads, scan_list}
use Rattle.sst_sources.specs.FailureLaws.{no_end}

-- entries that are all read
pub known_all : (xs : List Entry) → known_reads (map Ok xs) ≡ Some xs
known_all [] = refl
known_all (x ∷ xs) = ap (option_map (λ ys. x ∷ ys)) (known_all xs)

first_some : (b : Option (List ℕ)) (r s : List ℕ → List Read) (x : Entry) → IfSome b (λ all. r all ≡ Ok x ∷ s all) → scan_list None b r ≡ option_map (λ xs. x ∷ xs) (scan_list None b s)
first_some None r s x h = refl
first_some (Some all) r s x h = ap known_reads h

first_none : (b : Option (List ℕ)) (r s : List ℕ → List Read) → IfSome b (λ all. (r all ≡ []) × (s all ≡ [])) → (scan_list None b s ≡ scan_list None b r) × IfSome (scan_list None b r) (λ xs. xs ≡ [])
first_none None r s h = (refl, tt)
first_none (Some all) r s h = (ap known_reads (h.1 ∙ sym h.0), subst (λ reads. IfSome (known_reads reads) (λ xs. xs ≡ [])) (sym h.0) refl)

given : (F R : Type 0) (b : Option (List ℕ)) (old : Option Error) (P : List ℕ → Type 0) → old ≡ None → IfSome b (λ all. old ≡ None → P all) → IfSome b P
given F R None old P e h = tt
given F R (Some all) old P e h = h e

module _ (F R : Type 0) (b c : Option (List ℕ)) (r s : List ℕ → List Read) (old new : Option Error) (m n : ℕ) (p q : Option (List Error)) where
  step_by : (x : Option Entry) → EndsBy {X = Option Entry} None new (Ok x) → c ≡ b → IfSome b (λ all. GivesFirst F R (r all) (s all) (Ok x)) → IsFewer m n x
      → TakesFirst (record { list = scan_list None b r; most = m; errors = p; ended = None }) x (record { list = scan_list None c s; most = n; errors = q; ended = None })
  step_by None ends same gives fewer =
      let k = first_none b r s gives in
      (ap (λ o. scan_list None o s) same ∙ k.0, k.1, omega (arith, fewer))
  step_by (Some x) ends same gives fewer = (first_some b r s x gives ∙ ap (λ o. option_map (λ xs. x ∷ xs) (scan_list None o s)) (sym same), fewer)

  -- a step from the front takes the first entry left
  pub scan_step : (result : Result (Option Entry) Error) → EndsBy old new result → c ≡ b → IfSome b (λ all. old ≡ None → GivesFirst F R (r all) (s all) result) → IfOk result (IsFewer m n)
      → IfOk result (λ x. TakesFirst (record { list = scan_list old b r; most = m; errors = p; ended = old }) x (record { list = scan_list new c s; most = n; errors = q; ended = new }))
  scan_step (Err e) ends same gives fewer = tt
  scan_step (Ok x) ends same gives fewer =
      let here : old ≡ None = no_end old new x ends in
      let there : new ≡ None = ends.ended in
      subst (λ o. TakesFirst (record { list = scan_list o b r; most = m; errors = p; ended = o }) x (record { list = scan_list new c s; most = n; errors = q; ended = new })) (sym here)
      (subst (λ o. TakesFirst (record { list = scan_list None b r; most = m; errors = p; ended = None }) x (record { list = scan_list o c s; most = n; errors = q; ended = o })) (sym there)
      (step_by x (subst (λ o. EndsBy o new (Ok x)) here ends) same (given F R b old (λ all. GivesFirst F R (r all) (s all) (Ok x)) here gives) fewer))
