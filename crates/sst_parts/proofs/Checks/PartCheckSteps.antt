-- The check of a parted table, step by step.
use Rattle.std.proofs.Common.{◌≡◌, ℕ, inl, inr, List, sym, ◌∙◌, ap, subst, Option, Some, None, IfSome, IfOk, Result, Ok, Err}
use Rattle.std.proofs.lemmas.Bool.{eq-eqb}
use Rattle.sstable_blocks.specs.Prelude.{HandleParts, IsBytes, Entry, demand, Handle}
use Rattle.sstable_blocks.specs.Results.{◌>>=◌, Error, BadHandle}
use Rattle.sst_parts.specs.PartChecks.{ForParted, IsPartedSummary, check_bytes, check_file, check_part, check_parted, check_parts, summary_of_parts}
use Rattle.sst_parts.specs.Parts.{IsParted, tops_at}
use Rattle.sst_parts.specs.declared.checking.PartedSummary.{PartedSummary}
use Rattle.sst_parts.specs.declared.checking.Passed.{Passed}
use Rattle.sstable_blocks.specs.CheckedLaws.{gives_or_later}
use Rattle.sstable_blocks.specs.Footer.{table_handles}
use Rattle.sstable_blocks.specs.Opened.{range_of}
use Rattle.sstable_blocks.specs.RunChecks.{check_run}
use Rattle.sstable_blocks.specs.RunReading.{Hashes, range_at}
use Rattle.sstable_blocks.specs.Sources.{FailsAs, GivesOr}
use Rattle.sstable_blocks.specs.declared.run.RunHandles.{RunHandles}
use Rattle.sstable_blocks.specs.declared.run.checking.RunSummary.{RunSummary}

-- a table file, in a source that never fails
module _ (c : Hashes) (file start : List ℕ) (of : start ≡ file) (F R : Type 0) (never : F → ⊥) where
  pub file_refused : (e : Error) → FailsAs F R (table_handles start) e → FailsAs ⊥ ⊥ (check_file c file) e
  unfolding check_file
  file_refused e fails = λ other. elim (fails other) [
    | inl failed ↦ absurd (never failed.0)
    | inr is ↦ inr (ap (λ q. q >>= (λ (h : RunHandles). check_run c file h)) (ap table_handles (sym of) ∙ is))
  ]

  pub file_passes : (now : List ℕ) (h : RunHandles) (res : Result RunSummary Error) → ◌≡◌ {A = Option (List ℕ)} (Some now) (Some start) → table_handles start ≡ Ok h → GivesOr F R (λ s. s) res (check_run c now h) → GivesOr ⊥ ⊥ (λ s. s) res (check_file c file)
  unfolding check_file
  file_passes now h res same found given =
      let at : now ≡ file = cc in
      let read : table_handles file ≡ Ok h = ap table_handles (sym of) ∙ found in
      let whole : check_file c file ≡ check_run c file h = ap (λ q. q >>= (λ (x : RunHandles). check_run c file x)) read in
      subst (GivesOr ⊥ ⊥ (λ s. s) res) (sym whole)
      (gives_or_later F ⊥ R ⊥ (λ s. s) res (check_run c file h) (λ f. absurd (never f)) (λ no. absurd no) (subst (λ xs. GivesOr F R (λ s. s) res (check_run c xs h)) at given))

-- the check of a part that was read is that of its bytes
pub part_by : (c : Hashes) (s : Passed) (h : Handle) (r : HandleParts) → h.offset ≡ s.offset → r ≡ range_of h → (all : List ℕ) → check_part c all s h ≡ (range_at all r >>= check_bytes c s h)
unfolding check_part
part_by c s h r at is all =
    ap (λ b. demand b BadHandle >>= (λ u. range_at all (range_of h) >>= check_bytes c s h)) (eq-eqb h.offset s.offset at)
    ∙ ap (λ (k : HandleParts). range_at all k >>= check_bytes c s h) (sym is)

-- the check by the handles that were kept
module _ (c : Hashes) (top : HandleParts) (tops : List Handle) where
  kept_is : (all : List ℕ) → tops_at c all top ≡ Ok tops → check_parted c all top ≡ check_parts c all tops
  unfolding check_parted
  kept_is all kept = ap (λ q. q >>= (λ (hs : List Handle). check_parts c all hs)) kept

  pub by_kept : (o : Option (List ℕ)) (F R : Type 0) (res : Result PartedSummary Error) → IfSome o (λ all. tops_at c all top ≡ Ok tops) → IfSome o (λ all. GivesOr F R (λ s. s) res (check_parts c all tops)) → IfSome o (λ all. GivesOr F R (λ s. s) res (check_parted c all top))
  by_kept None F R res kept given = tt
  by_kept (Some all) F R res kept given = subst (GivesOr F R (λ s. s) res) (sym (kept_is all kept)) given

-- what is accepted is a parted table
pub sound_by : (c : Hashes) (o : Option (List ℕ)) (top : HandleParts) (F R : Type 0) (res : Result PartedSummary Error)
    → ((all : List ℕ) (s : PartedSummary) → IsBytes all → check_parted c all top ≡ Ok s → (parts : List (List (List Entry))) × IsParted c parts all top × (s ≡ summary_of_parts parts))
    → IfSome o IsBytes → IfSome o (λ all. GivesOr F R (λ s. s) res (check_parted c all top)) → IfSome o (λ all. IfOk res (IsPartedSummary c all top))
sound_by c None top F R res law cells given = tt
sound_by c (Some all) top F R (Ok s) law cells given = law all s cells given
sound_by c (Some all) top F R (Err e) law cells given = tt

-- and a parted table is accepted
pub accepts_by : (c : Hashes) (o : Option (List ℕ)) (top : HandleParts) (F R : Type 0) (res : Result PartedSummary Error)
    → ((all : List ℕ) (parts : List (List (List Entry))) → IsParted c parts all top → check_parted c all top ≡ Ok (summary_of_parts parts))
    → IfSome o (λ all. GivesOr F R (λ s. s) res (check_parted c all top)) → IfSome o (λ all. ForParted c all top (λ parts. GivesOr F R (λ s. s) res (Ok (summary_of_parts parts))))
accepts_by c None top F R res law given = tt
accepts_by c (Some all) top F R res law given = λ parts parted. subst (GivesOr F R (λ s. s) res) (law all parts parted) given

-- a table in memory that is not opened
pub lent_refused : (c : Hashes) (file start : List ℕ) (of : start ≡ file) (top : HandleParts) (F R : Type 0) (e : Error) → (F → ⊥) → FailsAs F R (tops_at c start top) e → FailsAs ⊥ ⊥ (check_parted c file top) e
unfolding check_parted
lent_refused c file start of top F R e never fails = λ other. elim (fails other) [
  | inl failed ↦ absurd (never failed.0)
  | inr is ↦ inr (ap (λ q. q >>= (λ (hs : List Handle). check_parts c file hs)) (ap (λ xs. tops_at c xs top) (sym of) ∙ is))
]
