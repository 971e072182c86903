-- The check of a run, step by step.
use Rattle.std.proofs.Common.{◌≡◌, ℕ, inl, inr, Bool, List, sym, ◌∙◌, ap, subst, Option, Some, None, IfSome, Result, Ok, Err, length}
use Rattle.std.proofs.lemmas.Bool.{eq-eqb}
use Rattle.sst_base.specs.BlockHandle.{HandleParts}
use Rattle.sst_base.specs.Entry.{Entry}
use Rattle.sst_base.specs.Frame.{demand}
use Rattle.sst_base.specs.Header.{◌>>=◌}
use Rattle.sst_base.specs.declared.error.Error.{Error}
use Rattle.sst_base.specs.declared.error.Error.TheVariants.{BadHandle}
use Rattle.sst_base.specs.declared.table.block.block_type.BlockType.TheVariants as types
use Rattle.sst_block_core.specs.Handles.{Handle}
use Rattle.sstable_blocks.specs.Filter.{Filter, filter_at}
use Rattle.sstable_blocks.specs.Opened.{range_of}
use Rattle.sstable_blocks.specs.RunChecks.{check_entries, check_items, check_block, check_from, none_passed, summary_by, filter_in_run, check_by_index, check_run, summary_of}
use Rattle.sstable_blocks.specs.RunReading.{Hashes, payload_at, block_items_at, handles_at}
use Rattle.sstable_blocks.specs.SourceLaws.{source_fails}
use Rattle.sstable_blocks.specs.Sources.{GivesOr}
use Rattle.sstable_blocks.specs.Sound.{IsSound}
use Rattle.sstable_blocks.specs.declared.run.RunHandles.{RunHandles}
use Rattle.sstable_blocks.specs.declared.run.checking.Passed.{Passed}
use Rattle.sstable_blocks.specs.declared.run.checking.RunSummary.{RunSummary}
use Rattle.sstable_blocks.specs.CheckedLaws.{gives_or_later}

-- one entry more that a filter may contain, or may not, and none more
module _ (hash : List ℕ → ℕ) (f : Option Filter) (h : Handle) (known : Result (ℕ × ℕ) Error) where
  abbrev pub AreLeft : Bool → ℕ → ℕ → List Entry → Type 0
  AreLeft ends least greatest left = known ≡ check_entries hash f h ends (least, greatest) left

-- the check of a block that was read is that of its entries
pub block_is : (c : Hashes) (f : Option Filter) (s : Passed) (h : Handle) (r : HandleParts) → h.offset ≡ s.offset → r ≡ range_of h → (all : List ℕ) → check_block c all f s h ≡ (block_items_at c all r >>= (λ (xs : List Entry). check_items c.hash64 f s h xs))
unfolding check_block
block_is c f s h r at is all =
    ap (λ b. demand b BadHandle >>= (λ u. block_items_at c all (range_of h) >>= (λ (xs : List Entry). check_items c.hash64 f s h xs))) (eq-eqb h.offset s.offset at)
    ∙ ap (λ (k : HandleParts). block_items_at c all k >>= (λ (xs : List Entry). check_items c.hash64 f s h xs)) (sym is)

-- where a block fails, the check by the index does
pub index_fail : (c : Hashes) (f : Option Filter) (before after : Option (List ℕ)) (P Q R T : Type 0) (index : HandleParts) (hs : List Handle) (e : Error) → after ≡ before → (P → Q) → (T → R)
    → IfSome before (λ all. handles_at c all index ≡ Ok hs) → IfSome after (λ all. GivesOr {X = Passed} P R (λ x. x) (Err e) (check_from c all f none_passed hs))
    → IfSome before (λ all. GivesOr {X = RunSummary} Q T (λ x. x) (Err e) (check_by_index c all f index))
index_fail c f None after P Q R T index hs e same on kept read failed = tt
index_fail c f (Some all) after P Q R T index hs e same on kept read failed =
    let here = subst (λ b. IfSome b (λ all. GivesOr {X = Passed} P R (λ x. x) (Err e) (check_from c all f none_passed hs))) same failed in
    let go : Result Passed Error → Result RunSummary Error = λ (q : Result Passed Error). q >>= (λ (t : Passed). Ok (summary_by (length hs) t)) in
    let whole : check_by_index c all f index ≡ go (check_from c all f none_passed hs) = ap (λ q. q >>= (λ (xs : List Handle). check_from c all f none_passed xs >>= (λ (t : Passed). Ok (summary_by (length xs) t)))) read in
    λ other. elim (here other) [
      | inl io ↦ inl (source_fails on kept (λ bad. whole ∙ ap go bad) io)
      | inr is_err ↦ inr (whole ∙ ap go is_err)
    ]

-- the check by a filter that was read
pub filter_on : (c : Hashes) (before after : Option (List ℕ)) (P Q R T : Type 0) (h : RunHandles) (g : HandleParts) (p : List ℕ) (f : Filter) (res : Result RunSummary Error) → after ≡ before → (P → Q) → (T → R) → h.filter ≡ Some g
    → IfSome before (λ all. payload_at c types.Filter all g ≡ Ok p) → filter_at p ≡ Ok f → IfSome after (λ all. GivesOr P R (λ x. x) res (check_by_index c all (Some f) h.index))
    → IfSome before (λ all. GivesOr Q T (λ x. x) res (check_run c all h))
unfolding check_run
filter_on c None after P Q R T h g p f res same on kept is at read given = tt
filter_on c (Some all) after P Q R T h g p f res same on kept is at read given =
    let here = subst (λ b. IfSome b (λ all. GivesOr P R (λ x. x) res (check_by_index c all (Some f) h.index))) same given in
    let go : Result (Option Filter) Error → Result RunSummary Error = λ (q : Result (Option Filter) Error). q >>= (λ (o : Option Filter). check_by_index c all o h.index) in
    let found : filter_in_run c all h.filter ≡ Ok (Some f) = ap (filter_in_run c all) is ∙ ap (λ q. q >>= (λ (x : List ℕ). filter_at x >>= (λ (y : Filter). Ok (Some y)))) at ∙ ap (λ q. q >>= (λ (y : Filter). Ok (Some y))) read in
    let whole : check_run c all h ≡ check_by_index c all (Some f) h.index = ap go found in
    subst (GivesOr Q T (λ x. x) res) (sym whole) (gives_or_later P Q R T (λ x. x) res (check_by_index c all (Some f) h.index) on kept here)

pub sound_on_check : (c : Hashes) (o : Option (List ℕ)) (h : RunHandles) (P Q : Type 0) (res : Result RunSummary Error)
    → ((all : List ℕ) (blocks : List (List Entry)) → IsSound c blocks all h → check_run c all h ≡ Ok (summary_of blocks))
    → IfSome o (λ all. GivesOr P Q (λ x. x) res (check_run c all h))
    → IfSome o (λ all. (blocks : List (List Entry)) → IsSound c blocks all h → GivesOr P Q (λ x. x) res (Ok (summary_of blocks)))
sound_on_check c None h P Q res law given = tt
sound_on_check c (Some all) h P Q res law given = λ blocks sound. subst (GivesOr P Q (λ x. x) res) (law all blocks sound) given
