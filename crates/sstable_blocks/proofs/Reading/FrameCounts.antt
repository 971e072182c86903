-- How many frames are asked for in stages.
use Rattle.std.proofs.Common.{◌≡◌, ◌≢◌, ℕ, ◌+◌, ◌<◌, ◌≤◌, List, Option, Some, None, IfSome, Result, Ok, Err, refl, sym, ap, subst, ◌∙◌, arith, Bool, true, false, cond}
use Rattle.sst_base.specs.declared.error.Error.{Error}
use Rattle.sst_base.specs.declared.error.Error.TheVariants.{Memory}
use Rattle.sst_base.specs.BlockHandle.{HandleParts}
use Rattle.sst_base.specs.Header.{◌>>=◌}
use Rattle.sst_base.specs.declared.table.block.block_type.BlockType.TheVariants as types
use Rattle.sstable_blocks.specs.Filter.{Filter, filter_at}
use Rattle.sstable_blocks.specs.FrameCountLaws.{asks_stop, asks_on, fails_on}
use Rattle.sstable_blocks.specs.FrameCounts.{check_frames, frames_by_index, frames_to}
use Rattle.sstable_blocks.specs.RunChecks.{filter_in_run}
use Rattle.sstable_blocks.specs.RunReading.{Hashes, payload_at}
use Rattle.sstable_blocks.specs.Sources.{AsksFor, FailsAs, filter_frames}
use Rattle.sstable_blocks.specs.declared.run.RunHandles.{RunHandles}
use Rattle.sstable_blocks.specs.Walks.{frames_after}

-- The frames of a check, by its filter.
module _ (c : Hashes) (h : RunHandles) (f f' a a' : ℕ) where
  -- of a run without a filter those of the index
  pub no_filter : (b : Option (List ℕ)) (P : Type 0) → h.filter ≡ None → IfSome b (λ all. AsksFor f f' a a' P (frames_by_index c all None h.index))
      → IfSome b (λ all. AsksFor f f' a a' P (check_frames c all h))
  unfolding check_frames
  no_filter None P none asked = tt
  no_filter (Some all) P none asked =
      let is : frames_by_index c all None h.index ≡ filter_frames h.filter + frames_after (filter_in_run c all h.filter) (λ x. frames_by_index c all x h.index) =
      omega arith ∙ sym (ap (λ o. filter_frames o + frames_after (filter_in_run c all o) (λ x. frames_by_index c all x h.index)) none) in
      subst (AsksFor f f' a a' P) is asked

  module _ (g : HandleParts) (there : h.filter ≡ Some g) where
    count : filter_frames h.filter ≡ 1
    count = ap filter_frames there

    -- a filter whose frame is refused is the last
    pub filter_stops : (b : Option (List ℕ)) (R : Type 0) (e : Error) → a' ≡ a + 1 → IfSome b (λ all. FailsAs (f < f') R (payload_at c types.Filter all g) e)
        → IfSome b (λ all. AsksFor f f' a a' (e ≢ Memory) (check_frames c all h))
    unfolding check_frames
    filter_stops None R e asked fails = tt
    filter_stops (Some all) R e asked fails =
        let read : FailsAs (f < f') R (filter_in_run c all (Some g)) e =
        fails_on (Some all) (f < f') R (λ all (r : Result (List ℕ) Error). r >>= (λ p. filter_at p >>= (λ x. Ok (Some x)))) e (λ all. payload_at c types.Filter all g) (λ all d. refl) fails in
        asks_stop f f' a a' (filter_frames h.filter) R e (filter_in_run c all h.filter) (λ x. frames_by_index c all x h.index) (omega (arith, asked, count))
        (subst (λ o. FailsAs (f < f') R (filter_in_run c all o) e) (sym there) read)

    module _ (p : List ℕ) where
      read_on : (all : List ℕ) → payload_at c types.Filter all g ≡ Ok p → filter_in_run c all h.filter ≡ (filter_at p >>= (λ x. Ok (Some x)))
      read_on all payload = ap (filter_in_run c all) there ∙ ap (λ r. r >>= (λ q. filter_at q >>= (λ x. Ok (Some x)))) payload

      -- and one that is refused
      pub filter_refused : (b : Option (List ℕ)) (e : Error) → a' ≡ a + 1 → IfSome b (λ all. payload_at c types.Filter all g ≡ Ok p) → filter_at p ≡ Err e
          → IfSome b (λ all. AsksFor f f' a a' (e ≢ Memory) (check_frames c all h))
      unfolding check_frames
      filter_refused None e asked payload refused = tt
      filter_refused (Some all) e asked payload refused =
          let none : frames_after (filter_in_run c all h.filter) (λ x. frames_by_index c all x h.index) ≡ 0 =
          ap (λ r. frames_after r (λ x. frames_by_index c all x h.index)) (read_on all payload ∙ ap (λ r. r >>= (λ x. Ok (Some x))) refused) in
          (omega (arith, asked, count), λ _ _. omega (arith, asked, count, none))

      -- after one that passes index and blocks are read
      pub filter_passes : (b b' : Option (List ℕ)) (f'' a'' : ℕ) (x : Filter) (P : Type 0) → b' ≡ b → a' ≡ a + 1 → f ≤ f' → f' ≤ f'' → IfSome b (λ all. payload_at c types.Filter all g ≡ Ok p)
          → filter_at p ≡ Ok x → IfSome b' (λ all. AsksFor f' f'' a' a'' P (frames_by_index c all (Some x) h.index)) → IfSome b (λ all. AsksFor f f'' a a'' P (check_frames c all h))
      unfolding check_frames
      filter_passes None b' f'' a'' x P same asked grow grow' payload passes next = tt
      filter_passes (Some all) b' f'' a'' x P same asked grow grow' payload passes next =
          asks_on f f' f'' a a' a'' (filter_frames h.filter) P (filter_in_run c all h.filter) (Some x) (λ x. frames_by_index c all x h.index)
          (read_on all payload ∙ ap (λ r. r >>= (λ x. Ok (Some x))) passes) (omega (arith, asked, count)) grow grow'
          (subst (λ o. IfSome o (λ all. AsksFor f' f'' a' a'' P (frames_by_index c all (Some x) h.index))) same next)

-- The frames to a block, by the index.
module _ (c : Hashes) (g : HandleParts) (needle : List ℕ) (seqno f f' a a' : ℕ) where
  -- where the filter allows the key, so many are asked for, and else none
  pub if_allowed : (b : Option (List ℕ)) (may : Bool) (P : Type 0) → may ≡ true → IfSome b (λ all. AsksFor f f' a a' P (frames_to c all g needle seqno))
      → IfSome b (λ all. AsksFor f f' a a' P (cond may (frames_to c all g needle seqno) 0))
  if_allowed None may P allowed asked = tt
  if_allowed (Some all) may P allowed asked = subst (λ t. AsksFor f f' a a' P (cond t (frames_to c all g needle seqno) 0)) (sym allowed) asked

  pub if_denied : (b : Option (List ℕ)) (may : Bool) (P : Type 0) → may ≡ false → a' ≡ a → IfSome b (λ all. AsksFor f f' a a' P (cond may (frames_to c all g needle seqno) 0))
  if_denied None may P denied asked = tt
  if_denied (Some all) may P denied asked = subst (λ t. AsksFor f f' a a' P (cond t (frames_to c all g needle seqno) 0)) (sym denied) (omega (arith, asked), λ _ _. omega (arith, asked))
