-- Walks over the handles of an index, step by step: of a source whose bytes are known, what the steps before have found, and
-- how many frames they asked for.
use Rattle.std.proofs.Common.{◌≡◌, ◌≢◌, ℕ, ◌+◌, ◌<◌, ◌≤◌, inl, inr, List, [], ◌∷◌, Option, Some, None, IfSome, Result, Ok, Err, sym, ap, subst, ◌∙◌, arith}
use Rattle.sst_base.specs.Header.{◌>>=◌}
use Rattle.sst_base.specs.declared.error.Error.{Error}
use Rattle.sst_base.specs.declared.error.Error.TheVariants.{Memory}
use Rattle.sst_block_core.specs.Candidates.{GivesNextHeld}
use Rattle.sst_block_core.specs.Handles.{Handle}
use Rattle.sst_block_core.specs.ParsedHandle.{parsed_handle, IsParsedHandle}
use Rattle.sst_block_core.specs.Scan.{Scan}
use Rattle.sst_block_core.specs.Window.{items_left}
use Rattle.sst_block_core.specs.WindowLaws.{next_some, next_none}
use Rattle.sst_block_core.specs.declared.table.index_block.parsed_item.IndexBlockParsedItem.{IndexBlockParsedItem}
use Rattle.sstable_blocks.specs.SourceLaws.{source_fails}
use Rattle.sstable_blocks.specs.Sources.{AsksFor, FailsAs, GivesOr}
use Rattle.sstable_blocks.specs.Walks.{frames_after, walk_frames, walked}

-- a step of the iterator over an index, and the handle that was made of its item
pub handle_left : (s t : Scan Handle) (p : IndexBlockParsedItem) (payload : List ℕ) (h : Handle) → GivesNextHeld parsed_handle IsParsedHandle s (Some p) t → s.payload ≡ payload → h ≡ parsed_handle payload p → items_left s.window ≡ h ∷ items_left t.window
handle_left s t p payload h gives same is =
    (next_some s.window t.window (parsed_handle s.payload p) gives.step).0
    ∙ ap (λ (x : Handle). x ∷ items_left t.window) (ap (λ xs. parsed_handle xs p) same ∙ sym is)

pub none_left : (s t : Scan Handle) → GivesNextHeld parsed_handle IsParsedHandle s None t → items_left s.window ≡ []
none_left s t gives = (next_none s.window t.window gives.step).0

-- what fails neither by its source nor at a range gives the same over any source
pub gives_or_over : {X Y : Type 0} (P Q R : Type 0) (view : X → Y) (r : Result X Error) (read : Result Y Error) → GivesOr ⊥ R view r read → GivesOr P Q view r read
gives_or_over P Q R view (Ok x) read h = h
gives_or_over P Q R view (Err e) read h = λ other. elim (h other) [
  | inl failed ↦ absurd failed.0
  | inr same ↦ inr same
]

-- a step that reads, and goes on by what was read
module _ {X Y P : Type 0} (view : X → Y) (rest : Y → Result P Error) (read : List ℕ → Result Y Error) (step : List ℕ → Result P Error) (is : (all : List ℕ) → step all ≡ (read all >>= rest)) where
  pub reads_on : (o : Option (List ℕ)) (x : X) (res : Result P Error) (F F' R : Type 0) → IfSome o (λ all. read all ≡ Ok (view x)) → GivesOr ⊥ R (λ p. p) res (rest (view x)) → IfSome o (λ all. GivesOr F F' (λ p. p) res (step all))
  reads_on None x res F F' R found given = tt
  reads_on (Some all) x res F F' R found given =
      let whole : step all ≡ rest (view x) = is all ∙ ap (λ q. q >>= rest) found in
      subst (GivesOr F F' (λ p. p) res) (sym whole) (gives_or_over F F' R (λ p. p) res (rest (view x)) given)

  pub reads_fail : (o : Option (List ℕ)) (e : Error) (F F' : Type 0) → IfSome o (λ all. FailsAs F F' (read all) e) → IfSome o (λ all. GivesOr {X = P} F F' (λ p. p) (Err e) (step all))
  reads_fail None e F F' fails = tt
  reads_fail (Some all) e F F' fails = λ other. elim (fails other) [
    | inl io ↦ inl (source_fails (λ p. p) (λ t. t) (λ bad. is all ∙ ap (λ q. q >>= rest) bad) io)
    | inr same ↦ inr (is all ∙ ap (λ q. q >>= rest) same)
  ]

-- the walk of known bytes, by steps of these, from a start on
module _ {P : Type 0} (step : List ℕ → P → Handle → Result P Error) (start : P) (hs : List Handle) where
  -- after some steps the rest of the walk is what the whole one is
  abbrev pub WalkLeft : Option (List ℕ) → P → List Handle → Type 0
  WalkLeft o s left = IfSome o (λ all. walked (step all) start hs ≡ walked (step all) s left)

  -- a step that passes
  pub walk_on : (o now : Option (List ℕ)) (s t : P) (left more : List Handle) (h : Handle) → now ≡ o → WalkLeft o s left → left ≡ h ∷ more
      → IfSome now (λ all. step all s h ≡ Ok t) → WalkLeft o t more
  walk_on None now s t left more h same known is one = tt
  walk_on (Some all) now s t left more h same known is one =
      let done : step all s h ≡ Ok t = subst (λ b. IfSome b (λ all. step all s h ≡ Ok t)) same one in
      known ∙ ap (walked (step all) s) is ∙ ap (λ q. q >>= (λ (u : P). walked (step all) u more)) done

  -- one that fails
  pub walk_fails : (o now : Option (List ℕ)) (s : P) (left more : List Handle) (h : Handle) (e : Error) (F F' R R' : Type 0) → now ≡ o → WalkLeft o s left → left ≡ h ∷ more → (F → F') → (R' → R)
      → IfSome now (λ all. GivesOr {X = P} F R (λ x. x) (Err e) (step all s h)) → IfSome o (λ all. GivesOr {X = P} F' R' (λ x. x) (Err e) (walked (step all) start hs))
  walk_fails None now s left more h e F F' R R' same known is on kept one = tt
  walk_fails (Some all) now s left more h e F F' R R' same known is on kept one =
      let failed = subst (λ b. IfSome b (λ all. GivesOr {X = P} F R (λ x. x) (Err e) (step all s h))) same one in
      let go : Result P Error → Result P Error = λ (q : Result P Error). q >>= (λ (u : P). walked (step all) u more) in
      let whole : walked (step all) start hs ≡ go (step all s h) = known ∙ ap (walked (step all) s) is in
      λ other. elim (failed other) [
        | inl io ↦ inl (source_fails on kept (λ bad. whole ∙ ap go bad) io)
        | inr is_err ↦ inr (whole ∙ ap go is_err)
      ]

  -- and where no handle is left
  pub walk_done : (o : Option (List ℕ)) (s : P) (left : List Handle) → WalkLeft o s left → left ≡ [] → IfSome o (λ all. walked (step all) start hs ≡ Ok s)
  walk_done None s left known is = tt
  walk_done (Some all) s left known is = known ∙ ap (walked (step all) s) is

  module _ (frames : P → Handle → ℕ) where
    abbrev all_frames : List ℕ → P → List Handle → ℕ
    all_frames all s left = walk_frames (step all) frames s left

    -- after some steps, so many frames were asked for in all, from this many on
    abbrev pub FramesLeft : Option (List ℕ) → P → List Handle → ℕ → ℕ → Type 0
    FramesLeft b s left first now = IfSome b (λ all. walk_frames (step all) frames s left + now ≡ walk_frames (step all) frames start hs + first)

    -- a step that passes
    pub frames_on : (b b' : Option (List ℕ)) (s t : P) (h : Handle) (left rest : List Handle) (first now next : ℕ) → b' ≡ b → left ≡ h ∷ rest → next ≡ now + frames s h
        → IfSome b' (λ all. step all s h ≡ Ok t) → FramesLeft b s left first now → FramesLeft b t rest first next
    frames_on None b' s t h left rest first now next same is asked exact way = tt
    frames_on (Some all) b' s t h left rest first now next same is asked exact way =
        let ok : step all s h ≡ Ok t = subst (λ o. IfSome o (λ all. step all s h ≡ Ok t)) same exact in
        let one : all_frames all s left ≡ frames s h + all_frames all t rest =
        ap (all_frames all s) is ∙ ap (λ r. frames s h + frames_after r (λ u. all_frames all u rest)) ok in
        omega (arith, one, asked, way)

    -- a step that fails is the last
    pub frames_end : (b b' : Option (List ℕ)) (s : P) (h : Handle) (left rest : List Handle) (first now next g g' g'' : ℕ) (R : Type 0) (e : Error) → b' ≡ b → left ≡ h ∷ rest
        → next ≡ now + frames s h → g ≤ g' → g' ≤ g'' → IfSome b' (λ all. FailsAs (g' < g'') R (step all s h) e) → FramesLeft b s left first now
        → IfSome b (λ all. AsksFor g g'' first next (e ≢ Memory) (walk_frames (step all) frames start hs))
    frames_end None b' s h left rest first now next g g' g'' R e same is asked grow grow' exact way = tt
    frames_end (Some all) b' s h left rest first now next g g' g'' R e same is asked grow grow' exact way =
        let fails : FailsAs (g' < g'') R (step all s h) e = subst (λ o. IfSome o (λ all. FailsAs (g' < g'') R (step all s h) e)) same exact in
        let one : all_frames all s left ≡ frames s h + frames_after (step all s h) (λ u. all_frames all u rest) = ap (all_frames all s) is in (
          omega (arith, one, asked, way),
          λ whole other. elim (fails other) [
            | inl failure ↦ absurd (let less = failure.0 in omega (arith, less, whole, grow))
            | inr refused ↦
                let none : frames_after (step all s h) (λ u. all_frames all u rest) ≡ 0 = ap (λ r. frames_after r (λ u. all_frames all u rest)) refused in
                omega (arith, one, asked, way, none)
          ],
        )

    -- where none is left, all were asked for
    pub frames_done : (b : Option (List ℕ)) (s : P) (left : List Handle) (first now g g' : ℕ) (Whole : Type 0) → left ≡ [] → FramesLeft b s left first now
        → IfSome b (λ all. AsksFor g g' first now Whole (walk_frames (step all) frames start hs))
    frames_done None s left first now g g' Whole none way = tt
    frames_done (Some all) s left first now g g' Whole none way =
        let zero : all_frames all s left ≡ 0 = ap (all_frames all s) none in
        (omega (arith, zero, way), λ _ _. omega (arith, zero, way))
