-- Reading by the filter and the index that a table keeps.
use Rattle.std.proofs.Common.{◌≡◌, ℕ, Bool, List, refl, sym, ◌∙◌, ap, subst, inl, inr, if◌then◌else◌, Option, Some, None, IfSome, IfOk, Result, Ok, Err}
use Rattle.std.specs.Prelude.{MatchResult}
use Rattle.sst_base.specs.BlockHandle.{HandleParts}
use Rattle.sst_base.specs.Entry.{Entry}
use Rattle.sst_base.specs.Header.{◌>>=◌}
use Rattle.sst_base.specs.HeaderLaws.{bind_ok}
use Rattle.sst_base.specs.declared.error.Error.{Error}
use Rattle.sst_base.specs.declared.table.block.block_type.BlockType.TheVariants as types
use Rattle.sst_block_core.specs.Checks.{index_check}
use Rattle.sst_block_core.specs.Handles.{Handle, handles}
use Rattle.sstable_blocks.specs.Filter.{filter_at}
use Rattle.sstable_blocks.specs.Footer.{table_handles}
use Rattle.sstable_blocks.specs.Lookup.{handle_for}
use Rattle.sstable_blocks.specs.RunReading.{Hashes, payload_at, handles_at, filter_says, filter_answer, read_block, read_blocks, read_checked}
use Rattle.sstable_blocks.specs.SourceLaws.{source_fails}
use Rattle.sstable_blocks.specs.Sources.{GivesOr, FailsAs}
use Rattle.sstable_blocks.specs.Tables.{filter_kept, kept_of, kept_by_footer, IsIndexIn, IsKeptOf, kept_says, read_kept}
use Rattle.sstable_blocks.specs.declared.run.RunHandles.{RunHandles}
use Rattle.sstable_blocks.specs.SoundReadLaws.{bind_to}

-- the filter that was kept says what that of the bytes says
pub says_same : (c : Hashes) (bytes : List ℕ) (h : Option HandleParts) (p : Option (List ℕ)) (needle : List ℕ) → filter_kept c bytes h ≡ Ok p → filter_says c bytes h needle ≡ kept_says c.hash64 p needle
says_same c bytes None p needle e =
    let same : None ≡ p = (let k : ◌≡◌ {A = Result (Option (List ℕ)) Error} (Ok None) (Ok p) = e in cc) in
    ap (λ (q : Option (List ℕ)). kept_says c.hash64 q needle) same
says_same c bytes (Some h) p needle e =
    let q = bind_ok (payload_at c types.Filter bytes h) _ p e in
    let f = bind_ok (filter_at q.0) _ p q.2 in
    let same : Some q.0 ≡ p = (let k : ◌≡◌ {A = Result (Option (List ℕ)) Error} (Ok (Some q.0)) (Ok p) = f.2 in cc) in
    ap (λ r. r >>= (λ (x : List ℕ). filter_answer x (c.hash64 needle))) q.1 ∙ ap (λ (o : Option (List ℕ)). kept_says c.hash64 o needle) same

-- and the handles lead to the same block
pub blocks_same : (c : Hashes) (bytes : List ℕ) (h : HandleParts) (hs : List Handle) (needle : List ℕ) (seqno : ℕ) → handles_at c bytes h ≡ Ok hs → read_blocks c bytes h needle seqno ≡ read_block c bytes (handle_for handles needle seqno hs) needle seqno
blocks_same c bytes h hs needle seqno e =
    let p = bind_ok (payload_at c types.Index bytes h) index_check hs e in
    let go : List Handle → Result (Option Entry) Error = λ (xs : List Handle). read_block c bytes (handle_for handles needle seqno xs) needle seqno in
    ap (λ r. r >>= (λ (x : List ℕ). index_check x >>= go)) p.1 ∙ ap (λ r. r >>= go) p.2

-- a read by what was kept is a checked read of the bytes
pub kept_is_checked : (c : Hashes) (h : RunHandles) (filter : Option (List ℕ)) (index : List Handle) (interval : ℕ) (bytes needle : List ℕ) (seqno : ℕ) → IsKeptOf c h filter index interval bytes
    → read_kept c bytes filter index needle seqno ≡ read_checked c bytes h needle seqno
unfolding read_checked
kept_is_checked c h filter index interval bytes needle seqno k =
    sym (ap (λ r. r >>= (λ (may : Bool). if may then read_blocks c bytes h.index needle seqno else Ok None)) (says_same c bytes h.filter filter needle k.filter_is)
    ∙ ap (λ r. kept_says c.hash64 filter needle >>= (λ (may : Bool). if may then r else Ok None)) (blocks_same c bytes h.index index needle seqno k.index_is))

pub checked_on : (c : Hashes) (o : Option (List ℕ)) (h : RunHandles) (filter : Option (List ℕ)) (index : List Handle) (interval : ℕ) (needle : List ℕ) (seqno : ℕ) (P Q : Type 0) (r : Result (Option Entry) Error)
    → IfSome o (IsKeptOf c h filter index interval) → IfSome o (λ all. GivesOr P Q (λ x. x) r (read_kept c all filter index needle seqno)) → IfSome o (λ all. GivesOr P Q (λ x. x) r (read_checked c all h needle seqno))
checked_on c None h filter index interval needle seqno P Q r k given = tt
checked_on c (Some all) h filter index interval needle seqno P Q r k given = subst (GivesOr P Q (λ x. x) r) (kept_is_checked c h filter index interval all needle seqno k) given

-- opening: filter, then index
module _ (c : Hashes) (h : RunHandles) (filter : Option (List ℕ)) (index : List Handle) (interval : ℕ) where
  kept_at : (o : Option (List ℕ)) → IfSome o (λ all. filter_kept c all h.filter ≡ Ok filter) → IfSome o (λ all. handles_at c all h.index ≡ Ok index) → IfSome o (λ all. IsIndexIn all h.index index interval) → IfSome o (IsKeptOf c h filter index interval)
  kept_at None f i p = tt
  kept_at (Some all) f i p = record { filter_is = f; index_is = i; place = p }

  pub opened_on : (before mid : Option (List ℕ)) → mid ≡ before → IfSome before (λ all. filter_kept c all h.filter ≡ Ok filter) → IfSome mid (λ all. handles_at c all h.index ≡ Ok index) → IfSome mid (λ all. IsIndexIn all h.index index interval) → IfSome before (IsKeptOf c h filter index interval)
  opened_on before mid same f i p = kept_at before f (subst (λ o. IfSome o (λ all. handles_at c all h.index ≡ Ok index)) same i) (subst (λ o. IfSome o (λ all. IsIndexIn all h.index index interval)) same p)

  pub kept_ok : (o : Option (List ℕ)) → IfSome o (IsKeptOf c h filter index interval) → IfSome o (λ all. kept_of c all h ≡ Ok (filter, index))
  unfolding kept_of
  kept_ok None k = tt
  kept_ok (Some all) k =
      bind_to (filter_kept c all h.filter) _ filter (Ok (filter, index)) k.filter_is (bind_to (handles_at c all h.index) _ index (Ok (filter, index)) k.index_is refl)

module _ (c : Hashes) (h : RunHandles) where
  pub filter_fails : (o : Option (List ℕ)) (P Q : Type 0) (e : Error) → IfSome o (λ all. FailsAs P Q (filter_kept c all h.filter) e) → IfSome o (λ all. FailsAs P Q (kept_of c all h) e)
  unfolding kept_of
  filter_fails None P Q e f = tt
  filter_fails (Some all) P Q e f =
      let go : Result (Option (List ℕ)) Error → Result (Option (List ℕ) × List Handle) Error = λ (r : Result (Option (List ℕ)) Error). r >>= (λ (x : Option (List ℕ)). handles_at c all h.index >>= (λ (hs : List Handle). Ok (x, hs))) in
      λ other. elim (f other) [
        | inl failed ↦ inl (source_fails (λ p. p) (λ t. t) (ap go) failed)
        | inr is ↦ inr (ap go is)
      ]

  pub index_fails : (before mid : Option (List ℕ)) (P P' Q R : Type 0) (filter : Option (List ℕ)) (e : Error) → mid ≡ before → (P → P') → (Q → R) → IfSome before (λ all. filter_kept c all h.filter ≡ Ok filter)
      → IfSome mid (λ all. FailsAs P R (handles_at c all h.index) e) → IfSome before (λ all. FailsAs P' Q (kept_of c all h) e)
  unfolding kept_of
  index_fails None mid P P' Q R filter e same grew kept f i = tt
  index_fails (Some all) mid P P' Q R filter e same grew kept f i =
      let here = subst (λ o. IfSome o (λ all. FailsAs P R (handles_at c all h.index) e)) same i in
      let go : Result (List Handle) Error → Result (Option (List ℕ) × List Handle) Error = λ (r : Result (List Handle) Error). r >>= (λ (hs : List Handle). Ok (filter, hs)) in
      let whole : kept_of c all h ≡ go (handles_at c all h.index) = ap (λ r. r >>= (λ (x : Option (List ℕ)). handles_at c all h.index >>= (λ (hs : List Handle). Ok (x, hs)))) f in
      λ other. elim (here other) [
        | inl failed ↦ inl (source_fails grew kept (λ bad. whole ∙ ap go bad) failed)
        | inr is ↦ inr (whole ∙ ap go is)
      ]

-- opening by a footer: the handles, then what is kept
module _ (c : Hashes) where
  abbrev rest_of : List ℕ → RunHandles → Result (RunHandles × Option (List ℕ) × List Handle) Error
  rest_of all h = kept_of c all h >>= (λ (k : Option (List ℕ) × List Handle). Ok (h, k.0, k.1))

  by_handles : (all : List ℕ) (h : RunHandles) → table_handles all ≡ Ok h → kept_by_footer c all ≡ rest_of all h
  unfolding kept_by_footer
  by_handles all h e = ap (λ r. r >>= (λ (x : RunHandles). rest_of all x)) e

  pub footer_fails_first : (o : Option (List ℕ)) (P R : Type 0) (e : Error) → IfSome o (λ all. FailsAs P R (table_handles all) e) → IfSome o (λ all. FailsAs P R (kept_by_footer c all) e)
  unfolding kept_by_footer
  footer_fails_first None P R e f = tt
  footer_fails_first (Some all) P R e f = λ other. elim (f other) [
    | inl failed ↦ inl (source_fails (λ p. p) (λ t. t) (ap (λ r. r >>= (λ (x : RunHandles). rest_of all x))) failed)
    | inr is ↦ inr (ap (λ r. r >>= (λ (x : RunHandles). rest_of all x)) is)
  ]

  module _ {T E : Type 0} (handles_of : T → RunHandles) (filter_of : T → Option (List ℕ)) (index_of : T → List Handle) (error_of : E → Error) (P P' : E → Type 0) (R R' : Type 0) (h : RunHandles) where
    file_at : (all : List ℕ) (r : Result T E) → table_handles all ≡ Ok h → IfOk r (λ t. handles_of t ≡ h) → ((e : E) → P e → P' e) → (R' → R)
        → MatchResult r (λ t. kept_of c all h ≡ Ok (filter_of t, index_of t)) (λ e. FailsAs (P e) R (kept_of c all h) (error_of e))
        → MatchResult r (λ t. kept_by_footer c all ≡ Ok (handles_of t, filter_of t, index_of t)) (λ e. FailsAs (P' e) R' (kept_by_footer c all) (error_of e))
    file_at all (Ok t) found same grew kept is =
        by_handles all h found ∙ ap (λ r. r >>= (λ (k : Option (List ℕ) × List Handle). Ok (h, k.0, k.1))) is
        ∙ ap (λ (k : RunHandles). Ok (k, filter_of t, index_of t)) (sym same)
    file_at all (Err e) found same grew kept fails = λ other. elim (fails other) [
      | inl failed ↦ inl (source_fails (grew e) kept (λ bad. by_handles all h found ∙ ap (λ r. r >>= (λ (k : Option (List ℕ) × List Handle). Ok (h, k.0, k.1))) bad) failed)
      | inr is ↦ inr (by_handles all h found ∙ ap (λ r. r >>= (λ (k : Option (List ℕ) × List Handle). Ok (h, k.0, k.1))) is)
    ]

    pub file_on : (before mid : Option (List ℕ)) (r : Result T E) → mid ≡ before → IfSome before (λ all. table_handles all ≡ Ok h) → IfOk r (λ t. handles_of t ≡ h) → ((e : E) → P e → P' e) → (R' → R)
        → IfSome mid (λ all. MatchResult r (λ t. kept_of c all h ≡ Ok (filter_of t, index_of t)) (λ e. FailsAs (P e) R (kept_of c all h) (error_of e)))
        → IfSome before (λ all. MatchResult r (λ t. kept_by_footer c all ≡ Ok (handles_of t, filter_of t, index_of t)) (λ e. FailsAs (P' e) R' (kept_by_footer c all) (error_of e)))
    file_on None mid r same found is grew kept given = tt
    file_on (Some all) mid r same found is grew kept given =
        file_at all r found is grew kept (subst (λ o. IfSome o (λ xs. MatchResult r (λ t. kept_of c xs h ≡ Ok (filter_of t, index_of t)) (λ e. FailsAs (P e) R (kept_of c xs h) (error_of e)))) same given)

-- the index that was kept is that of the bytes
pub index_kept : (c : Hashes) (h : RunHandles) (filter : Option (List ℕ)) (index : List Handle) (interval : ℕ) (o : Option (List ℕ)) → IfSome o (IsKeptOf c h filter index interval) → IfSome o (λ all. handles_at c all h.index ≡ Ok index)
index_kept c h filter index interval None k = tt
index_kept c h filter index interval (Some all) k = k.index_is
