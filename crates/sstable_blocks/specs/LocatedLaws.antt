-- A read by what a table keeps, with the block at an index.
use Rattle.std.proofs.Common.{◌≡◌, ℕ, zero, suc, ◌<◌, Bool, true, false, cond, List, [], ◌∷◌, length, refl, arith, sym, ◌∙◌, ap, inl, inr, if◌then◌else◌, Option, Some, None, IfSome, IfOk, Result, Ok, Err}
use Rattle.std.specs.List.{slice_get}
use Rattle.std.specs.Prelude.{IsOkUnless, nat_lt}
use Rattle.std.proofs.lemmas.Bool.{cases_Bool, ltb-false}
use Rattle.std.proofs.lemmas.Option.{slice_get_past}
use Rattle.sst_base.specs.Entry.{Entry}
use Rattle.sst_base.specs.Header.{◌>>=◌}
use Rattle.sst_base.specs.HeaderLaws.{bind_ok}
use Rattle.sst_base.specs.declared.error.Error.{Error}
use Rattle.sst_base.specs.declared.error.Error.TheVariants.{Memory}
use Rattle.sst_base.specs.declared.table.block.block_type.BlockType.TheVariants as types
use Rattle.sst_block_core.specs.Checks.{data_check}
use Rattle.sst_block_core.specs.DataBlock.{DataBlockParts}
use Rattle.sst_block_core.specs.Entries.{entries}
use Rattle.sst_block_core.specs.Handles.{Handle, handles}
use Rattle.sst_block_core.specs.Window.{first_match}
use Rattle.sstable_blocks.specs.ManyReads.{IsOpenAt, read_at}
use Rattle.sstable_blocks.specs.KeptLaws.{blocks_same}
use Rattle.sstable_blocks.specs.Lookup.{handle_for, place_for}
use Rattle.sstable_blocks.specs.Opened.{range_of}
use Rattle.sstable_blocks.specs.RunReading.{Hashes, block_items_at, handles_at, payload_at, read_block, read_blocks, read_checked}
use Rattle.sstable_blocks.specs.Scans.{AtHandle}
use Rattle.sstable_blocks.specs.SourceLaws.{source_fails}
use Rattle.sstable_blocks.specs.Sources.{FailsAs, GivesOr}
use Rattle.sstable_blocks.specs.Tables.{block_place, filter_kept, kept_of, kept_says, located}
use Rattle.sstable_blocks.specs.declared.run.RunHandles.{RunHandles}
use Rattle.sstable_blocks.specs.KeptLaws.{says_same}

-- the block at the index of a key is that of its handle
place_same : (c : Hashes) (bytes : List ℕ) (hs : List Handle) (needle : List ℕ) (seqno : ℕ) → read_block c bytes (handle_for handles needle seqno hs) needle seqno ≡ read_at c bytes hs (block_place hs needle seqno) needle seqno
place_same c bytes hs needle seqno =
    let n = place_for handles needle seqno hs in
    elim (cases_Bool (nat_lt n (length hs))) [
      | inl some ↦ sym (ap (λ b. read_at c bytes hs (cond b (Some n) None) needle seqno) some)
      | inr none ↦ ap (λ o. read_block c bytes o needle seqno) (slice_get_past hs n (ltb-false n (length hs) none)) ∙ sym (ap (λ b. read_at c bytes hs (cond b (Some n) None) needle seqno) none)
    ]

allowed_same : (c : Hashes) (bytes : List ℕ) (hs : List Handle) (needle : List ℕ) (seqno : ℕ) (may : Result Bool Error)
    → (may >>= (λ (b : Bool). if b then read_block c bytes (handle_for handles needle seqno hs) needle seqno else Ok None)) ≡ ((may >>= (λ (b : Bool). Ok (if b then block_place hs needle seqno else None))) >>= (λ (p : Option ℕ). read_at c bytes hs p needle seqno))
allowed_same c bytes hs needle seqno (Ok true) = place_same c bytes hs needle seqno
allowed_same c bytes hs needle seqno (Ok false) = refl
allowed_same c bytes hs needle seqno (Err e) = refl

-- a checked read is a read by the index that what a table keeps leads to
pub checked_is_located : (c : Hashes) (bytes : List ℕ) (h : RunHandles) (filter : Option (List ℕ)) (hs : List Handle) (needle : List ℕ) (seqno : ℕ) → kept_of c bytes h ≡ Ok (filter, hs)
    → read_checked c bytes h needle seqno ≡ (located c.hash64 filter hs needle seqno >>= (λ (p : Option ℕ). read_at c bytes hs p needle seqno))
unfolding read_checked kept_of
checked_is_located c bytes h filter hs needle seqno kept =
    let f = bind_ok (filter_kept c bytes h.filter) _ (filter, hs) kept in
    let i = bind_ok (handles_at c bytes h.index) _ (filter, hs) f.2 in
    let same : ◌≡◌ {A = Option (List ℕ) × List Handle} (f.0, i.0) (filter, hs) = (let k : ◌≡◌ {A = Result (Option (List ℕ) × List Handle) Error} (Ok (f.0, i.0)) (Ok (filter, hs)) = i.2 in cc) in
    let filter_is : filter_kept c bytes h.filter ≡ Ok filter = f.1 ∙ ap (λ (x : Option (List ℕ) × List Handle). Ok x.0) same in
    let index_is : handles_at c bytes h.index ≡ Ok hs = i.1 ∙ ap (λ (x : Option (List ℕ) × List Handle). Ok x.1) same in
    ap (λ r. r >>= (λ (may : Bool). if may then read_blocks c bytes h.index needle seqno else Ok None)) (says_same c bytes h.filter filter needle filter_is)
    ∙ ap (λ r. kept_says c.hash64 filter needle >>= (λ (may : Bool). if may then r else Ok None)) (blocks_same c bytes h.index hs needle seqno index_is)
    ∙ allowed_same c bytes hs needle seqno (kept_says c.hash64 filter needle)

pub items_first : (c : Hashes) (bytes : List ℕ) (h : Handle) (needle : List ℕ) (seqno : ℕ) → read_block c bytes (Some h) needle seqno ≡ (block_items_at c bytes (range_of h) >>= (λ (xs : List Entry). Ok (first_match entries needle seqno xs)))
items_first c bytes h needle seqno = bound (payload_at c types.Data bytes (range_of h)) where
  bound : (r : Result (List ℕ) Error) → (r >>= (λ (p : List ℕ). data_check c.hash64 p >>= (λ (xs : List Entry). Ok (first_match entries needle seqno xs)))) ≡ ((r >>= (λ (p : List ℕ). data_check c.hash64 p)) >>= (λ (xs : List Entry). Ok (first_match entries needle seqno xs)))
  bound (Ok p) = refl
  bound (Err e) = refl

pub some_at : (hs : List Handle) (i : ℕ) → i < length hs → (h : Handle) × (slice_get hs i ≡ Some h)
some_at [] i less = absurd (omega arith)
some_at (h ∷ hs) zero less = (h, refl)
some_at (h ∷ hs) (suc i) less = some_at hs i (omega (arith, less))

module _ (c : Hashes) (h : RunHandles) (filter : Option (List ℕ)) (hs : List Handle) (needle : List ℕ) (seqno : ℕ) where
  abbrev by_place : List ℕ → Result (Option ℕ) Error → Result (Option Entry) Error
  by_place all r = r >>= (λ (p : Option ℕ). read_at c all hs p needle seqno)

  -- no block
  pub at_none : (o : Option (List ℕ)) (p : Option ℕ) → IfSome o (λ all. kept_of c all h ≡ Ok (filter, hs)) → Ok p ≡ located c.hash64 filter hs needle seqno → p ≡ None → IfSome o (λ all. read_checked c all h needle seqno ≡ Ok None)
  at_none None p kept is none = tt
  at_none (Some all) p kept is none = checked_is_located c all h filter hs needle seqno kept ∙ ap (by_place all) (sym is) ∙ ap (λ (q : Option ℕ). read_at c all hs q needle seqno) none

  at_block : (all : List ℕ) (p : Option ℕ) (i : ℕ) (g : Handle) → kept_of c all h ≡ Ok (filter, hs) → Ok p ≡ located c.hash64 filter hs needle seqno → p ≡ Some i → slice_get hs i ≡ Some g
      → read_checked c all h needle seqno ≡ (block_items_at c all (range_of g) >>= (λ (xs : List Entry). Ok (first_match entries needle seqno xs)))
  at_block all p i g kept is some at =
      checked_is_located c all h filter hs needle seqno kept ∙ ap (by_place all) (sym is) ∙ ap (λ (q : Option ℕ). read_at c all hs q needle seqno) some
      ∙ ap (λ o. read_block c all o needle seqno) at ∙ items_first c all g needle seqno

  -- a block that is refused
  pub at_fails : (o : Option (List ℕ)) (p : Option ℕ) (i : ℕ) (P R : Type 0) (e : Error) → IfSome o (λ all. kept_of c all h ≡ Ok (filter, hs)) → Ok p ≡ located c.hash64 filter hs needle seqno → p ≡ Some i → i < length hs
      → AtHandle o hs i (λ all g. FailsAs P R (block_items_at c all (range_of g)) e) → IfSome o (λ all. FailsAs P R (read_checked c all h needle seqno) e)
  at_fails None p i P R e kept is some less fails = tt
  at_fails (Some all) p i P R e kept is some less fails =
      let g = some_at hs i less in
      let whole = at_block all p i g.0 kept is some g.1 in
      let go : Result (List Entry) Error → Result (Option Entry) Error = λ (r : Result (List Entry) Error). r >>= (λ (xs : List Entry). Ok (first_match entries needle seqno xs)) in
      λ other. elim (fails g.0 g.1 other) [
        | inl failed ↦ inl (source_fails (λ q. q) (λ t. t) (λ bad. whole ∙ ap go bad) failed)
        | inr same ↦ inr (whole ∙ ap go same)
      ]

  found_in : (all : List ℕ) (P R : Type 0) (items : List Entry) (r : Result (Option Entry) Error) → read_checked c all h needle seqno ≡ Ok (first_match entries needle seqno items) → IfOk r (λ item. item ≡ first_match entries needle seqno items) → IsOkUnless r Memory → GivesOr P R (λ x. x) r (read_checked c all h needle seqno)
  found_in all P R items (Ok x) whole found memory = whole ∙ ap (λ y. Ok y) (sym found)
  found_in all P R items (Err e) whole found memory = λ other. absurd (other memory)

  -- the first match in the block that was read last
  pub at_found : (o : Option (List ℕ)) (p : Option ℕ) (i : ℕ) (P R : Type 0) (last : Option (ℕ × DataBlockParts)) (r : Result (Option Entry) Error) → IfSome o (λ all. kept_of c all h ≡ Ok (filter, hs)) → Ok p ≡ located c.hash64 filter hs needle seqno → p ≡ Some i → i < length hs
      → IsOpenAt c o hs i last → IfSome last (λ b. IfOk r (λ item. item ≡ first_match entries needle seqno b.1.items)) → IsOkUnless r Memory → IfSome o (λ all. GivesOr P R (λ x. x) r (read_checked c all h needle seqno))
  at_found None p i P R last r kept is some less opened found memory = tt
  at_found (Some all) p i P R None r kept is some less opened found memory = absurd opened
  at_found (Some all) p i P R (Some b) r kept is some less opened found memory =
      let g = some_at hs i less in
      let items = opened.1 g.0 g.1 in
      let go : Result (List Entry) Error → Result (Option Entry) Error = λ (q : Result (List Entry) Error). q >>= (λ (xs : List Entry). Ok (first_match entries needle seqno xs)) in
      found_in all P R b.1.items r (at_block all p i g.0 kept is some g.1 ∙ ap go items) found memory
