-- The parts that a scan has not reached, and its steps.
use Rattle.std.proofs.Common.{◌≡◌, ◌≢◌, inl, inr, ℕ, min, ◌+◌, ◌-◌, ◌<◌, ◌≤◌, Bool, true, false, cond, ltb, List, [], ◌∷◌, ◌++◌, length, reverse, drop, refl, arith, sym, ◌∙◌, ap, subst, append-nil, append_assoc, Option, Some, None, IfSome, IfErr, OnOk, Result, Ok, Err}
use Rattle.std.specs.Prelude.{MatchResult}
use Rattle.std.proofs.lemmas.List.{reverse-append}
use Rattle.std.specs.List.{slice_get}
use Rattle.sstable_blocks.specs.Results.{Error, BadHandle, Memory}
use Rattle.sstable_blocks.specs.Prelude.{Handle}
use Rattle.sst_parts.specs.Parts.{PartedParts}
use Rattle.sst_parts.specs.PartScans.{OpensNext, ScanEndParts, UnreachedParts, bytes_reads, file_reads, near_left, near_most, part_reads, parts_read}
use Rattle.sstable_blocks.specs.BetweenLaws.{first_between, last_between}
use Rattle.sstable_blocks.specs.BlockReading.{seen_from}
use Rattle.sstable_blocks.specs.Ends.{hi_at, index_at, lo_at}
use Rattle.sstable_blocks.specs.Opened.{range_of}
use Rattle.sstable_blocks.specs.RunReading.{Hashes, range_at}
use Rattle.sstable_blocks.specs.Scans.{FailsFirst, KeyRange, Read, StartsWith, between, first_block, blocks_up_to, handles_within}
use Rattle.sstable_blocks.specs.SourceLaws.{source_fails}
use Rattle.sstable_blocks.specs.Sources.{FailsAs, KeepsSource}

-- ---- handles between two indexes
pub tops_same : {S : Type 0} (a b : PartedParts S) → a ≡ record b { source = a.source } → a.tops ≡ b.tops
tops_same {S} a b e = ap (λ (t : PartedParts S). t.tops) e

-- the parts that can have a key in a range
pub handles_between : (r : KeyRange) (hs : List Handle) (lo hi last : ℕ) → lo ≡ first_block r hs → last ≡ blocks_up_to r hs → hi ≡ min (length hs) (last + 1) → between hs lo hi ≡ handles_within r hs
unfolding handles_within
handles_between r hs lo hi last first up at =
    ap (λ n. between hs n hi) first ∙ ap (λ n. between hs (first_block r hs) n) (at ∙ ap (λ n. min (length hs) (n + 1)) up)

module _ (c : Hashes) (all : List ℕ) (r : KeyRange) where
  parts_read-push : (hs : List Handle) (h : Handle) → parts_read c all r (hs ++ h ∷ []) ≡ parts_read c all r hs ++ part_reads c all r h
  parts_read-push [] h = append-nil (part_reads c all r h)
  parts_read-push (k ∷ ks) h = ap (λ xs. part_reads c all r k ++ xs) (parts_read-push ks h) ∙ sym (append_assoc (part_reads c all r k) (parts_read c all r ks) (part_reads c all r h))

  module _ (hs : List Handle) where
    -- the next part, seen from an end
    abbrev pub NextPart : Bool → ℕ → ℕ → ℕ → ℕ → ℕ → Type 0
    NextPart back lo hi i lo' hi' = (h : Handle) × (slice_get hs i ≡ Some h) × (seen_from back (parts_read c all r (between hs lo hi)) ≡ seen_from back (part_reads c all r h) ++ seen_from back (parts_read c all r (between hs lo' hi')))

    next_at : (back : Bool) (lo hi : ℕ) → lo < hi → hi ≤ length hs → NextPart back lo hi (index_at back lo hi) (lo_at back lo) (hi_at back hi)
    next_at false lo hi less inside =
        let k = first_between hs lo hi less inside in
        (k.0, k.1, ap (parts_read c all r) k.2)
    next_at true lo hi less inside =
        let k = last_between hs lo hi less inside in
        (k.0, k.1, ap (λ ks. reverse (parts_read c all r ks)) k.2 ∙ ap reverse (parts_read-push (between hs lo (hi - 1)) k.0) ∙ reverse-append (parts_read c all r (between hs lo (hi - 1))) (part_reads c all r k.0))

    pub next_part : (back : Bool) (lo hi i lo' hi' : ℕ) → lo < hi → hi ≤ length hs → i ≡ index_at back lo hi → lo' ≡ lo_at back lo → hi' ≡ hi_at back hi → NextPart back lo hi i lo' hi'
    next_part back lo hi i lo' hi' less inside at low high =
        subst (λ n. NextPart back lo hi n lo' hi') (sym at) (subst (λ n. NextPart back lo hi (index_at back lo hi) n hi') (sym low) (subst (λ n. NextPart back lo hi (index_at back lo hi) (lo_at back lo) n) (sym high) (next_at back lo hi less inside)))

-- one thing that is read is seen alike from both ends
seen_one : (back : Bool) (x : Read) → seen_from back (x ∷ []) ≡ x ∷ []
seen_one false x = refl
seen_one true x = refl

starts : (back : Bool) (reads : List Read) (x : Read) → reads ≡ x ∷ [] → StartsWith x (seen_from back reads)
starts back reads x e = ([], ap (seen_from back) e ∙ seen_one back x)

-- ---- a part is reached
refused_at : (c : Hashes) (r : KeyRange) (back : Bool) (F R : Type 0) (all : List ℕ) (h : Handle) (e : Error) → FailsAs F R (range_at all (range_of h)) e → FailsFirst F R (seen_from back (part_reads c all r h)) e
refused_at c r back F R all h e fails = λ other. elim (fails other) [
  | inl failed ↦ inl (source_fails (λ p. p) (λ t. t) (λ bad. starts back (part_reads c all r h) (Err BadHandle) (ap (bytes_reads c r) bad)) failed)
  | inr is ↦ inr (starts back (part_reads c all r h) (Err e) (ap (bytes_reads c r) is))
]

module _ (T : Type 0) (c : Hashes) (r : KeyRange) (back : Bool) (hs hs' : List Handle) (same : hs' ≡ hs) (lo hi i lo' hi' : ℕ) (less : lo < hi) (inside : hi ≤ length hs) (at : i ≡ index_at back lo hi) (low : lo' ≡ lo_at back lo) (high : hi' ≡ hi_at back hi) (F R : Type 0) (near : List Read) where
  abbrev Opens : List ℕ → Result T Error → Type 0
  Opens all result = OpensNext c all back F R r (between hs lo hi) (between hs' lo' hi') result near

  along : (all : List ℕ) (result : Result T Error) → OpensNext c all back F R r (between hs lo hi) (between hs lo' hi') result near → Opens all result
  along all result h = subst (λ ks. OpensNext c all back F R r (between hs lo hi) (between ks lo' hi') result near) (sym same) h

  -- its bytes are not read
  pub next_refused : (o : Option (List ℕ)) (e : Error) → IfSome o (λ all. (h : Handle) → slice_get hs i ≡ Some h → FailsAs F R (range_at all (range_of h)) e) → IfSome o (λ all. Opens all (Err e))
  next_refused None e fails = tt
  next_refused (Some all) e fails =
      let n = next_part c all r hs back lo hi i lo' hi' less inside at low high in
      along all (Err e) (record { reads = part_reads c all r n.0; parts = n.2; opened = refused_at c r back F R all n.0 e (fails n.0 n.1) })

  opened_at : (reads : List Read) (file : List ℕ) (result : Result T Error) → reads ≡ file_reads c file r → OnOk result (near ≡ file_reads c file r) → IfErr result (λ e. e ≢ Memory → file_reads c file r ≡ Err e ∷ [])
      → MatchResult result (λ _. near ≡ reads) (FailsFirst F R (seen_from back reads))
  opened_at reads file (Ok x) is ok err = ok ∙ sym is
  opened_at reads file (Err e) is ok err = λ other. inr (starts back reads (Err e) (is ∙ err other))

  -- they are read, and it is opened or not
  pub next_opened : (o : Option (List ℕ)) (file : List ℕ) (result : Result T Error) → IfSome o (λ all. (h : Handle) → slice_get hs i ≡ Some h → range_at all (range_of h) ≡ Ok file)
      → OnOk result (near ≡ file_reads c file r) → IfErr result (λ e. e ≢ Memory → file_reads c file r ≡ Err e ∷ []) → IfSome o (λ all. Opens all result)
  next_opened None file result read ok err = tt
  next_opened (Some all) file result read ok err =
      let n = next_part c all r hs back lo hi i lo' hi' less inside at low high in
      along all result (record { reads = part_reads c all r n.0; parts = n.2; opened = opened_at (part_reads c all r n.0) file result (ap (bytes_reads c r) (read n.0 n.1)) ok err })

-- ---- parts were reached
-- since a step began, parts were reached, and all that was opened was taken: what is left is the same
pub record IsReached {S : Type 0} (bytes : S → Option (List ℕ)) (failures reads : S → ℕ) (is_reliable : S → Type 0) (c : Hashes) (back : Bool) (u0 : UnreachedParts S) (n0 : ScanEndParts) (u : UnreachedParts S) (n : ScanEndParts) : Type 0 where
  pub table : u.table ≡ record u0.table { source = u.table.source }
  pub source : KeepsSource bytes failures is_reliable u0.table.source u.table.source
  pub asks : reads u.table.source + length u.handles ≡ reads u0.table.source + length u0.handles
  pub range : n.range ≡ n0.range
  pub left : IfSome (bytes u0.table.source) (λ all. near_left c all back n u.handles ≡ near_left c all back n0 u0.handles)
  pub most : near_most n u.handles ≤ near_most n0 u0.handles
