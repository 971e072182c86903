-- The scan of a part in memory: how it begins, and its steps.
use Rattle.std.proofs.Common.{◌≡◌, inl, inr, ℕ, ◌-◌, ◌<◌, ◌≤◌, ◌^◌, List, [], ◌∷◌, length, reverse, drop, arith, sym, ◌∙◌, ap, subst, append-nil, Option, Some, None, Result, Ok, Err}
use Rattle.std.proofs.lemmas.List.{reverse-append, length-take, length-drop}
use Rattle.sstable_blocks.specs.Prelude.{Entry, Handle}
use Rattle.sstable_blocks.specs.Results.{Error, Memory}
use Rattle.sst_parts.specs.PartScans.{file_reads, kept_reads}
use Rattle.sstable_blocks.specs.RunReading.{Hashes}
use Rattle.sstable_blocks.specs.Scans.{GivesFirst, GivesLast, KeyRange, Read, ScanParts, blocks_read, first_block, end_block, handles_within, most_left, reads_among, reads_left}
use Rattle.sstable_blocks.specs.Sources.{FailsAs, SourceParts}
use Rattle.sstable_blocks.specs.Tables.{TableParts, kept_by_footer}

abbrev PartScan : Type 0
PartScan = ScanParts (SourceParts (List ℕ))

-- memory does not fail
gives_first : (old new : List Read) (result : Result (Option Entry) Error) → GivesFirst (0 < 0) (Unit {0}) old new result → GivesFirst ⊥ ⊥ old new result
gives_first old new (Ok None) h = h
gives_first old new (Ok (Some x)) h = h
gives_first old new (Err e) h = λ other. elim (h other) [
  | inl failed ↦ absurd (let no = failed.0 in omega arith)
  | inr is ↦ inr is
]

-- the last entry is the first one, seen from the back
gives_last : (old new : List Read) (result : Result (Option Entry) Error) → GivesLast (0 < 0) (Unit {0}) old new result → GivesFirst ⊥ ⊥ (reverse old) (reverse new) result
gives_last old new (Ok None) h = (ap reverse h.0, ap reverse h.1)
gives_last old new (Ok (Some x)) h = let y : Read = Ok x in ap reverse h ∙ reverse-append new (y ∷ [])
gives_last old new (Err e) h = λ other. elim (h other) [
  | inl failed ↦ absurd (let no = failed.0 in omega arith)
  | inr is ↦ inr (reverse is.0, (let y : Read = Err e in ap reverse is.1 ∙ reverse-append is.0 (y ∷ [])))
]

same_some : {X : Type 0} (x y : X) → ◌≡◌ {A = Option X} (Some x) (Some y) → x ≡ y
same_some x y e = cc

module _ (c : Hashes) (s t : PartScan) (result : Result (Option Entry) Error) (going : s.ended ≡ None) (same : ◌≡◌ {A = Option (List ℕ)} (Some t.table.source.inner) (Some s.table.source.inner)) where
  now : reads_left c s.table.source.inner t ≡ reads_left c t.table.source.inner t
  now = ap (λ b. reads_left c b t) (sym (same_some t.table.source.inner s.table.source.inner same))

  pub back_step : (s.ended ≡ None → GivesLast (0 < 0) (Unit {0}) (reads_left c s.table.source.inner s) (reads_left c s.table.source.inner t) result)
      → GivesFirst ⊥ ⊥ (reverse (reads_left c s.table.source.inner s)) (reverse (reads_left c t.table.source.inner t)) result
  back_step h = subst (λ rs. GivesFirst ⊥ ⊥ (reverse (reads_left c s.table.source.inner s)) (reverse rs) result) now (gives_last (reads_left c s.table.source.inner s) (reads_left c s.table.source.inner t) result (h going))

-- the scan of a table file begins
pub begun : (c : Hashes) (file : List ℕ) (keys : KeyRange) (t : TableParts (SourceParts (List ℕ))) (s : PartScan) → s.table ≡ t → s.range ≡ keys → s.handles ≡ handles_within keys t.index → s.front ≡ [] → s.back ≡ []
    → ◌≡◌ {A = Option (List ℕ)} (Some t.source.inner) (Some file) → kept_by_footer c file ≡ Ok (t.handles, t.filter, t.index) → reads_left c s.table.source.inner s ≡ file_reads c file keys
begun c file keys t s table range handles front back same kept =
    let inner : s.table.source.inner ≡ file = ap (λ (u : TableParts (SourceParts (List ℕ))). u.source.inner) table ∙ same_some t.source.inner file same in
    ap (λ b. reads_among c b s.range s.front s.handles s.back) inner
    ∙ ap (λ r. reads_among c file r s.front s.handles s.back) range
    ∙ ap (λ xs. reads_among c file keys xs s.handles s.back) front
    ∙ ap (λ xs. reads_among c file keys [] s.handles xs) back
    ∙ append-nil (blocks_read c file keys s.handles)
    ∙ ap (blocks_read c file keys) handles
    ∙ sym (ap (kept_reads c file keys) kept)

few_within : (keys : KeyRange) (hs : List Handle) → length (handles_within keys hs) ≤ length hs
unfolding handles_within
few_within keys hs =
    let a = length-take (end_block keys hs - first_block keys hs) (drop (first_block keys hs) hs) in
    let b = length-drop (first_block keys hs) hs in
    omega arith
