-- The check of a whole parted table accepts exactly the parted tables.
use Rattle.std.proofs.Common.{◌≡◌, ℕ, ◌+◌, ◌-◌, ◌<◌, ◌≤◌, ◌^◌, Bool, true, false, cond, eqb, List, [], ◌∷◌, ◌++◌, length, map, drop, refl, arith, sym, ◌∙◌, ap, subst, Option, Some, None, IfSome, Result, Ok, Err}
use Rattle.std.proofs.lemmas.Bool.{eqb-true, eq-eqb, le-leb, leb-true}
use Rattle.std.specs.List.{AllZip}
use Rattle.byteorder.specs.Numbers.{little_from-lt}
use Rattle.sstable_blocks.specs.Prelude.{HandleParts, IsBytes, Entry, index_check, IndexVerdict, entries, Handle, handles, IsIndexBlock, IndexPasses, IsOrdered, items_in, trailer_in}
use Rattle.sstable_blocks.specs.BlockLaws.{IsBytes-take, IsBytes-drop, bind_ok, guard_ok, refuse_ok}
use Rattle.sstable_blocks.specs.Results.{Error, BadHandle, OutOfOrder, Truncated}
use Rattle.sstable_blocks.specs.BlockTypes as types
use Rattle.sst_parts.specs.PartChecks.{begins_after, check_bytes, check_ends, check_file, check_part, check_parted, check_parts, is_end_at, no_parts, passed_on, summary_of_parts}
use Rattle.sst_parts.specs.Parts.{IsParted, IsStoredPart, tops_at}
use Rattle.sstable_blocks.specs.RunPlaces.{part_in}
use Rattle.sst_parts.specs.declared.checking.PartedSummary.{PartedSummary}
use Rattle.sst_parts.specs.declared.checking.Passed.{Passed}
use Rattle.sst_parts.proofs.Writing.Joins.{joined-map}
use Rattle.sst_parts.proofs.Reading.PartReads.{tops_read}
use Rattle.sst_parts.proofs.Checks.PartSummaries.{parts_count, passed_parts, whole_all}
use Rattle.sstable_blocks.specs.Blocks.{joined}
use Rattle.sstable_blocks.specs.FollowLaws.{FollowsEnd, demand_ok, demand_to, end_same, follows_none, lt_not, not_lt, ordered_cut, ordered_join, same_end}
use Rattle.sstable_blocks.specs.Footer.{filter_of, footer_handles, parts_at, table_handles}
use Rattle.sstable_blocks.specs.MeaningLaws.{framed_bytes, payload_at_takes}
use Rattle.sstable_blocks.specs.Opened.{range_of}
use Rattle.sstable_blocks.specs.OpeningLaws.{framed_size}
use Rattle.sstable_blocks.specs.RunChecks.{check_run, end_cmp, first_of, last_of, summary_of}
use Rattle.sstable_blocks.specs.RunReading.{Hashes, payload_at, range_at}
use Rattle.sstable_blocks.specs.Sound.{AreContiguous, IsSound}
use Rattle.sstable_blocks.specs.SoundReadLaws.{bind_to}
use Rattle.sstable_blocks.specs.SummaryLaws.{end_is_last, last_is_end, sound_some}
use Rattle.sstable_blocks.specs.Walks.{walked}
use Rattle.sstable_blocks.specs.declared.run.RunHandles.{RunHandles}
use Rattle.sstable_blocks.specs.declared.run.checking.RunSummary.{RunSummary}

-- the sizes in a footer have 32 bits
filter_small : (h : HandleParts) → h.size < 2 ^ 32 → IfSome (filter_of h) (λ g. g.size < 2 ^ 32)
filter_small h small = kept (eqb h.size 0) where
  kept : (b : Bool) → IfSome (cond b None (Some h)) (λ (g : HandleParts). g.size < 2 ^ 32)
  kept b = elim b as (λ t. IfSome (cond t None (Some h)) (λ (g : HandleParts). g.size < 2 ^ 32)) [ true ↦ tt | false ↦ small ]

footer_small : (file : List ℕ) (x : RunHandles) → IsBytes file → table_handles file ≡ Ok x → (x.index.size < 2 ^ 32) × IfSome x.filter (λ g. g.size < 2 ^ 32)
unfolding table_handles footer_handles
footer_small file x small e =
    let rest = drop (length file - 24) file in
    let bytes = IsBytes-drop (length file - 24) file small in
    let read = (refuse_ok _ (record { index = parts_at rest; filter = filter_of (parts_at (drop 12 rest)) }) x Truncated e).1 in
    let index : (parts_at rest).size < 2 ^ 32 = little_from-lt 0 4 (drop 8 rest) (IsBytes-drop 8 rest bytes) in
    let filter : (parts_at (drop 12 rest)).size < 2 ^ 32 = little_from-lt 0 4 (drop 8 (drop 12 rest)) (IsBytes-drop 8 (drop 12 rest) (IsBytes-drop 12 rest bytes)) in
    subst (λ (h : RunHandles). (h.index.size < 2 ^ 32) × IfSome h.filter (λ g. g.size < 2 ^ 32)) read (index, filter_small (parts_at (drop 12 rest)) filter)

-- the first entry of a part follows the end of the part before, by its key and its sequence number
begins_from : (o : Option Handle) (xs rest : List Entry) → 1 ≤ length xs → begins_after o (first_of xs).0 (first_of xs).1 ≡ true → FollowsEnd o (xs ++ rest)
begins_from None xs rest some e = tt
begins_from (Some h) [] rest some e = absurd (omega arith)
begins_from (Some h) (x ∷ xs) rest some e = not_lt (end_cmp h x) e

begins_to : (o : Option Handle) (xs rest : List Entry) → 1 ≤ length xs → FollowsEnd o (xs ++ rest) → begins_after o (first_of xs).0 (first_of xs).1 ≡ true
begins_to None xs rest some c = refl
begins_to (Some h) [] rest some c = absurd (omega arith)
begins_to (Some h) (x ∷ xs) rest some c = lt_not (end_cmp h x) c

-- all entries of parts
abbrev all_in : List (List (List Entry)) → List Entry
all_in parts = joined (map joined parts)

part_is : (bytes : List ℕ) (h : Handle) → h.offset + h.size ≤ length bytes → range_at bytes (range_of h) ≡ Ok (part_in bytes (range_of h))
unfolding range_at
part_is bytes h inside = ap (λ b. cond b (Ok (part_in bytes (range_of h))) (Err BadHandle)) (le-leb (h.offset + h.size) (length bytes) inside)

is_part : (bytes : List ℕ) (h : Handle) (file : List ℕ) → range_at bytes (range_of h) ≡ Ok file → (h.offset + h.size ≤ length bytes) × (part_in bytes (range_of h) ≡ file)
unfolding range_at
is_part bytes h file e = let g = guard_ok _ (part_in bytes (range_of h)) file BadHandle e in (leb-true (h.offset + h.size) (length bytes) g.0, g.1)

-- what is accepted is a parted table
module _ (c : Hashes) (bytes : List ℕ) (small : IsBytes bytes)
    (index_takes : (p : List ℕ) (items : List Handle) → IsBytes p → length p < 2 ^ 32 → index_check p ≡ Ok items → (r : ℕ) × IsIndexBlock p items r)
    (run_takes : (file : List ℕ) (h : RunHandles) (s : RunSummary) → IsBytes file → h.index.size < 2 ^ 32 → IfSome h.filter (λ g. g.size < 2 ^ 32) → check_run c file h ≡ Ok s → (blocks : List (List Entry)) × IsSound c blocks file h × (s ≡ summary_of blocks))
  where
    -- what a part that passes holds
    record Taken (s t : Passed) (h : Handle) : Type 0 where
      at : h.offset ≡ s.offset
      part : List (List Entry)
      stored : IsStoredPart c bytes part h
      some : 1 ≤ length (joined part)
      begins : begins_after s.last (first_of (joined part)).0 (first_of (joined part)).1 ≡ true
      passed : passed_on s h (summary_of part) ≡ t

    taken : (s t : Passed) (h : Handle) → check_part c bytes s h ≡ Ok t → Taken s t h
    unfolding check_part check_file
    taken s t h e =
        let at = demand_ok (eqb h.offset s.offset) BadHandle _ t e in
        let file = bind_ok (range_at bytes (range_of h)) (check_bytes c s h) t at.1 in
        let run = bind_ok (check_file c file.0) (check_ends s h) t file.2 in
        let places = bind_ok (table_handles file.0) (check_run c file.0) run.0 run.1 in
        let here = is_part bytes h file.0 file.1 in
        let file_small : IsBytes file.0 = subst IsBytes here.1 (IsBytes-take h.size (drop h.offset bytes) (IsBytes-drop h.offset bytes small)) in
        let sizes = footer_small file.0 places.0 file_small places.1 in
        let found = run_takes file.0 places.0 run.0 file_small sizes.0 sizes.1 places.2 in
        let some = sound_some c found.0 file.0 places.0 found.1 in
        let ends : check_ends s h (summary_of found.0) ≡ Ok t = subst (λ (r : RunSummary). check_ends s h r ≡ Ok t) found.2 run.2 in
        let order = demand_ok (begins_after s.last (first_of (joined found.0)).0 (first_of (joined found.0)).1) OutOfOrder _ t ends in
        let last = demand_ok (is_end_at h (last_of (joined found.0)).0 (last_of (joined found.0)).1) BadHandle _ t order.1 in
        let end = end_same h (last_of (joined found.0)).0 (last_of (joined found.0)).1 last.0 in
        record {
          at = eqb-true h.offset s.offset at.0;
          part = found.0;
          stored = record {
            inside = here.0;
            places = places.0;
            footer = ap table_handles here.1 ∙ places.1;
            sound = subst (λ xs. IsSound c found.0 xs places.0) (sym here.1) found.1;
            end = last_is_end (joined found.0) h some end.0 end.1;
          };
          some = some;
          begins = order.0;
          passed = (let k : ◌≡◌ {A = Result Passed Error} (Ok (passed_on s h (summary_of found.0))) (Ok t) = last.1 in cc);
        }

    -- what handles whose parts pass hold
    record Holds (s t : Passed) (hs : List Handle) : Type 0 where
      parts : List (List (List Entry))
      stored : AllZip (IsStoredPart c bytes) parts hs
      contiguous : AreContiguous s.offset hs
      follows : FollowsEnd s.last (all_in parts)
      ordered : IsOrdered entries (all_in parts)
      passed : passed_parts s hs parts ≡ t

    holds : (s t : Passed) (hs : List Handle) → walked (check_part c bytes) s hs ≡ Ok t → Holds s t hs
    holds s t [] e =
        let same : s ≡ t = (let k : ◌≡◌ {A = Result Passed Error} (Ok s) (Ok t) = e in cc) in
        record { parts = []; stored = tt; contiguous = tt; follows = follows_none s.last; ordered = tt; passed = same }
    holds s t (h ∷ hs) e =
        let one = bind_ok (check_part c bytes s h) (λ u. walked (check_part c bytes) u hs) t e in
        let first = taken s one.0 h one.1 in
        let rest = holds one.0 t hs one.2 in
        let i = first.stored.end in
        record {
          parts = first.part ∷ rest.parts;
          stored = (first.stored, rest.stored);
          contiguous = (first.at, subst (λ (u : Passed). AreContiguous u.offset hs) (sym first.passed) rest.contiguous);
          follows = begins_from s.last (joined first.part) (all_in rest.parts) first.some first.begins;
          ordered = ordered_join (joined first.part) h i (all_in rest.parts) first.stored.sound.ordered (subst (λ (u : Passed). FollowsEnd u.last (all_in rest.parts)) (sym first.passed) rest.follows) rest.ordered;
          passed = ap (λ (u : Passed). passed_parts u hs rest.parts) first.passed ∙ rest.passed;
        }

    pub accepted_is_parted : (top : HandleParts) (s : PartedSummary) → top.size < 2 ^ 32 → check_parted c bytes top ≡ Ok s → (parts : List (List (List Entry))) × IsParted c parts bytes top × (s ≡ summary_of_parts parts)
    unfolding check_parted
    accepted_is_parted top s short e =
        let hs = bind_ok (tops_at c bytes top) (check_parts c bytes) s e in
        let p = bind_ok (payload_at c types.Meta bytes top) index_check hs.0 hs.1 in
        let t = bind_ok (walked (check_part c bytes) no_parts hs.0) _ s hs.2 in
        let frame = payload_at_takes c types.Meta bytes top p.0 small p.1 in
        let size = framed_size c types.Meta bytes p.0 top frame in
        let index = index_takes p.0 hs.0 (framed_bytes c types.Meta bytes p.0 top small frame) (omega arith) p.2 in
        let all = holds no_parts t.0 hs.0 t.1 in
        let some = index.1.block.encoding.some in
        let is : record { parts = length hs.0; whole = t.0.whole } ≡ s = (let k : ◌≡◌ {A = Result PartedSummary Error} (Ok (record { parts = length hs.0; whole = t.0.whole })) (Ok s) = t.2 in cc) in
        let whole = ap (λ (u : Passed). u.whole) (sym all.passed) ∙ whole_all c bytes all.parts hs.0 some all.stored in (
          all.parts,
          record {
            tops = hs.0;
            index = record { payload = p.0; frame = frame; framed = omega arith; interval = index.0; is_block = index.1 };
            stored = all.stored;
            contiguous = all.contiguous;
            ordered = subst (IsOrdered entries) (joined-map all.parts) all.ordered;
          },
          sym is ∙ ap (λ (n : ℕ). record { parts = n; whole = t.0.whole }) (parts_count c bytes all.parts hs.0 all.stored) ∙ ap (λ (w : RunSummary). record { parts = length all.parts; whole = w }) whole,
        )

-- a parted table is accepted
module _ (c : Hashes) (sums : (xs : List ℕ) → c.hash128 xs < 2 ^ 128)
    (index_verdict : (p : List ℕ) → IndexVerdict (trailer_in p) p (index_check p))
    (index_read : (r : ℕ) (p : List ℕ) (items : List Handle) → length p < 2 ^ 32 → IsIndexBlock p items r → IndexPasses r p × (items_in handles p ≡ items) × ((trailer_in p).interval ≡ r))
    (run_accepted : (blocks : List (List Entry)) (file : List ℕ) (h : RunHandles) → IsSound c blocks file h → check_run c file h ≡ Ok (summary_of blocks))
    (bytes : List ℕ)
  where
    passes_one : (s : Passed) (part : List (List Entry)) (h : Handle) (rest : List Entry) → IsStoredPart c bytes part h → h.offset ≡ s.offset → FollowsEnd s.last (joined part ++ rest) → check_part c bytes s h ≡ Ok (passed_on s h (summary_of part))
    unfolding check_part check_file
    passes_one s part h rest d at follows =
        let file = part_in bytes (range_of h) in
        let some = sound_some c part file d.places d.sound in
        let last = end_is_last (joined part) h d.end in
        let t = passed_on s h (summary_of part) in
        let ends : check_ends s h (summary_of part) ≡ Ok t =
        demand_to (begins_after s.last (first_of (joined part)).0 (first_of (joined part)).1) OutOfOrder _ t (begins_to s.last (joined part) rest some follows)
        (demand_to (is_end_at h (last_of (joined part)).0 (last_of (joined part)).1) BadHandle _ t (same_end h (last_of (joined part)).0 (last_of (joined part)).1 (sym (ap (λ (p : List ℕ × ℕ). p.0) last)) (sym (ap (λ (p : List ℕ × ℕ). p.1) last))) refl) in
        let run : check_file c file ≡ Ok (summary_of part) = bind_to (table_handles file) (check_run c file) d.places _ d.footer (run_accepted part file d.places d.sound) in
        demand_to (eqb h.offset s.offset) BadHandle _ t (eq-eqb h.offset s.offset at)
        (bind_to (range_at bytes (range_of h)) (check_bytes c s h) file (Ok t) (part_is bytes h d.inside) (bind_to (check_file c file) (check_ends s h) (summary_of part) (Ok t) run ends))

    passes_on : (s : Passed) (parts : List (List (List Entry))) (hs : List Handle) → AllZip (IsStoredPart c bytes) parts hs → AreContiguous s.offset hs → FollowsEnd s.last (all_in parts) → IsOrdered entries (all_in parts)
        → walked (check_part c bytes) s hs ≡ Ok (passed_parts s hs parts)
    passes_on s [] [] stored at follows order = refl
    passes_on s [] (h ∷ hs) stored at follows order = absurd stored
    passes_on s (p ∷ ps) [] stored at follows order = absurd stored
    passes_on s (p ∷ ps) (h ∷ hs) stored at follows order =
        let t = passed_on s h (summary_of p) in
        let after = ordered_cut (joined p) h stored.0.end (all_in ps) order in
        bind_to (check_part c bytes s h) (λ u. walked (check_part c bytes) u hs) t (Ok (passed_parts t hs ps)) (passes_one s p h (all_in ps) stored.0 at.0 follows) (passes_on t ps hs stored.1 at.1 after.0 after.1)

    pub parted_is_accepted : (parts : List (List (List Entry))) (top : HandleParts) → IsParted c parts bytes top → check_parted c bytes top ≡ Ok (summary_of_parts parts)
    unfolding check_parted
    parted_is_accepted parts top d =
        let some = d.index.is_block.block.encoding.some in
        let whole = whole_all c bytes parts d.tops some d.stored in
        let walk = passes_on no_parts parts d.tops d.stored d.contiguous tt (subst (IsOrdered entries) (sym (joined-map parts)) d.ordered) in
        bind_to (tops_at c bytes top) (check_parts c bytes) d.tops _ (tops_read c sums index_verdict index_read bytes d.tops top d.index)
        (bind_to (walked (check_part c bytes) no_parts d.tops) _ (passed_parts no_parts d.tops parts) _ walk
        (ap (λ (n : ℕ). Ok (record { parts = n; whole = (passed_parts no_parts d.tops parts).whole })) (parts_count c bytes parts d.tops d.stored) ∙ ap (λ (w : RunSummary). Ok (record { parts = length parts; whole = w })) whole))
