-- Reads of a part that stays open.
use Rattle.std.proofs.Common.{◌≡◌, ℕ, ◌<◌, ◌^◌, List, length, refl, arith, sym, ◌∙◌, ap, subst, inl, inr, Option, Some, None, IfSome, Result, Ok}
use Rattle.std.specs.List.{AllZip, slice_get}
use Rattle.std.specs.Option.{option_map}
use Rattle.sstable_blocks.specs.Prelude.{Entry, entries, Handle, HandleParts, handles, index_check, IndexVerdict, IndexPasses, IndexPassesBy, IsIndexBlock, IsOrdered, first_match, items_in, trailer_in}
use Rattle.sstable_blocks.specs.Results.{◌>>=◌, Error}
use Rattle.sstable_blocks.specs.BlockTypes as types
use Rattle.sst_parts.specs.CachedParts.{IsOpenIn}
use Rattle.sst_parts.specs.PartReaders.{FindsAllInParts, IsOpenPart, read_open, read_open_by_top}
use Rattle.sst_parts.specs.Parts.{IsParted, IsStoredPart, places_in, tops_at}
use Rattle.sst_parts.proofs.Reading.PartReads.{parted_by, places_of_table}
use Rattle.sstable_blocks.specs.Blocks.{joined}
use Rattle.sstable_blocks.specs.CheckedLaws.{gives_or_later}
use Rattle.sstable_blocks.specs.Filter.{Filter}
use Rattle.sstable_blocks.specs.KeptLaws.{kept_is_checked, kept_ok}
use Rattle.sstable_blocks.specs.Lookup.{IsEnd, first_in, handle_for, place_for}
use Rattle.sstable_blocks.specs.ManyLaws.{each_found, found_all}
use Rattle.sstable_blocks.specs.ManyReads.{read_each}
use Rattle.sstable_blocks.specs.Opened.{index_in, range_of}
use Rattle.sstable_blocks.specs.OpeningLaws.{frame_range}
use Rattle.sstable_blocks.specs.ReadCosts.{interval_in}
use Rattle.sstable_blocks.specs.RunPlaces.{IsInside, part_in}
use Rattle.sstable_blocks.specs.RunReading.{Hashes, handles_at, read_checked}
use Rattle.sstable_blocks.specs.Sound.{IsSound, IsStoredFilter, IsStoredIndex}
use Rattle.sstable_blocks.specs.SoundReadLaws.{bind_to, framed_is_read, index_ok}
use Rattle.sstable_blocks.specs.SourceLaws.{source_fails}
use Rattle.sstable_blocks.specs.Sources.{FailsAs, GivesOr}
use Rattle.sstable_blocks.specs.Tables.{IsKeptOf, IsOpenedOf, KeptParts, filter_kept, kept_of, read_kept}
use Rattle.sstable_blocks.specs.declared.run.RunHandles.{RunHandles}
use Rattle.sstable_blocks.specs.declared.run.many.Needle.{Needle}

module _ (c : Hashes) (g : HandleParts) where
  abbrev in_part : Option (List ℕ) → Option (List ℕ)
  in_part o = option_map (λ all. part_in all g) o

  -- a part was opened
  pub opened : (before after : Option (List ℕ)) (places : RunHandles) (run : KeptParts) → after ≡ before → IsInside g before → IfSome before (λ all. places_in all g ≡ Ok places) → run.handles ≡ places → IsOpenedOf c (in_part after) run
      → IsOpenIn c before g run
  opened before after places run same inside at handles kept = record {
    inside = inside;
    places = subst (λ h. IfSome before (λ all. places_in all g ≡ Ok h)) (sym handles) at;
    opened = subst (λ o. IsOpenedOf c (in_part o) run) same kept;
  }

  -- and nothing was read of it
  pub fresh : (o : Option (List ℕ)) (run : KeptParts) → IsOpenIn c o g run → IsOpenPart c o (record { range = g; run = run; last = None })
  fresh o run is = record { places = is.places; reader = record { placed_in = is.inside; opened = is.opened; last_is = tt } }

  -- the stages of a read
  abbrev by_kept : List ℕ → List ℕ → ℕ → Result (Option (List ℕ) × List Handle) Error → Result (Option Entry) Error
  by_kept part needle seqno r = r >>= (λ (k : Option (List ℕ) × List Handle). read_kept c part k.0 k.1 needle seqno)

  abbrev by_places : List ℕ → List ℕ → ℕ → Result RunHandles Error → Result (Option Entry) Error
  by_places all needle seqno r = r >>= (λ (h : RunHandles). by_kept (part_in all g) needle seqno (kept_of c (part_in all g) h))

  -- one whose footer is refused
  pub footer_refused : (o : Option (List ℕ)) (P R : Type 0) (e : Error) → IfSome o (λ all. FailsAs P R (places_in all g) e) → IfSome o (λ all. (needle : List ℕ) (seqno : ℕ) → FailsAs P R (read_open c all g needle seqno) e)
  unfolding read_open
  footer_refused None P R e fails = tt
  footer_refused (Some all) P R e fails = λ needle seqno other. elim (fails other) [
    | inl failed ↦ inl (source_fails (λ p. p) (λ t. t) (ap (by_places all needle seqno)) failed)
    | inr is ↦ inr (ap (by_places all needle seqno) is)
  ]

  -- one whose filter or index is
  pub run_refused : (before after : Option (List ℕ)) (places : RunHandles) (P Q R T : Type 0) (e : Error) → after ≡ before → (P → Q) → (T → R) → IfSome before (λ all. places_in all g ≡ Ok places) → IfSome (in_part after) (λ part. FailsAs P R (kept_of c part places) e)
      → IfSome before (λ all. (needle : List ℕ) (seqno : ℕ) → FailsAs Q T (read_open c all g needle seqno) e)
  unfolding read_open
  run_refused None after places P Q R T e same grow reliable at fails = tt
  run_refused (Some all) after places P Q R T e same grow reliable at fails = λ needle seqno other.
      let here : FailsAs P R (kept_of c (part_in all g) places) e = subst (λ o. IfSome (in_part o) (λ part. FailsAs P R (kept_of c part places) e)) same fails in
      let whole : by_places all needle seqno (places_in all g) ≡ by_kept (part_in all g) needle seqno (kept_of c (part_in all g) places) = ap (by_places all needle seqno) at in
      elim (here other) [
        | inl failed ↦ inl (source_fails grow reliable (λ bad. whole ∙ ap (by_kept (part_in all g) needle seqno) bad) failed)
        | inr is ↦ inr (whole ∙ ap (by_kept (part_in all g) needle seqno) is)
      ]

  -- a read of one that is open is a checked read of its bytes
  open_is_checked : (all : List ℕ) (run : KeptParts) (needle : List ℕ) (seqno : ℕ) → places_in all g ≡ Ok run.handles → IsKeptOf c run.handles run.filter run.index run.interval (part_in all g) → read_open c all g needle seqno ≡ read_checked c (part_in all g) run.handles needle seqno
  unfolding read_open
  open_is_checked all run needle seqno at kept =
      ap (by_places all needle seqno) at
      ∙ ap (by_kept (part_in all g) needle seqno) (kept_ok c run.handles run.filter run.index run.interval (Some (part_in all g)) kept)
      ∙ kept_is_checked c run.handles run.filter run.index run.interval (part_in all g) needle seqno kept

  pub open_read : (o : Option (List ℕ)) (run : KeptParts) (needle : List ℕ) (seqno : ℕ) (P R : Type 0) (r : Result (Option Entry) Error) → IfSome o (λ all. places_in all g ≡ Ok run.handles) → IsOpenedOf c (in_part o) run
      → IfSome (in_part o) (λ part. GivesOr P R (λ x. x) r (read_checked c part run.handles needle seqno)) → IfSome o (λ all. GivesOr P R (λ x. x) r (read_open c all g needle seqno))
  open_read None run needle seqno P R r at kept given = tt
  open_read (Some all) run needle seqno P R r at kept given = subst (GivesOr P R (λ x. x) r) (sym (open_is_checked all run needle seqno at kept)) given

-- A part of a parted table opens.
module _ (c : Hashes) (sums : (xs : List ℕ) → c.hash128 xs < 2 ^ 128)
    (index_verdict : (p : List ℕ) → IndexVerdict (trailer_in p) p (index_check p))
    (index_read : (r : ℕ) (p : List ℕ) (items : List Handle) → length p < 2 ^ 32 → IsIndexBlock p items r → IndexPasses r p × (items_in handles p ≡ items) × ((trailer_in p).interval ≡ r))
  where
    module _ (bytes : List ℕ) where
      index_at : (hs : List Handle) (h : HandleParts) → IsStoredIndex c bytes hs h → handles_at c bytes h ≡ Ok hs
      index_at hs h s =
          let p = s.payload in
          let framed = s.framed in
          let short : length p < 2 ^ 32 = omega arith in
          let read = index_read s.interval p hs short s.is_block in
          let passes : IndexPassesBy (trailer_in p).interval (trailer_in p) p = subst (λ q. IndexPassesBy q (trailer_in p) p) (sym read.2) read.0 in
          bind_to _ _ p _ (framed_is_read c types.Index bytes p h sums short s.frame) (index_ok (trailer_in p) p (index_check p) (index_verdict p) passes ∙ ap (λ xs. Ok xs) read.1)

      index_lies : (hs : List Handle) (h : HandleParts) → IsStoredIndex c bytes hs h → hs ≡ index_in bytes h
      index_lies hs h s =
          let p = s.payload in
          let framed = s.framed in
          let short : length p < 2 ^ 32 = omega arith in
          let read = index_read s.interval p hs short s.is_block in
          sym (ap (λ q. items_in handles q) (frame_range c types.Index bytes p h s.frame).1 ∙ read.1)

      filter_at_place : (o : Option HandleParts) (items : List Entry) → IfSome o (IsStoredFilter c bytes items) → (f : Option (List ℕ)) × (filter_kept c bytes o ≡ Ok f)
      filter_at_place None items s = (None, refl)
      filter_at_place (Some g) items s =
          let p = s.payload in
          let framed = s.framed in
          let short : length p < 2 ^ 32 = omega arith in
          (Some p, bind_to _ _ p (Ok (Some p)) (framed_is_read c types.Filter bytes p g sums short s.frame) (ap (λ r. r >>= (λ (x : Filter). Ok (Some p))) s.reads))

      run_opens : (blocks : List (List Entry)) (places : RunHandles) → IsSound c blocks bytes places → (f : Option (List ℕ)) × (hs : List Handle) × IsKeptOf c places f hs (interval_in bytes places.index) bytes
      run_opens blocks places s =
          let f = filter_at_place places.filter (joined blocks) s.filter in (
            f.0,
            s.handles,
            record {
              filter_is = f.1;
              index_is = index_at s.handles places.index s.index;
              place = record { index_is = index_lies s.handles places.index s.index; interval_is = refl };
            },
          )

    module _ (match : (needle : List ℕ) (seqno : ℕ) (parts : List (List (List Entry))) (hs : List Handle) → AllZip (λ part h. IsEnd entries handles (joined part) h) parts hs → IsOrdered entries (joined (joined parts))
        → first_match entries needle seqno (joined (joined parts)) ≡ first_in entries needle seqno (option_map joined (slice_get parts (place_for handles needle seqno hs))))
        (bytes needle : List ℕ) (seqno : ℕ)
        (run_read : (blocks : List (List Entry)) (bytes : List ℕ) (h : RunHandles) (needle : List ℕ) (seqno : ℕ) → IsSound c blocks bytes h → read_checked c bytes h needle seqno ≡ Ok (first_match entries needle seqno (joined blocks)))
      where
        read_one : (h : Handle) (part : List (List Entry)) → IsStoredPart c bytes part h → read_open c bytes (range_of h) needle seqno ≡ Ok (first_match entries needle seqno (joined part))
        read_one h part s =
            let k = run_opens (part_in bytes (range_of h)) part s.places s.sound in
            open_is_checked c (range_of h) bytes (record { handles = s.places; filter = k.0; index = k.1; interval = interval_in (part_in bytes (range_of h)) s.places.index }) needle seqno
            (places_of_table bytes (range_of h) s.places s.inside s.footer) k.2
            ∙ run_read part (part_in bytes (range_of h)) s.places needle seqno s.sound

        -- a read of a part that stays open gives the first match of all parts
        pub open_parted_read : (parts : List (List (List Entry))) (h : HandleParts) (tops : List Handle) → IsParted c parts bytes h → tops_at c bytes h ≡ Ok tops
            → read_open_by_top c bytes (handle_for handles needle seqno tops) needle seqno ≡ Ok (first_match entries needle seqno (joined (joined parts)))
        open_parted_read = parted_by c sums index_verdict index_read match bytes needle seqno (λ g. read_open c bytes g needle seqno) read_one

-- reads of many keys of a parted table find the first match of each
pub finds_all : {X : Type 0} (c : Hashes) (o : Option (List ℕ)) (P R : Type 0) (view : X → List (Option Entry)) (r : Result X Error) (top : HandleParts) (tops : List Handle) (needles : List Needle)
    → ((all : List ℕ) (parts : List (List (List Entry))) (needle : List ℕ) (seqno : ℕ) → IsParted c parts all top → tops_at c all top ≡ Ok tops → read_open_by_top c all (handle_for handles needle seqno tops) needle seqno ≡ Ok (first_match entries needle seqno (joined (joined parts))))
    → IfSome o (λ all. tops_at c all top ≡ Ok tops)
    → IfSome o (λ all. GivesOr P R view r (read_each (λ n. read_open_by_top c all (handle_for handles n.key.now n.seqno tops) n.key.now n.seqno) needles))
    → IfSome o (FindsAllInParts c top needles view r)
finds_all c None P R view r top tops needles read kept given = tt
finds_all c (Some all) P R view r top tops needles read kept given = λ parts is.
    let each = each_found (λ n. read_open_by_top c all (handle_for handles n.key.now n.seqno tops) n.key.now n.seqno) (λ n. first_match entries n.key.now n.seqno (joined (joined parts))) (λ n. read all parts n.key.now n.seqno is kept) needles in
    found_all P R view r _ _ each given

-- by the handle of a part that was found
module _ (c : Hashes) (needle : List ℕ) (seqno : ℕ) where
  at_open_top : (all : List ℕ) (x : Option Handle) (k : HandleParts) → option_map range_of x ≡ Some k → read_open_by_top c all x needle seqno ≡ read_open c all k needle seqno
  at_open_top all None k e = cc
  at_open_top all (Some h) k e = (let same : range_of h ≡ k = cc in ap (λ g. read_open c all g needle seqno) same)

  -- a read of the part that was opened for it
  pub open_top_read : (before after : Option (List ℕ)) (x : Option Handle) (q : Option HandleParts) (k : HandleParts) (P Q R T : Type 0) (r : Result (Option Entry) Error) → q ≡ option_map range_of x → q ≡ Some k → after ≡ before → (P → Q) → (T → R)
      → IfSome after (λ all. GivesOr P R (λ y. y) r (read_open c all k needle seqno)) → IfSome before (λ all. GivesOr Q T (λ y. y) r (read_open_by_top c all x needle seqno))
  open_top_read None after x q k P Q R T r is at same grow kept given = tt
  open_top_read (Some all) after x q k P Q R T r is at same grow kept given =
      let here : GivesOr P R (λ y. y) r (read_open c all k needle seqno) = subst (λ o. IfSome o (λ all. GivesOr P R (λ y. y) r (read_open c all k needle seqno))) same given in
      subst (GivesOr Q T (λ y. y) r) (sym (at_open_top all x k (sym is ∙ at))) (gives_or_later P Q R T (λ y. y) r (read_open c all k needle seqno) grow kept here)
