-- Finding in a parted table that is known to be one.
use Rattle.std.proofs.Common.{◌≡◌, ℕ, zero, suc, ◌+◌, ◌<◌, ◌≤◌, ◌^◌, List, [], ◌∷◌, length, refl, sym, ◌∙◌, ap, subst, Option, Some, None, Ok}
use Rattle.std.specs.List.{AllZip, slice_get}
use Rattle.std.specs.Option.{option_map}
use Rattle.sstable_blocks.specs.Prelude.{HandleParts, Counted, CountsBetween, Entry, index_check, IndexVerdict, entries, Handle, handles, IsIndexBlock, IndexPasses, IsOrdered, items_in, trailer_in, first_match}
use Rattle.sstable_blocks.specs.BlockTypes as types
use Rattle.sst_parts.specs.PartFinds.{FoundPart, IsReadIndex}
use Rattle.sst_parts.specs.Parts.{IsParted, IsStoredPart, most_by_places, places_in, tops_at}
use Rattle.sstable_blocks.specs.RunPlaces.{part_in}
use Rattle.sst_parts.proofs.Reading.Openings.{part_ends}
use Rattle.sst_parts.proofs.Reading.PartReads.{places_of_table, same_ok, tops_read}
use Rattle.sstable_blocks.specs.Blocks.{joined}
use Rattle.sstable_blocks.specs.Footer.{table_handles}
use Rattle.sstable_blocks.specs.Lookup.{IsEnd, first_in, handle_for, place_for}
use Rattle.sstable_blocks.specs.Opened.{range_of}
use Rattle.sstable_blocks.specs.OpeningLaws.{frame_range}
use Rattle.sstable_blocks.specs.ReadCosts.{CountsRead}
use Rattle.sstable_blocks.specs.RunReading.{Hashes}
use Rattle.sstable_blocks.specs.Sound.{IsSound}
use Rattle.sstable_blocks.specs.declared.run.RunHandles.{RunHandles}

module _ (c : Hashes) (sums : (xs : List ℕ) → c.hash128 xs < 2 ^ 128)
    (index_verdict : (p : List ℕ) → IndexVerdict (trailer_in p) p (index_check p))
    (index_read : (r : ℕ) (p : List ℕ) (items : List Handle) → length p < 2 ^ 32 → IsIndexBlock p items r → IndexPasses r p × (items_in handles p ≡ items) × ((trailer_in p).interval ≡ r))
    (bytes : List ℕ)
  where
    -- the index of the parts lies where its handle says
    pub index_is_read : (parts : List (List (List Entry))) (top : HandleParts) → IsParted c parts bytes top → IsReadIndex c bytes top
    index_is_read parts top d =
        let i = d.index in
        let r = frame_range c types.Meta bytes i.payload top i.frame in
        record { range = r.0; items = d.tops; interval = i.interval; is_block = subst (λ p. IsIndexBlock p d.tops i.interval) (sym r.1) i.is_block; read = tops_read c sums index_verdict index_read bytes d.tops top i }

    module _ (match : (needle : List ℕ) (seqno : ℕ) (parts : List (List (List Entry))) (hs : List Handle) → AllZip (λ part h. IsEnd entries handles (joined part) h) parts hs → IsOrdered entries (joined (joined parts))
        → first_match entries needle seqno (joined (joined parts)) ≡ first_in entries needle seqno (option_map joined (slice_get parts (place_for handles needle seqno hs))))
      where
        -- the part at an index
        part_at : (parts : List (List (List Entry))) (hs : List Handle) (n : ℕ) (needle : List ℕ) (seqno : ℕ) → AllZip (IsStoredPart c bytes) parts hs → FoundPart c bytes needle seqno (first_in entries needle seqno (option_map joined (slice_get parts n))) (slice_get hs n)
        part_at [] [] n needle seqno stored = refl
        part_at [] (h ∷ hs) n needle seqno stored = absurd stored
        part_at (p ∷ ps) [] n needle seqno stored = absurd stored
        part_at (p ∷ ps) (h ∷ hs) zero needle seqno stored = (p, stored.0, refl)
        part_at (p ∷ ps) (h ∷ hs) (suc n) needle seqno stored = part_at ps hs n needle seqno stored.1

        -- a needle is found in the one part
        pub found_part : (parts : List (List (List Entry))) (top : HandleParts) (tops : List Handle) (needle : List ℕ) (seqno : ℕ) → IsParted c parts bytes top → tops_at c bytes top ≡ Ok tops
            → FoundPart c bytes needle seqno (first_match entries needle seqno (joined (joined parts))) (handle_for handles needle seqno tops)
        found_part parts top tops needle seqno d read =
            let same : d.tops ≡ tops = same_ok (tops_at c bytes top) d.tops tops (tops_read c sums index_verdict index_read bytes d.tops top d.index) read in
            subst (λ hs. FoundPart c bytes needle seqno (first_match entries needle seqno (joined (joined parts))) (handle_for handles needle seqno hs)) same
            (subst (λ x. FoundPart c bytes needle seqno x (handle_for handles needle seqno d.tops)) (sym (match needle seqno parts d.tops (part_ends c bytes parts d.tops d.stored) d.ordered))
            (part_at parts d.tops (place_for handles needle seqno d.tops) needle seqno d.stored))

-- the file of a part
module _ (c : Hashes) (bytes : List ℕ) (g : HandleParts) (blocks : List (List Entry)) (h : Handle) (is : g ≡ range_of h) (d : IsStoredPart c bytes blocks h) where
  pub inside : g.offset + g.size ≤ length bytes
  inside = subst (λ (k : HandleParts). k.offset + k.size ≤ length bytes) (sym is) d.inside

  pub has_places : (places : RunHandles) × (table_handles (part_in bytes g) ≡ Ok places)
  has_places = (d.places, ap (λ (k : HandleParts). table_handles (part_in bytes k)) is ∙ d.footer)

  same_places : (places : RunHandles) → table_handles (part_in bytes g) ≡ Ok places → d.places ≡ places
  same_places places read = same_ok (table_handles (part_in bytes g)) d.places places (ap (λ (k : HandleParts). table_handles (part_in bytes k)) is ∙ d.footer) read

  -- its run is sound
  pub sound_at : (places : RunHandles) → table_handles (part_in bytes g) ≡ Ok places → IsSound c blocks (part_in bytes g) places
  sound_at places read =
      subst (λ (k : HandleParts). IsSound c blocks (part_in bytes k) places) (sym is) (subst (IsSound c blocks (part_in bytes (range_of h))) (same_places places read) d.sound)

  pub counted : (places : RunHandles) (needle : List ℕ) (seqno : ℕ) (s t : Counted) → table_handles (part_in bytes g) ≡ Ok places → CountsRead (part_in bytes g) places needle seqno s t
      → CountsBetween s t (0, 0) (most_by_places (part_in bytes g) (places_in bytes g) needle seqno)
  counted places needle seqno s t read counts =
      subst (λ q. CountsBetween s t (0, 0) (most_by_places (part_in bytes g) q needle seqno)) (sym (places_of_table bytes g places inside read)) counts

-- what is found by the handle of a part
module _ (c : Hashes) (bytes needle : List ℕ) (seqno : ℕ) (first : Option Entry) where
  pub find_none : (x : Option Handle) (q : Option HandleParts) → q ≡ option_map range_of x → q ≡ None → FoundPart c bytes needle seqno first x → None ≡ first
  find_none None q is none found = sym found
  find_none (Some h) q is none found = cc

  pub find_some : (x : Option Handle) (q : Option HandleParts) (g : HandleParts) → q ≡ option_map range_of x → q ≡ Some g → FoundPart c bytes needle seqno first x
      → (blocks : List (List Entry)) × (h : Handle) × (g ≡ range_of h) × IsStoredPart c bytes blocks h × (first ≡ first_match entries needle seqno (joined blocks))
  find_some None q g is at found = cc
  find_some (Some h) q g is at found = (found.0, h, (let same : range_of h ≡ g = cc in sym same), found.1, found.2)
