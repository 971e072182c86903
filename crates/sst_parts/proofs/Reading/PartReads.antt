-- A checked read of a partitioned table gives the first match of its parts.
use Rattle.std.proofs.Common.{◌≡◌, ℕ, zero, suc, ◌+◌, ◌-◌, ◌<◌, ◌≤◌, ◌^◌, List, [], ◌∷◌, length, take, drop, refl, arith, sym, ◌∙◌, ap, subst, if◌then◌else◌, Option, Result, Ok, Err}
use Rattle.std.proofs.lemmas.Bool.{le-leb}
use Rattle.std.proofs.lemmas.List.{drop-take, drop-drop, length-take-le, length-drop}
use Rattle.std.specs.List.{AllZip, slice_get}
use Rattle.std.specs.Option.{option_map}
use Rattle.sstable_blocks.specs.Prelude.{HandleParts, Entry, entries, IsOrdered, items_in, trailer_in, first_match, index_check, IndexVerdict, Handle, handles, IsIndexBlock, IndexPasses, IndexPassesBy}
use Rattle.sstable_blocks.specs.Results.{◌>>=◌, Error, BadHandle}
use Rattle.sstable_blocks.specs.BlockTypes as types
use Rattle.sst_parts.specs.Parts.{IsParted, IsStoredPart, IsStoredTop, by_top, places_in, read_by_top, read_part, tops_at, tops_by_footer}
use Rattle.sstable_blocks.specs.RunPlaces.{part_in}
use Rattle.sst_parts.specs.PartWriting.{IsPartedFile, top_handles}
use Rattle.sst_parts.proofs.Reading.FileOpenings.{by_handles}
use Rattle.sst_parts.proofs.Writing.Footers.{footer_some}
use Rattle.sst_parts.proofs.Reading.Openings.{part_ends}
use Rattle.sst_parts.proofs.Reading.Places.{places_by}
use Rattle.sstable_blocks.specs.Blocks.{joined}
use Rattle.sstable_blocks.specs.Footer.{footer_handles, table_handles}
use Rattle.sstable_blocks.specs.Lookup.{IsEnd, first_in, handle_for, place_for}
use Rattle.sstable_blocks.specs.Opened.{range_of}
use Rattle.sstable_blocks.specs.RunReading.{Hashes, range_at, read_checked}
use Rattle.sstable_blocks.specs.Sound.{IsSound}
use Rattle.sstable_blocks.specs.declared.run.RunHandles.{RunHandles}
use Rattle.sstable_blocks.specs.SoundReadLaws.{bind_to, index_ok, framed_is_read}

-- the footer of a table file in a range is that of its bytes
last_of_part : (bytes : List ℕ) (o n : ℕ) → 24 ≤ n → drop (n - 24) (take n (drop o bytes)) ≡ take 24 (drop (o + (n - 24)) bytes)
last_of_part bytes o n long =
    let whole : n ≡ n - 24 + 24 = omega arith in
    ap (λ k. drop (n - 24) (take k (drop o bytes))) whole ∙ drop-take (n - 24) 24 (drop o bytes) ∙ ap (take 24) (drop-drop (n - 24) o bytes)

pub places_of_table : (bytes : List ℕ) (g : HandleParts) (x : RunHandles) → g.offset + g.size ≤ length bytes → table_handles (part_in bytes g) ≡ Ok x → places_in bytes g ≡ Ok x
unfolding table_handles range_at
places_of_table bytes g x inside e =
    let part = part_in bytes g in
    let l = length-drop g.offset bytes in
    let size : length part ≡ g.size = length-take-le g.size (drop g.offset bytes) (omega arith) in
    let some = footer_some part x e in
    let long : 24 ≤ g.size = omega arith in
    let p : HandleParts = record { offset = g.offset + (g.size - 24); size = 24 } in
    let last = last_of_part bytes g.offset g.size long in
    let within : g.offset + (g.size - 24) + 24 ≤ length bytes = omega arith in
    let found : range_at bytes p ≡ Ok (take 24 (drop (g.offset + (g.size - 24)) bytes)) =
    ap (λ b. if b then Ok (take 24 (drop (g.offset + (g.size - 24)) bytes)) else Err BadHandle) (le-leb (g.offset + (g.size - 24) + 24) (length bytes) within)
    in
    places_by bytes g p long refl refl ∙ ap (λ r. r >>= footer_handles) found ∙ ap footer_handles (sym last)
    ∙ ap (λ n. footer_handles (drop (n - 24) part)) (sym size) ∙ e

pub same_ok : {X : Type 0} (r : Result X Error) (x y : X) → r ≡ Ok x → r ≡ Ok y → x ≡ y
same_ok {X} r x y e f = let k : ◌≡◌ {A = Result X Error} (Ok x) (Ok y) = sym e ∙ f in cc

module _ (c : Hashes) (sums : (xs : List ℕ) → c.hash128 xs < 2 ^ 128)
    (index_verdict : (p : List ℕ) → IndexVerdict (trailer_in p) p (index_check p))
    (index_read : (r : ℕ) (p : List ℕ) (items : List Handle) → length p < 2 ^ 32 → IsIndexBlock p items r → IndexPasses r p × (items_in handles p ≡ items) × ((trailer_in p).interval ≡ r))
    (bytes : List ℕ)
  where
    -- the index of the parts is read
    pub tops_read : (hs : List Handle) (h : HandleParts) → IsStoredTop c bytes hs h → tops_at c bytes h ≡ Ok hs
    tops_read hs h s =
        let p = s.payload in
        let framed = s.framed in
        let short : length p < 2 ^ 32 = omega arith in
        let read = index_read s.interval p hs short s.is_block in
        let passes : IndexPassesBy (trailer_in p).interval (trailer_in p) p = subst (λ q. IndexPassesBy q (trailer_in p) p) (sym read.2) read.0 in
        bind_to _ _ p _ (framed_is_read c types.Meta bytes p h sums short s.frame) (index_ok (trailer_in p) p (index_check p) (index_verdict p) passes ∙ ap (λ xs. Ok xs) read.1)

    -- the file of a parted table is opened
    pub file_opens : (parts : List (List (List Entry))) (top : HandleParts) → IsPartedFile c parts bytes top → (tops : List Handle) × (tops_by_footer c bytes ≡ Ok (top, tops)) × (tops_at c bytes top ≡ Ok tops)
    file_opens parts top f =
        let read = tops_read f.parted.tops top f.parted.index in
        (f.parted.tops, by_handles c bytes (top_handles top) f.footer_is ∙ ap (λ r. r >>= (λ (hs : List Handle). Ok (top, hs))) read, read)

module _ (c : Hashes) (sums : (xs : List ℕ) → c.hash128 xs < 2 ^ 128)
    (index_verdict : (p : List ℕ) → IndexVerdict (trailer_in p) p (index_check p))
    (index_read : (r : ℕ) (p : List ℕ) (items : List Handle) → length p < 2 ^ 32 → IsIndexBlock p items r → IndexPasses r p × (items_in handles p ≡ items) × ((trailer_in p).interval ≡ r))
    (match : (needle : List ℕ) (seqno : ℕ) (parts : List (List (List Entry))) (hs : List Handle) → AllZip (λ part h. IsEnd entries handles (joined part) h) parts hs → IsOrdered entries (joined (joined parts))
    → first_match entries needle seqno (joined (joined parts)) ≡ first_in entries needle seqno (option_map joined (slice_get parts (place_for handles needle seqno hs))))
    (bytes needle : List ℕ) (seqno : ℕ)
  where
    -- where a read of each part gives its first match, one by the index of the parts gives that of all
    module _ (read : HandleParts → Result (Option Entry) Error) (read_one : (h : Handle) (part : List (List Entry)) → IsStoredPart c bytes part h → read (range_of h) ≡ Ok (first_match entries needle seqno (joined part))) where
      read_at : (parts : List (List (List Entry))) (hs : List Handle) (n : ℕ) → AllZip (IsStoredPart c bytes) parts hs → by_top read (slice_get hs n) ≡ Ok (first_in entries needle seqno (option_map joined (slice_get parts n)))
      read_at [] [] n s = refl
      read_at [] (h ∷ hs) n s = absurd s
      read_at (b ∷ bs) [] n s = absurd s
      read_at (b ∷ bs) (h ∷ hs) zero s = read_one h b s.0
      read_at (b ∷ bs) (h ∷ hs) (suc n) s = read_at bs hs n s.1

      pub parted_by : (parts : List (List (List Entry))) (h : HandleParts) (tops : List Handle) → IsParted c parts bytes h → tops_at c bytes h ≡ Ok tops
          → by_top read (handle_for handles needle seqno tops) ≡ Ok (first_match entries needle seqno (joined (joined parts)))
      parted_by parts h tops s opened =
          let same : tops ≡ s.tops = same_ok (tops_at c bytes h) tops s.tops opened (tops_read c sums index_verdict index_read bytes s.tops h s.index) in
          ap (λ hs. by_top read (handle_for handles needle seqno hs)) same
          ∙ read_at parts s.tops (place_for handles needle seqno s.tops) s.stored
          ∙ ap (λ o. Ok o) (sym (match needle seqno parts s.tops (part_ends c bytes parts s.tops s.stored) s.ordered))

    module _ (run_read : (blocks : List (List Entry)) (bytes : List ℕ) (h : RunHandles) (needle : List ℕ) (seqno : ℕ) → IsSound c blocks bytes h → read_checked c bytes h needle seqno ≡ Ok (first_match entries needle seqno (joined blocks))) where
      -- one part
      read_one : (h : Handle) (part : List (List Entry)) → IsStoredPart c bytes part h → read_part c bytes (range_of h) needle seqno ≡ Ok (first_match entries needle seqno (joined part))
      read_one h part s = bind_to _ _ s.places _ (places_of_table bytes (range_of h) s.places s.inside s.footer) (run_read part (part_in bytes (range_of h)) s.places needle seqno s.sound)

      pub parted_read : (parts : List (List (List Entry))) (h : HandleParts) (tops : List Handle) → IsParted c parts bytes h → tops_at c bytes h ≡ Ok tops
          → read_by_top c bytes (handle_for handles needle seqno tops) needle seqno ≡ Ok (first_match entries needle seqno (joined (joined parts)))
      parted_read = parted_by (λ g. read_part c bytes g needle seqno) read_one
