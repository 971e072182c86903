-- A scan of a parted table reads the entries of all parts within the range.
use Rattle.std.proofs.Common.{◌≡◌, ℕ, zero, suc, ◌+◌, ◌<◌, ◌^◌, cond, List, [], ◌∷◌, length, map, refl, arith, sym, ◌∙◌, ap, subst, Option, Some, None, IfSome, Result, Ok, Err}
use Rattle.std.proofs.lemmas.Bool.{le-leb}
use Rattle.std.specs.List.{AllZip, slice_get}
use Rattle.sstable_blocks.specs.Prelude.{HandleParts, Entry, plain, index_check, IndexVerdict, entries, Handle, handles, IsIndexBlock, IndexPasses, IsOrdered, items_in, trailer_in}
use Rattle.sstable_blocks.specs.Results.{Error, BadHandle}
use Rattle.sstable_blocks.specs.BlockTypes as types
use Rattle.sst_parts.specs.Parts.{IsParted, IsStoredPart, tops_at}
use Rattle.sstable_blocks.specs.RunPlaces.{part_in}
use Rattle.sstable_blocks.specs.RunPlaceLaws.{part_long}
use Rattle.sst_parts.specs.PartScans.{bytes_reads, kept_reads, part_reads, parts_read}
use Rattle.sst_parts.specs.PartMerges.{IsPartBytes}
use Rattle.sst_parts.specs.RefScans.{IsScannedPart}
use Rattle.sst_sources.specs.Stored.{all_keys}
use Rattle.sst_sources.specs.TableReads.{within_all}
use Rattle.sst_parts.proofs.Writing.Files.{part_cut}
use Rattle.sst_parts.proofs.Writing.Joins.{joined-map, zip-map}
use Rattle.sst_parts.proofs.Reading.PartReads.{tops_read}
use Rattle.sstable_blocks.specs.Blocks.{joined}
use Rattle.sstable_blocks.specs.Filter.{filter_at}
use Rattle.sstable_blocks.specs.Footer.{table_handles}
use Rattle.sstable_blocks.specs.Opened.{index_in, range_of}
use Rattle.sstable_blocks.specs.RangeReadLaws.{IsRead, read_all, reads_within}
use Rattle.sstable_blocks.specs.RunReading.{Hashes, handles_at, payload_at, range_at}
use Rattle.sstable_blocks.specs.Scans.{IsReadRun, KeyRange, within, handles_within, blocks_read}
use Rattle.sstable_blocks.specs.Sound.{IsSound, IsStoredFilter}
use Rattle.sstable_blocks.specs.SoundReadLaws.{bind_to, framed_is_read}
use Rattle.sstable_blocks.specs.Tables.{filter_kept, kept_by_footer, kept_of}
use Rattle.sstable_blocks.specs.declared.run.RunHandles.{RunHandles}

module _ (c : Hashes) (sums : (xs : List ℕ) → c.hash128 xs < 2 ^ 128)
    (index_verdict : (p : List ℕ) → IndexVerdict (trailer_in p) p (index_check p))
    (index_read : (r : ℕ) (p : List ℕ) (items : List Handle) → length p < 2 ^ 32 → IsIndexBlock p items r → IndexPasses r p × (items_in handles p ≡ items) × ((trailer_in p).interval ≡ r))
    (run_read : (blocks : List (List Entry)) (bytes : List ℕ) (h : RunHandles) → IsSound c blocks bytes h → IsReadRun c bytes h)
    (run_scanned : (blocks : List (List Entry)) (bytes : List ℕ) (h : RunHandles) (r : KeyRange) (hs : List Handle) → IsSound c blocks bytes h → handles_at c bytes h.index ≡ Ok hs → blocks_read c bytes r (handles_within r hs) ≡ map Ok (within r (map plain (joined blocks))))
  where
    -- the filter of a sound run is read
    filter_read : (bytes : List ℕ) (items : List Entry) (h : Option HandleParts) → IfSome h (IsStoredFilter c bytes items) → (p : Option (List ℕ)) × (filter_kept c bytes h ≡ Ok p)
    filter_read bytes items None stored = (None, refl)
    filter_read bytes items (Some h) stored =
        let framed = stored.framed in (
          Some stored.payload,
          bind_to (payload_at c types.Filter bytes h) _ stored.payload _ (framed_is_read c types.Filter bytes stored.payload h sums (omega arith) stored.frame)
              (bind_to (filter_at stored.payload) _ stored.filter _ stored.reads refl),
        )

    -- what is kept of a table file, whose run is sound
    kept_is : (file : List ℕ) (blocks : List (List Entry)) (h : RunHandles) → table_handles file ≡ Ok h → IsSound c blocks file h → (p : Option (List ℕ)) × (kept_by_footer c file ≡ Ok (h, p, index_in file h.index))
    unfolding kept_by_footer kept_of
    kept_is file blocks h footer d =
        let f = filter_read file (joined blocks) h.filter d.filter in
        let i = (run_read blocks file h d).index in (
          f.0,
          bind_to (table_handles file) _ h _ footer
              (bind_to (kept_of c file h) _ (f.0, index_in file h.index) _
              (bind_to (filter_kept c file h.filter) _ f.0 _ f.1 (bind_to (handles_at c file h.index) _ (index_in file h.index) _ i refl)) refl),
        )

    file_is : (file : List ℕ) (r : KeyRange) (blocks : List (List Entry)) (h : RunHandles) → table_handles file ≡ Ok h → IsSound c blocks file h → kept_reads c file r (kept_by_footer c file) ≡ read_all r (joined blocks)
    file_is file r blocks h footer d =
        let k = kept_is file blocks h footer d in
        ap (kept_reads c file r) k.1 ∙ run_scanned blocks file h r (index_in file h.index) d (run_read blocks file h d).index

    -- the bytes of a stored part are read as its entries
    pub part_bytes : (bytes : List ℕ) (part : List (List Entry)) (h : Handle) → IsStoredPart c bytes part h → IsPartBytes c (part_in bytes (range_of h)) part h
    part_bytes bytes part h s = record {
      named = sym (part_long bytes (range_of h) s.inside);
      stored = part_cut c bytes part h s;
      read = file_is (part_in bytes (range_of h)) all_keys part s.places s.footer s.sound ∙ ap (map Ok) (within_all (map plain (joined part)));
      ordered = s.sound.ordered;
      end = s.end;
    }

    module _ (bytes : List ℕ) (r : KeyRange) where
      -- the part of a handle has these entries, of which those in the range are read
      abbrev IsPartRead : List Entry → Handle → Type 0
      IsPartRead = IsRead r (part_reads c bytes r) (parts_read c bytes r) refl (λ k ks. refl)

      one_part : (part : List (List Entry)) (h : Handle) → IsStoredPart c bytes part h → IsPartRead (joined part) h
      unfolding range_at
      one_part part h s =
          let g = range_of h in
          let found : range_at bytes g ≡ Ok (part_in bytes g) = ap (λ b. cond b (Ok (part_in bytes g)) (Err BadHandle)) (le-leb (g.offset + g.size) (length bytes) s.inside) in
          record { end = s.end; read = ap (bytes_reads c r) found ∙ file_is (part_in bytes g) r part s.places s.footer s.sound }

      each_part : (parts : List (List (List Entry))) (hs : List Handle) → AllZip (IsStoredPart c bytes) parts hs → AllZip (λ part h. IsPartRead (joined part) h) parts hs
      each_part [] [] stored = tt
      each_part [] (h ∷ hs) stored = absurd stored
      each_part (b ∷ bs) [] stored = absurd stored
      each_part (b ∷ bs) (h ∷ hs) stored = (one_part b h stored.0, each_part bs hs stored.1)

      same_tops : (hs ks : List Handle) → ◌≡◌ {A = Result (List Handle) Error} (Ok hs) (Ok ks) → hs ≡ ks
      same_tops hs ks e = cc

      pub parted_scanned : (parts : List (List (List Entry))) (top : HandleParts) (tops : List Handle) → IsParted c parts bytes top → tops_at c bytes top ≡ Ok tops
          → parts_read c bytes r (handles_within r tops) ≡ map Ok (within r (map plain (joined (joined parts))))
      parted_scanned parts top tops d at =
          let same = same_tops tops d.tops (sym at ∙ tops_read c sums index_verdict index_read bytes d.tops top d.index) in
          ap (λ ks. parts_read c bytes r (handles_within r ks)) same
          ∙ reads_within r (part_reads c bytes r) (parts_read c bytes r) refl (λ k ks. refl) (map joined parts) d.tops (zip-map joined IsPartRead parts d.tops (each_part parts d.tops d.stored)) (subst (IsOrdered entries) (sym (joined-map parts)) d.ordered)
          ∙ ap (read_all r) (joined-map parts)

      part_at : (parts : List (List (List Entry))) (hs : List Handle) (i : ℕ) (h : Handle) → AllZip (IsStoredPart c bytes) parts hs → slice_get hs i ≡ Some h → IsScannedPart c bytes r h
      part_at [] [] i h stored at = cc
      part_at [] (k ∷ ks) i h stored at = absurd stored
      part_at (b ∷ bs) [] i h stored at = absurd stored
      part_at (b ∷ bs) (k ∷ ks) zero h stored at =
          let same : k ≡ h = cc in
          subst (IsScannedPart c bytes r) same (record { blocks = b; stored = stored.0; read = (one_part b k stored.0).read })
      part_at (b ∷ bs) (k ∷ ks) (suc i) h stored at = part_at bs ks i h stored.1 at

      pub part_scanned : (parts : List (List (List Entry))) (top : HandleParts) (tops : List Handle) (i : ℕ) (h : Handle) → IsParted c parts bytes top → tops_at c bytes top ≡ Ok tops → slice_get tops i ≡ Some h → IsScannedPart c bytes r h
      part_scanned parts top tops i h d at here =
          let same = same_tops tops d.tops (sym at ∙ tops_read c sums index_verdict index_read bytes d.tops top d.index) in
          part_at parts d.tops i h d.stored (ap (λ (ks : List Handle). slice_get ks i) (sym same) ∙ here)
