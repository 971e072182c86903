-- Parted tables, all of whose parts are copied.
use Rattle.std.proofs.Common.{◌≡◌, ℕ, ◌<◌, ◌^◌, List, [], ◌∷◌, ◌++◌, length, map, subst, Ok}
use Rattle.std.specs.List.{AllByRecursion, AllZip}
use Rattle.sstable_blocks.specs.Prelude.{Entry, HandleParts, index_check, IndexVerdict, Handle, handles, IsIndexBlock, IndexPasses, items_in, trailer_in}
use Rattle.sst_parts.specs.PartCopies.{CopiedTable, IsCopiedTable, IsPartOfTable, parts_of_tables, sources_of}
use Rattle.sst_parts.specs.Parts.{IsParted, IsStoredPart, tops_at}
use Rattle.sst_parts.proofs.Reading.PartReads.{same_ok, tops_read}
use Rattle.sstable_blocks.specs.RunReading.{Hashes}

pub zip-append : {X Y : Type 0} (R : X → Y → Type 0) (xs xs' : List X) (ys ys' : List Y) → AllZip R xs ys → AllZip R xs' ys' → AllZip R (xs ++ xs') (ys ++ ys')
zip-append R [] xs' [] ys' a b = b
zip-append R [] xs' (y ∷ ys) ys' a b = absurd a
zip-append R (x ∷ xs) xs' [] ys' a b = absurd a
zip-append R (x ∷ xs) xs' (y ∷ ys) ys' a b = (a.0, zip-append R xs xs' ys ys' a.1 b)

module _ (c : Hashes) where
  stored_sources : (bytes : List ℕ) (parts : List (List (List Entry))) (hs : List Handle) → AllZip (IsStoredPart c bytes) parts hs → AllZip (IsPartOfTable c) parts (map (λ h. (bytes, h)) hs)
  stored_sources bytes [] [] s = tt
  stored_sources bytes [] (h ∷ hs) s = absurd s
  stored_sources bytes (p ∷ ps) [] s = absurd s
  stored_sources bytes (p ∷ ps) (h ∷ hs) s = (s.0, stored_sources bytes ps hs s.1)

module _ (c : Hashes) (sums : (xs : List ℕ) → c.hash128 xs < 2 ^ 128)
    (index_verdict : (p : List ℕ) → IndexVerdict (trailer_in p) p (index_check p))
    (index_read : (r : ℕ) (p : List ℕ) (items : List Handle) → length p < 2 ^ 32 → IsIndexBlock p items r → IndexPasses r p × (items_in handles p ≡ items) × ((trailer_in p).interval ≡ r))
  where
    -- the parts of a parted table are stored where its handles name them
    pub parts_stored : (parts : List (List (List Entry))) (bytes : List ℕ) (top : HandleParts) (tops : List Handle) → IsParted c parts bytes top → tops_at c bytes top ≡ Ok tops → AllZip (IsStoredPart c bytes) parts tops
    parts_stored parts bytes top tops d read =
        let same = same_ok (tops_at c bytes top) d.tops tops (tops_read c sums index_verdict index_read bytes d.tops top d.index) read in
        subst (λ (hs : List Handle). AllZip (IsStoredPart c bytes) parts hs) same d.stored

    table_stored : (t : CopiedTable) → IsCopiedTable c t → AllZip (IsPartOfTable c) t.parts (map (λ h. (t.bytes, h)) t.tops)
    table_stored t k = stored_sources c t.bytes t.parts t.tops (parts_stored t.parts t.bytes t.top t.tops k.parted k.read)

    -- so are those of all
    pub tables_stored : (tables : List CopiedTable) → AllByRecursion (IsCopiedTable c) tables → AllZip (IsPartOfTable c) (parts_of_tables tables) (sources_of tables)
    tables_stored [] k = tt
    tables_stored (t ∷ ts) k = zip-append (IsPartOfTable c) t.parts (parts_of_tables ts) (map (λ h. (t.bytes, h)) t.tops) (sources_of ts) (table_stored t k.0) (tables_stored ts k.1)
