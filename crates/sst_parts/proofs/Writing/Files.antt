-- Table files one after the other, the frame of an index of them and a footer, are the file of a parted table.
use Rattle.std.proofs.Common.{◌≡◌, ℕ, ◌+◌, ◌<◌, ◌≤◌, ◌^◌, List, [], ◌∷◌, ◌++◌, length, take, drop, refl, arith, sym, ◌∙◌, ap, subst, append_assoc, length-append, Option, Some, None, IfSome, Ok}
use Rattle.std.proofs.lemmas.List.{drop_at, length-drop, length-take-le, take_all, take_at}
use Rattle.std.specs.List.{AllZip}
use Rattle.sstable_blocks.specs.Prelude.{HandleParts, Entry, entries, frame, Handle, handles, IsIndexBlock, IsOrdered, index_payload}
use Rattle.sstable_blocks.specs.Lookup.{IsEnd}
use Rattle.sstable_blocks.specs.Opened.{range_of}
use Rattle.sstable_blocks.specs.RunPlaces.{part_in}
use Rattle.sstable_blocks.specs.Writing.{PartFits}
use Rattle.sstable_blocks.specs.BlockLaws.{length-frame}
use Rattle.sstable_blocks.specs.BlockTypes as types
use Rattle.sstable_blocks.specs.Blocks.{joined}
use Rattle.sstable_blocks.specs.Footer.{footer, table_handles}
use Rattle.sstable_blocks.specs.Run.{Form, IsLayout}
use Rattle.sstable_blocks.specs.RunReading.{Hashes, hashes}
use Rattle.sstable_blocks.specs.Sound.{AreContiguous, IsSound, IsStoredFilter}
use Rattle.sstable_blocks.specs.declared.run.RunHandles.{RunHandles}
use Rattle.sst_parts.specs.Parts.{IsStoredPart}
use Rattle.sst_parts.specs.PartCopies.{IsClosedFile, IsCopiesLayout, IsPartFrom, IsPartOfTable, copied_parts}
use Rattle.sst_parts.specs.PartWriting.{AreFiles, IsPartFile, IsPartedFile, IsPartedLayout, top_handles}
use Rattle.sst_parts.specs.declared.closed.PartOrigin.{PartOrigin}
use Rattle.sst_parts.specs.declared.closed.PartOrigin.TheVariants.{Made, Copied}
use Rattle.sst_parts.proofs.Writing.Longer.{FilterFits, PartsFit, footer_reads, sound_longer}
use Rattle.sstable_blocks.specs.OpeningLaws.{framed_size}

fits_filter : (c : Hashes) (bytes : List ℕ) (items : List Entry) (h : Option HandleParts) → IfSome h (IsStoredFilter c bytes items) → length bytes < 2 ^ 32 → FilterFits h
fits_filter c bytes items None s small = tt
fits_filter c bytes items (Some h) s small =
    let i = s.frame.inside in
    let n = framed_size c types.Filter bytes s.payload h s.frame in
    (record { offset = omega arith; size = omega arith }, omega arith)

-- the numbers of a small run's handles fit the footer
fits : (c : Hashes) (blocks : List (List Entry)) (bytes : List ℕ) (h : RunHandles) → IsSound c blocks bytes h → length bytes < 2 ^ 32 → PartsFit h.index × FilterFits h.filter
fits c blocks bytes h s small =
    let i = s.index.frame.inside in
    (record { offset = omega arith; size = omega arith }, fits_filter c bytes (joined blocks) h.filter s.filter small)

-- a list between two others
between : (pre text rest : List ℕ) (offset size : ℕ) → offset ≡ length pre → size ≡ length text → take size (drop offset (pre ++ (text ++ rest))) ≡ text
between pre text rest offset size at long =
    ap (λ n. take size (drop n (pre ++ (text ++ rest)))) at
    ∙ ap (take size) (drop_at pre (text ++ rest) (length pre) refl)
    ∙ take_at text rest size (sym long)

-- a text holds these blocks as the table file of a part, which a handle names by its length
pub record IsStoredFile (c : Hashes) (blocks : List (List Entry)) (text : List ℕ) (h : Handle) : Type 0 where
  pub size : h.size ≡ length text
  pub places : RunHandles
  pub footer_is : table_handles text ≡ Ok places
  pub sound : IsSound c blocks text places
  pub end : IsEnd entries handles (joined blocks) h

stored_one : (c : Hashes) (pre text more : List ℕ) (blocks : List (List Entry)) (h : Handle) → h.offset ≡ length pre → IsStoredFile c blocks text h → IsStoredPart c (pre ++ (text ++ more)) blocks h
stored_one c pre text more blocks h at p =
    let same = between pre text more h.offset h.size at p.size in
    let size = p.size in
    let a = length-append pre (text ++ more) in
    let b = length-append text more in
    record {
      inside = omega arith;
      places = p.places;
      footer = ap table_handles same ∙ p.footer_is;
      sound = subst (λ xs. IsSound c blocks xs p.places) (sym same) p.sound;
      end = p.end;
    }

-- the bytes that a handle names are the part alone
pub part_cut : (c : Hashes) (bytes : List ℕ) (blocks : List (List Entry)) (h : Handle) → IsStoredPart c bytes blocks h → IsStoredPart c (part_in bytes (range_of h)) blocks (record h { offset = 0 })
part_cut c bytes blocks h s =
    let text = part_in bytes (range_of h) in
    let l = length-drop h.offset bytes in
    let i = s.inside in
    let n : length text ≡ h.size = length-take-le h.size (drop h.offset bytes) (omega arith) in
    let whole : take h.size (drop 0 text) ≡ text = take_all h.size text (omega arith) in
    record {
      inside = omega arith;
      places = s.places;
      footer = ap table_handles whole ∙ s.footer;
      sound = subst (λ xs. IsSound c blocks xs s.places) (sym whole) s.sound;
      end = record { front = s.end.front; last = s.end.last; whole = s.end.whole; key = s.end.key; seqno = s.end.seqno };
    }

module _ (c : Hashes) {P : Type 0} (IsFile : P → List ℕ → Handle → Type 0) (IsOf : List (List Entry) → P → Type 0) (stored : (blocks : List (List Entry)) (part : P) (text : List ℕ) (h : Handle) → IsOf blocks part → IsFile part text h → IsStoredFile c blocks text h) where
  -- the texts after a prefix
  stored_from : (rest pre : List ℕ) (parts : List (List (List Entry))) (from : List P) (texts : List (List ℕ)) (hs : List Handle) → AllZip IsOf parts from → AreFiles IsFile (length pre) from texts hs → AllZip (IsStoredPart c (pre ++ (joined texts ++ rest))) parts hs
  stored_from rest pre [] [] [] [] z t = tt
  stored_from rest pre [] (p ∷ ps) texts hs z t = absurd z
  stored_from rest pre (b ∷ bs) [] texts hs z t = absurd z
  stored_from rest pre [] [] [] (h ∷ hs) z t = absurd t
  stored_from rest pre [] [] (x ∷ xs) hs z t = absurd t
  stored_from rest pre (b ∷ bs) (p ∷ ps) [] hs z t = absurd t
  stored_from rest pre (b ∷ bs) (p ∷ ps) (x ∷ xs) [] z t = absurd t
  stored_from rest pre (b ∷ bs) (p ∷ ps) (x ∷ xs) (h ∷ hs) z t =
      let whole : pre ++ ((x ++ joined xs) ++ rest) ≡ pre ++ (x ++ (joined xs ++ rest)) = ap (λ zs. pre ++ zs) (append_assoc x (joined xs) rest) in
      let moved : (pre ++ x) ++ (joined xs ++ rest) ≡ pre ++ ((x ++ joined xs) ++ rest) = append_assoc pre x (joined xs ++ rest) ∙ sym whole in
      let next : AreFiles IsFile (length (pre ++ x)) ps xs hs = subst (λ n. AreFiles IsFile n ps xs hs) (sym (length-append pre x)) t.2 in (
        subst (λ zs. IsStoredPart c zs b h) (sym whole) (stored_one c pre x (joined xs ++ rest) b h t.0 (stored b p x h z.0 t.1)),
        subst (λ zs. AllZip (IsStoredPart c zs) bs hs) moved (stored_from rest (pre ++ x) bs ps xs hs z.1 next),
      )

  contiguous_from : (offset : ℕ) (parts : List (List (List Entry))) (from : List P) (texts : List (List ℕ)) (hs : List Handle) → AllZip IsOf parts from → AreFiles IsFile offset from texts hs → AreContiguous offset hs
  contiguous_from offset [] [] [] [] z t = tt
  contiguous_from offset [] (p ∷ ps) texts hs z t = absurd z
  contiguous_from offset (b ∷ bs) [] texts hs z t = absurd z
  contiguous_from offset [] [] [] (h ∷ hs) z t = absurd t
  contiguous_from offset [] [] (x ∷ xs) hs z t = absurd t
  contiguous_from offset (b ∷ bs) (p ∷ ps) [] hs z t = absurd t
  contiguous_from offset (b ∷ bs) (p ∷ ps) (x ∷ xs) [] z t = absurd t
  contiguous_from offset (b ∷ bs) (p ∷ ps) (x ∷ xs) (h ∷ hs) z t =
      (t.0, subst (λ n. AreContiguous (offset + n) hs) (sym (stored b p x h z.0 t.1).size) (contiguous_from (offset + length x) bs ps xs hs z.1 t.2))

all_same : (parts : List (List (List Entry))) → AllZip (λ (a b : List (List Entry)). a ≡ b) parts parts
all_same [] = tt
all_same (p ∷ ps) = (refl, all_same ps)

module _ (f : Form) where
  -- parts one after the other, the frame of the index of these, and a footer
  record IsTopped (texts : List (List ℕ)) (tops : List Handle) (bytes : List ℕ) (top : HandleParts) : Type 0 where
    index : IsIndexBlock (index_payload tops f.config.index_interval) tops f.config.index_interval
    fits : PartFits (length (joined texts)) (index_payload tops f.config.index_interval)
    offset : top.offset ≡ length (joined texts)
    size : top.size ≡ 33 + length (index_payload tops f.config.index_interval)
    text : bytes ≡ joined texts ++ (frame f.hash128 types.Meta (index_payload tops f.config.index_interval) ++ footer (top_handles top))

  abbrev c : Hashes
  c = hashes f.hash64 f.hash128

  topped_is_file : (parts : List (List (List Entry))) (texts : List (List ℕ)) (tops : List Handle) (bytes : List ℕ) (top : HandleParts) → IsTopped texts tops bytes top → ((rest : List ℕ) → AllZip (IsStoredPart c (joined texts ++ rest)) parts tops) → AreContiguous 0 tops
      → IsOrdered entries (joined (joined parts)) → IsPartedFile c parts bytes top
  topped_is_file parts texts tops bytes top l stored contiguous ordered =
      let p = index_payload tops f.config.index_interval in
      let fr = frame f.hash128 types.Meta p in
      let foot = footer (top_handles top) in
      let all = joined texts in
      let long = length-frame f.hash128 types.Meta p in
      let size = l.size in
      let offset = l.offset in
      let a = length-append all (fr ++ foot) in
      let b = length-append fr foot in
      let e = ap length l.text in
      let end = l.fits.end in
      let framed : length p ≤ 4294967262 = l.fits.framed in
      let fit : PartsFit top = record { offset = omega arith; size = omega arith } in
      let whole : take top.size (drop top.offset bytes) ≡ fr = ap (λ xs. take top.size (drop top.offset xs)) l.text ∙ between all fr foot top.offset top.size l.offset (l.size ∙ sym long) in
      record {
        parted = record {
          tops = tops;
          index = record { payload = p; frame = record { inside = omega arith; whole = whole }; framed = l.fits.framed; interval = f.config.index_interval; is_block = l.index };
          stored = subst (λ xs. AllZip (IsStoredPart c xs) parts tops) (sym l.text) (stored (fr ++ foot));
          contiguous = contiguous;
          ordered = ordered;
        };
        footer_is = ap table_handles (l.text ∙ sym (append_assoc all fr foot)) ∙ footer_reads (all ++ fr) (top_handles top) fit tt;
      }

  module _ (layout_sound : (blocks : List (List Entry)) (bytes : List ℕ) (h : RunHandles) → IsLayout f blocks bytes h → IsSound c blocks bytes h) where
    -- the footer of a table file is read, and its run is sound
    file_reads : (blocks : List (List Entry)) (text : List ℕ) (h : Handle) → IsPartFile f blocks text h → IsStoredFile c blocks text h
    file_reads blocks text h p =
        let run = p.table.run in
        let places = p.places in
        let sound = layout_sound blocks run places p.table.layout in
        let l = ap length p.table.text ∙ length-append run (footer places) in
        let size = p.size in
        let small = p.small in
        let fit = fits c blocks run places sound (omega arith) in
        record {
          size = p.size;
          places = places;
          footer_is = ap table_handles p.table.text ∙ footer_reads run places fit.0 fit.1;
          sound = subst (λ xs. IsSound c blocks xs places) (sym p.table.text) (sound_longer c run (footer places) blocks places sound);
          end = p.end;
        }

    same_reads : (blocks part : List (List Entry)) (text : List ℕ) (h : Handle) → blocks ≡ part → IsPartFile f part text h → IsStoredFile c blocks text h
    same_reads blocks part text h same p = subst (λ bs. IsStoredFile c bs text h) (sym same) (file_reads part text h p)

    pub layout_is_file : (parts : List (List (List Entry))) (bytes : List ℕ) (top : HandleParts) → IsPartedLayout f parts bytes top → IsPartedFile c parts bytes top
    layout_is_file parts bytes top l =
        let same = all_same parts in
        topped_is_file parts l.texts l.tops bytes top (record { index = l.index; fits = l.fits; offset = l.offset; size = l.size; text = l.text })
        (λ rest. stored_from c (IsPartFile f) (λ (a b : List (List Entry)). a ≡ b) same_reads rest [] parts parts l.texts l.tops same l.files)
        (contiguous_from c (IsPartFile f) (λ (a b : List (List Entry)). a ≡ b) same_reads 0 parts parts l.texts l.tops same l.files) l.ordered

    -- so is the text of a part that was closed
    closed_reads : (blocks : List (List Entry)) (part : PartOrigin) (text : List ℕ) (h : Handle) → IsPartFrom c blocks part → IsClosedFile f part text h → IsStoredFile c blocks text h
    closed_reads blocks (Made made) text h same p = same_reads blocks made text h same p
    closed_reads blocks (Copied bytes end) text h s p =
        let named = p.named in
        let whole : take end.size (drop 0 bytes) ≡ text = take_all end.size bytes (omega arith) ∙ sym p.text_is in
        record {
          size = p.size;
          places = s.places;
          footer_is = ap table_handles (sym whole) ∙ s.footer;
          sound = subst (λ xs. IsSound c blocks xs s.places) whole s.sound;
          end = record { front = s.end.front; last = s.end.last; whole = s.end.whole; key = p.end_key ∙ s.end.key; seqno = p.seqno ∙ s.end.seqno };
        }

    pub copies_are_file : (closed : List PartOrigin) (parts : List (List (List Entry))) (bytes : List ℕ) (top : HandleParts) → IsCopiesLayout f closed bytes top → AllZip (IsPartFrom c) parts closed → IsOrdered entries (joined (joined parts)) → IsPartedFile c parts bytes top
    copies_are_file closed parts bytes top l from ordered =
        topped_is_file parts l.texts l.tops bytes top (record { index = l.index; fits = l.fits; offset = l.offset; size = l.size; text = l.text })
        (λ rest. stored_from c (IsClosedFile f) (IsPartFrom c) closed_reads rest [] parts closed l.texts l.tops from l.files)
        (contiguous_from c (IsClosedFile f) (IsPartFrom c) closed_reads 0 parts closed l.texts l.tops from l.files) ordered

-- the parts of tables, each where its handle names it
copied_from : (c : Hashes) (parts : List (List (List Entry))) (sources : List (List ℕ × Handle)) → AllZip (IsPartOfTable c) parts sources → AllZip (IsPartFrom c) parts (copied_parts sources)
copied_from c [] [] z = tt
copied_from c [] (s ∷ ss) z = absurd z
copied_from c (p ∷ ps) [] z = absurd z
copied_from c (p ∷ ps) (s ∷ ss) z = (part_cut c s.0 p s.1 z.0, copied_from c ps ss z.1)

pub sources_are_file : (f : Form) → ((closed : List PartOrigin) (parts : List (List (List Entry))) (bytes : List ℕ) (top : HandleParts) → IsCopiesLayout f closed bytes top → AllZip (IsPartFrom (hashes f.hash64 f.hash128)) parts closed → IsOrdered entries (joined (joined parts)) → IsPartedFile (hashes f.hash64 f.hash128) parts bytes top)
    → (sources : List (List ℕ × Handle)) (parts : List (List (List Entry))) (bytes : List ℕ) (top : HandleParts) → AllZip (IsPartOfTable (hashes f.hash64 f.hash128)) parts sources → IsOrdered entries (joined (joined parts)) → IsCopiesLayout f (copied_parts sources) bytes top
    → IsPartedFile (hashes f.hash64 f.hash128) parts bytes top
sources_are_file f law sources parts bytes top z ordered l = law (copied_parts sources) parts bytes top l (copied_from (hashes f.hash64 f.hash128) parts sources z) ordered
