-- Parts that are closed, one after the other.
use Rattle.std.proofs.Common.{◌≡◌, ◌⊎◌, ℕ, suc, ◌+◌, ◌-◌, ◌<◌, ◌≤◌, ◌^◌, List, [], ◌∷◌, ◌++◌, length, take, drop, map, get_or, drop-cons, refl, arith, sym, ◌∙◌, ap, subst, append_assoc, length-append, inl, inr, Option, Some, None}
use Rattle.std.proofs.KnownBytes.{Appends-trans}
use Rattle.std.proofs.Math.Seq.{drop-length}
use Rattle.std.proofs.lemmas.List.{append-nil, map-append, take-append-drop}
use Rattle.std.specs.Io.KnownBytes.{Appends}
use Rattle.std.specs.List.{AllByRecursion, AllZip, slice_get}
use Rattle.sstable_blocks.specs.Prelude.{HandleParts, Entry, frame, IsRefusal, entries, Handle, handles, IsIndexBlock, index_payload, IsOrdered}
use Rattle.sstable_blocks.specs.Results.{Error, Io, TooLong}
use Rattle.sstable_blocks.specs.BlockTypes.{Meta}
use Rattle.sst_parts.specs.PartCopies.{AppendsCopies, AppendsOpenCopies, AreClosed, AreClosedFiles, ClosedEnds, ClosedTopFits, CopyFits, IsClosedFile, IsCopiedFile, IsLastKey, end_entry, known_blocks, known_parts}
use Rattle.sst_parts.specs.PartWriting.{AppendsOpen, AppendsPart, AppendsParted, AppendsTop, AreFiles, IsLastOf, PartFileFits, top_handles}
use Rattle.sst_parts.specs.declared.closed.PartOrigin.{PartOrigin}
use Rattle.sst_parts.specs.declared.closed.PartOrigin.TheVariants.{Made, Copied}
use Rattle.sst_parts.proofs.Writing.Joins.{joined-append, joined-map, zip-map}
use Rattle.sstable_blocks.specs.EndLaws.{all_push, ends_in_order}
use Rattle.sstable_blocks.specs.Blocks.{joined}
use Rattle.sstable_blocks.specs.Footer.{footer, run_end}
use Rattle.sstable_blocks.specs.Lookup.{IsEnd}
use Rattle.sstable_blocks.specs.Run.{Form}
use Rattle.sstable_blocks.specs.Writing.{AppendsLayout, IsWriteRefusal, PartFits}
use Rattle.sstable_blocks.specs.declared.run.RunHandles.{RunHandles}
use Rattle.sstable_blocks.specs.TableEndLaws.{footer-length, layout-end}

-- the last of the entries that stand for the items of a list
pub last_of : {T : Type 0} (entry : T → Entry) (items : List T) (x : T) (key : List ℕ) (seqno : ℕ) → 1 ≤ length items → x ≡ get_or items (length items - 1) x → key ≡ (entry x).key.user_key → seqno ≡ (entry x).key.seqno → length key ≤ 65535
    → IsLastOf (map entry items) key seqno
last_of entry items x key seqno some is key_is seqno_is short =
    let below : length items - 1 < length items = omega arith in
    let next : suc (length items - 1) ≡ length items = omega arith in
    let last : drop (length items - 1) items ≡ x ∷ [] = drop-cons items (length items - 1) x below ∙ ap (λ y. y ∷ drop (suc (length items - 1)) items) (sym is) ∙ ap (λ n. x ∷ drop n items) next ∙ ap (λ ys. x ∷ ys) (drop-length items) in
    record {
      front = map entry (take (length items - 1) items);
      last = entry x;
      whole = ap (map entry) (sym (take-append-drop (length items - 1) items) ∙ ap (λ ys. take (length items - 1) items ++ ys) last) ∙ map-append entry (take (length items - 1) items) (x ∷ []);
      key_is = key_is;
      seqno_is = seqno_is;
      short = short;
    }

-- a run and its footer are the table file of a part
pub part_file : (f : Form) (blocks : List (List Entry)) (places : RunHandles) (h : Handle) (p : HandleParts) (key : List ℕ) (seqno offset size : ℕ) (old now after : Option (List ℕ)) (tail : List ℕ) → AppendsLayout f blocks old now places → Appends now after tail → tail ≡ footer places
    → size ≡ run_end places + 24 → size < 2 ^ 32 → offset + size < 2 ^ 64 → p ≡ record { offset = offset; size = size } → h ≡ record { offset = p.offset; size = p.size; seqno = seqno; end_key = key } → IsLastOf (joined blocks) key seqno → AppendsPart f blocks offset old after h
part_file f blocks places h p key seqno offset size old now after tail l behind tail_is size_is small end p_is h_is last =
    let o : h.offset ≡ offset = ap (λ (x : Handle). x.offset) h_is ∙ ap (λ (x : HandleParts). x.offset) p_is in
    let s : h.size ≡ size = ap (λ (x : Handle). x.size) h_is ∙ ap (λ (x : HandleParts). x.size) p_is in
    let long = layout-end f blocks l.0 places l.1 in
    let whole = length-append l.0 (footer places) in
    let foot = footer-length places in
    record {
      text = l.0 ++ footer places;
      file = record {
        places = places;
        table = record { run = l.0; layout = l.1; text = refl };
        size = omega arith;
        small = omega arith;
        end = record { front = last.front; last = last.last; whole = last.whole; key = ap (λ (x : Handle). x.end_key) h_is ∙ last.key_is; seqno = ap (λ (x : Handle). x.seqno) h_is ∙ last.seqno_is };
      };
      offset_is = o;
      end = omega arith;
      bytes = subst (λ t. Appends old after (l.0 ++ t)) tail_is (Appends-trans old now after l.0 tail l.2 behind);
    }

-- a refusal of what is made in memory, as one of a write
pub refusal_of : (e : Error) (P Q : Type 0) → IsRefusal None P e → (P → Q) → IsWriteRefusal Q e
refusal_of e P Q (inl long) k = inr (inl (long.0, k long.1))
refusal_of e P Q (inr memory) k = inr (inr memory)

pub refusal_at_put : (e : Error) (P Q : Type 0) → (e ≡ Io) ⊎ ((e ≡ TooLong) × P) → (P → Q) → IsWriteRefusal Q e
refusal_at_put e P Q (inl io) k = inl io
refusal_at_put e P Q (inr long) k = inr (inl (long.0, k long.1))

-- one that ends too far doesn't fit
pub part_too_long : (f : Form) (blocks : List (List Entry)) (places : RunHandles) (offset : ℕ) (old now : Option (List ℕ)) → AppendsLayout f blocks old now places → (2 ^ 32 ≤ run_end places + 24) ⊎ (2 ^ 64 ≤ offset + (run_end places + 24)) → PartFileFits f offset blocks → ⊥
part_too_long f blocks places offset old now l (inl big) fits = let long = layout-end f blocks l.0 places l.1 in let small = fits.size l.0 places l.1 in omega arith
part_too_long f blocks places offset old now l (inr far) fits = let long = layout-end f blocks l.0 places l.1 in let end = fits.end l.0 places l.1 in omega arith

module _ {P : Type 0} (IsFile : P → List ℕ → Handle → Type 0) where
  files_push : (part : P) (text : List ℕ) (h : Handle) → IsFile part text h → (offset : ℕ) (parts : List P) (texts : List (List ℕ)) (hs : List Handle) → AreFiles IsFile offset parts texts hs → h.offset ≡ offset + length (joined texts)
      → AreFiles IsFile offset (parts ++ part ∷ []) (texts ++ text ∷ []) (hs ++ h ∷ [])
  files_push part text h is offset [] [] [] t at = (let e : h.offset ≡ offset = omega arith in e, is, tt)
  files_push part text h is offset [] [] (x ∷ hs) t at = absurd t
  files_push part text h is offset [] (x ∷ xs) hs t at = absurd t
  files_push part text h is offset (b ∷ bs) [] hs t at = absurd t
  files_push part text h is offset (b ∷ bs) (x ∷ xs) [] t at = absurd t
  files_push part text h is offset (b ∷ bs) (x ∷ xs) (y ∷ hs) t at =
      let l = length-append x (joined xs) in
      (t.0, t.1, files_push part text h is (offset + length x) bs xs hs t.2 (omega (arith, at, l)))

  files_count : (offset : ℕ) (parts : List P) (texts : List (List ℕ)) (hs : List Handle) → AreFiles IsFile offset parts texts hs → length hs ≡ length parts
  files_count offset [] [] [] t = refl
  files_count offset [] [] (x ∷ hs) t = absurd t
  files_count offset [] (x ∷ xs) hs t = absurd t
  files_count offset (b ∷ bs) [] hs t = absurd t
  files_count offset (b ∷ bs) (x ∷ xs) [] t = absurd t
  files_count offset (b ∷ bs) (x ∷ xs) (y ∷ hs) t = ap suc (files_count (offset + length x) bs xs hs t.2)

-- the last of a list that is not empty
last_more : {X : Type 0} (x y : X) (ys : List X) → slice_get (x ∷ y ∷ ys) (length (x ∷ y ∷ ys) - 1) ≡ slice_get (y ∷ ys) (length (y ∷ ys) - 1)
last_more x y ys =
    let n : length (x ∷ y ∷ ys) - 1 ≡ suc (length (y ∷ ys) - 1) = omega arith in
    ap (slice_get (x ∷ y ∷ ys)) n

none_last : {X : Type 0} (xs : List X) → slice_get xs (length xs - 1) ≡ None → xs ≡ []
none_last [] e = refl
none_last (x ∷ []) e = cc
none_last (x ∷ y ∷ ys) e = (let none = none_last (y ∷ ys) (sym (last_more x y ys) ∙ e) in cc)

-- without handles there are no entries
no_parts : (closed : List PartOrigin) (hs : List Handle) → length hs ≡ length closed → slice_get hs (length hs - 1) ≡ None → joined (joined (known_parts closed)) ≡ []
no_parts [] hs n e = refl
no_parts (b ∷ bs) hs n e = absurd (let none = ap length (none_last hs e) in omega (arith, n, none))

module _ (f : Form) where
  -- one part more
  one_more : (closed : List PartOrigin) (part : PartOrigin) (text : List ℕ) (start mid now : Option (List ℕ)) (tops more : List Handle) (h : Handle) (offset next : ℕ) → AreClosed f closed start mid tops offset → IsClosedFile f part text h → h.size ≡ length text
      → h.offset ≡ offset → offset + h.size < 2 ^ 64 → Appends mid now text → next ≡ offset + h.size → more ≡ tops ++ h ∷ [] → AreClosed f (closed ++ part ∷ []) start now more next
  one_more closed part text start mid now tops more h offset next w is size at end grown ends same =
      let all : joined (w.texts ++ text ∷ []) ≡ joined w.texts ++ text = joined-append w.texts (text ∷ []) ∙ ap (λ xs. joined w.texts ++ xs) (append-nil text) in
      let long = ap length all ∙ length-append (joined w.texts) text in
      let o = w.offset_is in
      record {
        texts = w.texts ++ text ∷ [];
        files = subst (AreClosedFiles f 0 (closed ++ part ∷ []) (w.texts ++ text ∷ [])) (sym same) (files_push (IsClosedFile f) part text h is 0 closed w.texts tops w.files (omega arith));
        ends = subst (AllByRecursion (λ x. x.offset + x.size < 2 ^ 64)) (sym same) (all_push (λ x. x.offset + x.size < 2 ^ 64) tops h w.ends (omega arith));
        bytes = subst (Appends start now) (sym all) (Appends-trans start mid now (joined w.texts) text w.bytes grown);
        offset_is = omega arith;
      }

  -- one of blocks
  pub one_closed : (closed : List PartOrigin) (part : List (List Entry)) (start mid now : Option (List ℕ)) (tops more : List Handle) (h : Handle) (offset next : ℕ) → AreClosed f closed start mid tops offset → AppendsPart f part offset mid now h
      → next ≡ offset + h.size → more ≡ tops ++ h ∷ [] → AreClosed f (closed ++ Made part ∷ []) start now more next
  one_closed closed part start mid now tops more h offset next w p ends same =
      one_more closed (Made part) p.text start mid now tops more h offset next w p.file p.file.size p.offset_is p.end p.bytes ends same

  -- one that was copied
  pub one_copied : (closed : List PartOrigin) (bytes : List ℕ) (end : Handle) (start mid now : Option (List ℕ)) (tops more : List Handle) (h : Handle) (offset next : ℕ) → AreClosed f closed start mid tops offset → end.size ≡ length bytes
      → h ≡ record end { offset = offset } → Appends mid now bytes → next ≡ offset + end.size → next < 2 ^ 64 → more ≡ tops ++ h ∷ [] → AreClosed f (closed ++ Copied bytes end ∷ []) start now more next
  one_copied closed bytes end start mid now tops more h offset next w size is grown ends fits same =
      let at : h.offset ≡ offset = ap (λ (x : Handle). x.offset) is in
      let long : h.size ≡ end.size = ap (λ (x : Handle). x.size) is in
      let file : IsCopiedFile bytes end bytes h = record { named = size; text_is = refl; size = long ∙ size; end_key = ap (λ (x : Handle). x.end_key) is; seqno = ap (λ (x : Handle). x.seqno) is } in
      one_more closed (Copied bytes end) bytes start mid now tops more h offset next w file (long ∙ size) at (omega (arith, long, ends, fits)) grown (ends ∙ ap (λ n. offset + n) (sym long)) same

  -- a handle has the end of its part
  closed_end : (part : PartOrigin) (text : List ℕ) (h : Handle) → IsClosedFile f part text h → IsEnd entries handles (joined (known_blocks part)) h
  closed_end (Made blocks) text h p = p.end
  closed_end (Copied bytes end) text h p = record { front = []; last = end_entry end; whole = refl; key = p.end_key; seqno = p.seqno }

  files_end : (offset : ℕ) (closed : List PartOrigin) (texts : List (List ℕ)) (hs : List Handle) → AreClosedFiles f offset closed texts hs → AllZip (λ part h. IsEnd entries handles (joined part) h) (known_parts closed) hs
  files_end offset [] [] [] t = tt
  files_end offset [] [] (x ∷ hs) t = absurd t
  files_end offset [] (x ∷ xs) hs t = absurd t
  files_end offset (b ∷ bs) [] hs t = absurd t
  files_end offset (b ∷ bs) (x ∷ xs) [] t = absurd t
  files_end offset (b ∷ bs) (x ∷ xs) (y ∷ hs) t = (closed_end b x y t.1, files_end (offset + length x) bs xs hs t.2)

  -- the last handle has the end of the last part
  last_key : (parts : List (List (List Entry))) (hs : List Handle) (h : Handle) → AllZip (λ part x. IsEnd entries handles (joined part) x) parts hs → slice_get hs (length hs - 1) ≡ Some h → IsLastKey (joined (joined parts)) (Some (h.end_key, h.seqno))
  last_key [] [] h zip e = cc
  last_key [] (y ∷ hs) h zip e = absurd zip
  last_key (p ∷ ps) [] h zip e = absurd zip
  last_key (p ∷ []) (y ∷ []) h zip e =
      let same : y ≡ h = cc in
      let i = zip.0 in
      let whole : joined (p ++ []) ≡ i.front ++ i.last ∷ [] = ap joined (append-nil p) ∙ i.whole in
      (i.front, i.last, whole, ap (λ (x : Handle). x.end_key) (sym same) ∙ i.key, ap (λ (x : Handle). x.seqno) (sym same) ∙ i.seqno)
  last_key (p ∷ []) (y ∷ z ∷ hs) h zip e = absurd zip.1
  last_key (p ∷ q ∷ ps) (y ∷ []) h zip e = absurd zip.1
  last_key (p ∷ q ∷ ps) (y ∷ z ∷ hs) h zip e =
      let r = last_key (q ∷ ps) (z ∷ hs) h zip.1 (sym (last_more y z hs) ∙ e) in
      let whole : joined (p ++ joined (q ∷ ps)) ≡ (joined p ++ r.0) ++ r.1 ∷ [] = joined-append p (joined (q ∷ ps)) ∙ ap (λ xs. joined p ++ xs) r.2 ∙ sym (append_assoc (joined p) r.0 (r.1 ∷ [])) in
      (joined p ++ r.0, r.1, whole, r.3, r.4)

  module _ (closed : List PartOrigin) (start now : Option (List ℕ)) (tops : List Handle) (offset : ℕ) (w : AreClosed f closed start now tops offset) where
    -- there is a handle for each part
    pub tops_count : length tops ≡ length closed
    tops_count = files_count (IsClosedFile f) 0 closed w.texts tops w.files

    -- the handles of parts are what an index block is made of
    pub tops_some : 1 ≤ length closed → 1 ≤ length tops
    tops_some some = let n = tops_count in omega arith

    pub tops_ordered : IsOrdered entries (joined (joined (known_parts closed))) → IsOrdered handles tops
    tops_ordered ordered = ends_in_order entries handles (map joined (known_parts closed)) tops (zip-map joined (IsEnd entries handles) (known_parts closed) tops (files_end 0 closed w.texts tops w.files)) (subst (IsOrdered entries) (sym (joined-map (known_parts closed))) ordered)

    -- the end of the last part
    pub last_closed : (h : Handle) → slice_get tops (length tops - 1) ≡ Some h → IsLastKey (joined (joined (known_parts closed))) (Some (h.end_key, h.seqno))
    last_closed h last = last_key (known_parts closed) tops h (files_end 0 closed w.texts tops w.files) last

    pub none_closed : slice_get tops (length tops - 1) ≡ None → joined (joined (known_parts closed)) ≡ []
    none_closed none = no_parts closed tops tops_count none

    -- a part that is closed next fits where they end
    pub fits_next : (part : List (List Entry)) → ClosedEnds f closed part → PartFileFits f offset part
    fits_next part ends = subst (λ n. PartFileFits f n part) (sym w.offset_is) (ends w.texts tops w.files)

    pub fits_copy : (bytes : List ℕ) → CopyFits f closed bytes → offset + length bytes < 2 ^ 64
    fits_copy bytes ends = let e = ends w.texts tops w.files in let o = w.offset_is in omega arith

    -- an index that is too long does not fit
    pub index_too_long : (hs : List Handle) (interval : ℕ) → hs ≡ tops → interval ≡ f.config.index_interval → 2 ^ 32 ≤ length (index_payload hs interval) → ClosedTopFits f closed → ⊥
    index_too_long hs interval same q long fits =
        let framed : length (index_payload tops f.config.index_interval) ≤ 4294967262 = (fits w.texts tops w.files).framed in
        let e = ap length (ap (λ xs. index_payload xs interval) same ∙ ap (index_payload tops) q) in
        omega (arith, framed, e, long)

    pub index_no_fit : (hs : List Handle) (interval : ℕ) (p : List ℕ) → hs ≡ tops → interval ≡ f.config.index_interval → p ≡ index_payload hs interval → (PartFits offset p → ⊥) → ClosedTopFits f closed → ⊥
    index_no_fit hs interval p same q is bad fits =
        let text : p ≡ index_payload tops f.config.index_interval = is ∙ ap (λ xs. index_payload xs interval) same ∙ ap (index_payload tops) q in
        bad (subst (PartFits offset) (sym text) (subst (λ n. PartFits n (index_payload tops f.config.index_interval)) (sym w.offset_is) (fits w.texts tops w.files)))

    -- with the index they are a parted table but for its footer
    pub parted_by : (hs : List Handle) (interval : ℕ) (p : List ℕ) (after : Option (List ℕ)) (top : HandleParts) → hs ≡ tops → interval ≡ f.config.index_interval → IsIndexBlock p hs interval → p ≡ index_payload hs interval
        → AppendsTop f.hash128 offset p now after top → AppendsOpenCopies f closed start after top
    parted_by hs interval p after top same q index is t =
        let payload = index_payload tops f.config.index_interval in
        let text : p ≡ payload = is ∙ ap (λ xs. index_payload xs interval) same ∙ ap (index_payload tops) q in
        let o = w.offset_is in
        let at = t.offset_is in (
          joined w.texts ++ frame f.hash128 Meta payload,
          record {
            texts = w.texts;
            tops = tops;
            files = w.files;
            index = subst (λ r. IsIndexBlock r tops f.config.index_interval) text (subst (IsIndexBlock p tops) q (subst (λ xs. IsIndexBlock p xs interval) same index));
            fits = subst (PartFits (length (joined w.texts))) text (subst (λ n. PartFits n p) o t.fits);
            offset = omega arith;
            size = t.size ∙ ap (λ (xs : List ℕ). 33 + length xs) text;
            text = append_assoc (joined w.texts) (frame f.hash128 Meta payload) (footer (top_handles top));
          },
          subst (λ xs. Appends start after (joined w.texts ++ frame f.hash128 Meta xs)) text (Appends-trans start now after (joined w.texts) (frame f.hash128 Meta p) w.bytes t.bytes),
        )

  -- and with that it is one
  pub parted_ended : (parts : List (List (List Entry))) (start now after : Option (List ℕ)) (top : HandleParts) (tail : List ℕ) → AppendsOpen f parts start now top → Appends now after tail → tail ≡ footer (top_handles top) → AppendsParted f parts start after top
  parted_ended parts start now after top tail (bytes, layout, appended) more is = (bytes ++ footer (top_handles top), layout, subst (λ xs. Appends start after (bytes ++ xs)) is (Appends-trans start now after bytes tail appended more))

  pub copies_ended : (closed : List PartOrigin) (start now after : Option (List ℕ)) (top : HandleParts) (tail : List ℕ) → AppendsOpenCopies f closed start now top → Appends now after tail → tail ≡ footer (top_handles top) → AppendsCopies f closed start after top
  copies_ended closed start now after top tail (bytes, layout, appended) more is = (bytes ++ footer (top_handles top), layout, subst (λ xs. Appends start after (bytes ++ xs)) is (Appends-trans start now after bytes tail appended more))
