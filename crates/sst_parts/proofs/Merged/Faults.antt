-- Why merges of parts fail: what a copier refuses is the end of what was written of the merge.
use Rattle.sst_sources.specs.ErrorLaws.{gives_more}
use Rattle.std.proofs.Common.{◌≡◌, ◌+◌, inl, inr, ◌∷◌, [], ◌++◌, ℕ, suc, true, cond, drop, length, List, Option, Some, None, Result, Ok, Err, map, refl, sym, ap, subst, ◌∙◌, append_assoc, append-nil}
use Rattle.std.proofs.lemmas.Bool.{le-leb}
use Rattle.std.specs.List.{AllZip, slice_get}
use Rattle.std.specs.Prelude.{IfErr, IfSome, IsErrOf}
use Rattle.std.specs.Option.{option_map}
use Rattle.sstable_blocks.specs.Blocks.{joined}
use Rattle.sstable_blocks.specs.Opened.{range_of}
use Rattle.sstable_blocks.specs.Prelude.{Entry, Handle, HandleParts, plain}
use Rattle.sstable_blocks.specs.Results.{BadHandle, Error, Io, Memory, TooLong}
use Rattle.sstable_blocks.specs.RunPlaces.{part_in}
use Rattle.sstable_blocks.specs.RunReading.{Hashes, range_at}
use Rattle.sstable_blocks.specs.Scans.{AtHandle, Read}
use Rattle.sstable_blocks.specs.Sources.{FailsAs, IsSourceFailure}
use Rattle.sstable_blocks.specs.Writing.{IsWriteRefusal}
use Rattle.sst_sources.specs.FailureLaws.{is_memory}
use Rattle.sst_sources.specs.Merge.{entry_cmp, merge}
use Rattle.sst_sources.specs.Sources.{IsAmong, Left, MeetsNoMore, before}
use Rattle.sst_sources.specs.Stored.{all_keys, read_errors}
use Rattle.sst_parts.specs.PartCopies.{PartsSoFar}
use Rattle.sst_parts.specs.PartMerges.{AddsEntries, BlockRefused, IsFault, IsPartBytes, IsRefused, IsSameCopier, LesserTaken, MergeFails, MergedTo, Merges, MergesTo, PartRefused, PartsFail, RefusesMerge, RefusesUpTo, WritesAll, WritesFail, decoded, goes_before, starts_behind, with_block}
use Rattle.sst_parts.specs.Parts.{IsParted, IsStoredPart}
use Rattle.sst_parts.specs.PartScans.{file_reads}
use Rattle.sst_parts.proofs.Merged.Held.{adds_on, adds_same, merges_begun, merges_none, same_on}
use Rattle.sst_parts.proofs.Merged.Lists.{decoded-append, part_first}
use Rattle.sst_parts.proofs.Merged.Steps.{MergedSoFar, WrittenSoFar, decoded_twice, first_by, from_part, rest_of, zip_at}
use Rattle.sst_parts.proofs.Writing.Joins.{joined-append}

-- a fault of one writing is one of another
pub fault_map : (never never' : Type 0) (p q : Error → Type 0) (e : Error) → (never' → never) → (p e → q e) → IsFault never p e → IsFault never' q e
fault_map never never' p q e back on (inl m) = inl m
fault_map never never' p q e back on (inr (inl io)) = inr (inl (io.0, λ n. io.1 (back n)))
fault_map never never' p q e back on (inr (inr r)) = inr (inr (on r))

-- a write that was refused, where `Io` is the writer's alone
pub fault_of : {Y : Type 0} (r : Result Y Error) (never long : Type 0) (p : Error → Type 0) → (IsErrOf r Io → never → ⊥) → ((e : Error) → (e ≡ TooLong) × long → p e) → IfErr r (IsWriteRefusal long) → IfErr r (IsFault never p)
fault_of (Ok y) never long p failed on h = tt
fault_of (Err e) never long p failed on (inl io) = inr (inl (io, failed (let same : ◌≡◌ {A = Result _ Error} (Err e) (Err Io) = ap (λ x. Err x) io in same)))
fault_of (Err e) never long p failed on (inr (inl t)) = inr (inr (on e t))
fault_of (Err e) never long p failed on (inr (inr m)) = inl m

-- no more errors, twice
pub meets_on : {X : Type 0} (a b d : Left X) → MeetsNoMore a b → MeetsNoMore b d → MeetsNoMore a d
meets_on a b d p q = λ e m. p e (q e m)

module _ {W : Type 0} (never_fails : W → Type 0) (c : Hashes) (a b : PartsSoFar W) (e : Error) (same : IsSameCopier never_fails a b) where
  -- what is refused after entries that were added
  pub refused_on : (xs ys : List Entry) → AddsEntries c a b xs → IsRefused never_fails c b ys e → IsRefused never_fails c a (xs ++ ys) e
  refused_on xs ys added (inl r) = inl (record {
    reached = r.reached;
    block = r.block;
    same = same_on never_fails a b r.reached same r.same;
    added = adds_on c a b (with_block r.reached r.block) xs ys added r.added;
    why = r.why;
  })
  refused_on xs ys added (inr r) = inr (record {
    reached = r.reached;
    front = xs ++ r.front;
    bytes = r.bytes;
    part = r.part;
    end = r.end;
    same = same_on never_fails a b r.reached same r.same;
    added = adds_on c a b r.reached xs r.front added r.added;
    is_part = r.is_part;
    whole = ap (λ (zs : List Entry). xs ++ zs) r.whole ∙ sym (append_assoc xs r.front (decoded (joined r.part)));
    why = r.why;
  })

  -- of a merge of which some was written
  pub stuck_on : (xs ys ys' : List Entry) (n : Option (List Entry)) (k : MergedTo c a b xs n ys ys') → RefusesMerge never_fails c b k.left ys' e → RefusesMerge never_fails c a xs ys e
  stuck_on xs ys ys' n k s = record {
    front = k.written ++ s.front;
    rest = s.rest;
    begins = λ after. k.merged after ∙ ap (λ (zs : List Entry). k.written ++ zs) (s.begins after) ∙ sym (append_assoc k.written s.front (s.rest after));
    refused = refused_on k.written s.front k.added s.refused;
  }

  -- the same where the next entries are known
  pub stuck_at : (xs ys ys' : List Entry) (n : Option (List Entry)) (k : MergedTo c a b xs n ys ys') (f r l m : List Entry) → MergesTo (decoded k.left) (decoded ys') (f ++ r) l m → IsRefused never_fails c b f e → RefusesMerge never_fails c a xs ys e
  stuck_at xs ys ys' n k f r l m step refused = record {
    front = k.written ++ f;
    rest = λ after. r ++ merge entry_cmp l (m ++ after);
    begins = λ after. k.merged after
        ∙ ap (λ (zs : List Entry). k.written ++ zs) (step after ∙ append_assoc f r (merge entry_cmp l (m ++ after)))
        ∙ sym (append_assoc k.written f (r ++ merge entry_cmp l (m ++ after)));
    refused = refused_on k.written f k.added refused;
  }

  -- a failure of a merge that goes on
  pub fails_on : (may_fail : Error → Type 0) (n n' : Left Entry) (ys ys' : List Entry) → MeetsNoMore n n' → Merges c a b n.list n'.list ys ys' → MergeFails never_fails may_fail c n' b ys' e → MergeFails never_fails may_fail c n a ys e
  fails_on may_fail n n' ys ys' more merges (inl g) = inl (gives_more may_fail n n' e more g)
  fails_on may_fail n n' ys ys' more merges (inr f) =
      inr (fault_map (never_fails b.writer) (never_fails a.writer) (λ e. (xs : List Entry) → n'.list ≡ Some xs → RefusesMerge never_fails c b xs ys' e) (λ e. (xs : List Entry) → n.list ≡ Some xs → RefusesMerge never_fails c a xs ys e) e same.reliable
      (λ s xs is. let k = merges xs is in stuck_on xs ys ys' n'.list k (s k.left k.left_is)) f)

  -- where an entry of the newer source is refused
  pub fails_before : (may_fail : Error → Type 0) (n : Left Entry) (n' n'' : Option (List Entry)) (x : Entry) (ys : List Entry) → Merges c a b n.list n' ys ys → ((xs : List Entry) → n' ≡ Some xs → goes_before xs ys ≡ true) → n' ≡ option_map (λ zs. x ∷ zs) n''
      → IsFault (never_fails b.writer) (IsRefused never_fails c b (plain x ∷ [])) e → MergeFails never_fails may_fail c n a ys e
  fails_before may_fail n n' n'' x ys merges before taken f =
      inr (fault_map (never_fails b.writer) (never_fails a.writer) (IsRefused never_fails c b (plain x ∷ [])) (λ e. (xs : List Entry) → n.list ≡ Some xs → RefusesMerge never_fails c a xs ys e) e same.reliable
      (λ r xs is.
      let k = merges xs is in
      let t = rest_of x k.left n'' (sym k.left_is ∙ taken) in
      let first : MergesTo (decoded k.left) (decoded ys) (plain x ∷ []) (decoded t.rest) (decoded ys) =
      subst (λ (zs : List Entry). MergesTo (decoded zs) (decoded ys) (plain x ∷ []) (decoded t.rest) (decoded ys)) t.whole
      (first_by x t.rest ys (subst (λ (zs : List Entry). goes_before zs ys ≡ true) (sym t.whole) (before k.left k.left_is))) in
      stuck_at xs ys ys n' k (plain x ∷ []) [] (decoded t.rest) (decoded ys) first r) f)

  -- where the lesser of two first entries is
  pub fails_lesser : (may_fail : Error → Type 0) (n : Left Entry) (n' n'' p p' p'' : Option (List Entry)) (x : Entry) (ys : List Entry) → MergedSoFar c a b n.list n' p p' → p ≡ Some ys
      → ((xs ys : List Entry) → n' ≡ Some xs → p' ≡ Some ys → LesserTaken (Some x) xs ys n'' p'')
      → IsFault (never_fails b.writer) (IsRefused never_fails c b (plain x ∷ [])) e → MergeFails never_fails may_fail c n a ys e
  fails_lesser may_fail n n' n'' p p' p'' x ys merges at step f =
      inr (fault_map (never_fails b.writer) (never_fails a.writer) (IsRefused never_fails c b (plain x ∷ [])) (λ e. (xs : List Entry) → n.list ≡ Some xs → RefusesMerge never_fails c a xs ys e) e same.reliable
      (λ r xs is.
      let s = merges xs ys is at in
      let k = s.2 in
      let t = step k.left s.0 k.left_is s.1 in
      stuck_at xs ys s.0 n' k (plain x ∷ []) [] (decoded t.0) (decoded t.1) t.4 r) f)

  -- where a part is whose end is before what is left of the newer source
  pub fails_copied : (may_fail : Error → Type 0) (n : Left Entry) (n' : Option (List Entry)) (ys ys' : List Entry) (file : List ℕ) (part : List (List Entry)) (h : Handle) → Merges c a b n.list n' ys ys' → decoded ys' ≡ decoded (joined part)
      → IsPartBytes c file part h → ((xs : List Entry) → n' ≡ Some xs → starts_behind h xs ≡ true)
      → IsFault (never_fails b.writer) (RefusesUpTo never_fails c b (decoded (joined part))) e → MergeFails never_fails may_fail c n a ys e
  fails_copied may_fail n n' ys ys' file part h merges same_items is behind f =
      inr (fault_map (never_fails b.writer) (never_fails a.writer) (RefusesUpTo never_fails c b (decoded (joined part))) (λ e. (xs : List Entry) → n.list ≡ Some xs → RefusesMerge never_fails c a xs ys e) e same.reliable
      (λ r xs known.
      let k = merges xs known in
      let all : MergesTo (decoded k.left) (decoded (joined part)) (decoded (joined part)) (decoded k.left) [] = part_first k.left (joined part) h is.ordered is.end (behind k.left k.left_is) in
      let step : MergesTo (decoded k.left) (decoded ys') (r.front ++ r.rest) (decoded k.left) [] =
      subst (λ (vs : List Entry). MergesTo (decoded k.left) vs (r.front ++ r.rest) (decoded k.left) []) (sym same_items)
      (subst (λ (vs : List Entry). MergesTo (decoded k.left) (decoded (joined part)) vs (decoded k.left) []) (sym r.whole) all) in
      stuck_at xs ys ys' n' k r.front r.rest (decoded k.left) [] step r.refused) f)

  -- where an entry is of all that are left of a source
  pub fails_left : (may_fail : Error → Type 0) (n : Left Entry) (n' n'' : Option (List Entry)) (x : Entry) → WrittenSoFar c a b n.list n' → n' ≡ option_map (λ zs. x ∷ zs) n''
      → IsFault (never_fails b.writer) (IsRefused never_fails c b (plain x ∷ [])) e → WritesFail never_fails may_fail c n a e
  fails_left may_fail n n' n'' x wrote taken f =
      inr (fault_map (never_fails b.writer) (never_fails a.writer) (IsRefused never_fails c b (plain x ∷ [])) (λ e. (xs : List Entry) → n.list ≡ Some xs → RefusesUpTo never_fails c a (decoded xs) e) e same.reliable
      (λ r xs is.
      let k = wrote xs is in
      let t = rest_of x k.left n'' (sym k.left_is ∙ taken) in
      record {
        front = decoded k.taken ++ plain x ∷ [];
        rest = decoded t.rest;
        whole = append_assoc (decoded k.taken) (plain x ∷ []) (decoded t.rest)
            ∙ ap (λ (zs : List Entry). decoded k.taken ++ decoded zs) t.whole
            ∙ sym (decoded-append k.taken k.left)
            ∙ ap decoded k.whole;
        refused = refused_on (decoded k.taken) (plain x ∷ []) k.added r;
      }) f)

-- what is refused of decoded entries is refused of these
pub fails_plain : {W : Type 0} (never_fails : W → Type 0) (may_fail : Error → Type 0) (c : Hashes) (n : Left Entry) (a : PartsSoFar W) (ys : List Entry) (e : Error) → MergeFails never_fails may_fail c n a (decoded ys) e → MergeFails never_fails may_fail c n a ys e
fails_plain never_fails may_fail c n a ys e (inl g) = inl g
fails_plain never_fails may_fail c n a ys e (inr f) =
    inr (fault_map (never_fails a.writer) (never_fails a.writer) (λ e. (xs : List Entry) → n.list ≡ Some xs → RefusesMerge never_fails c a xs (decoded ys) e) (λ e. (xs : List Entry) → n.list ≡ Some xs → RefusesMerge never_fails c a xs ys e) e (λ r. r)
    (λ s xs is.
    let k = s xs is in
    record {
      front = k.front;
      rest = k.rest;
      begins = λ after. ap (λ (zs : List Entry). merge entry_cmp (decoded xs) (zs ++ after)) (sym (decoded_twice ys)) ∙ k.begins after;
      refused = k.refused;
    }) f)

-- what is refused of the first entries is refused of more
pub fails_more : {W : Type 0} (never_fails : W → Type 0) (may_fail : Error → Type 0) (c : Hashes) (n : Left Entry) (a : PartsSoFar W) (ys zs : List Entry) (e : Error) → MergeFails never_fails may_fail c n a ys e → MergeFails never_fails may_fail c n a (ys ++ zs) e
fails_more never_fails may_fail c n a ys zs e (inl g) = inl g
fails_more never_fails may_fail c n a ys zs e (inr f) =
    inr (fault_map (never_fails a.writer) (never_fails a.writer) (λ e. (xs : List Entry) → n.list ≡ Some xs → RefusesMerge never_fails c a xs ys e) (λ e. (xs : List Entry) → n.list ≡ Some xs → RefusesMerge never_fails c a xs (ys ++ zs) e) e (λ r. r)
    (λ s xs is.
    let k = s xs is in
    record {
      front = k.front;
      rest = λ after. k.rest (decoded zs ++ after);
      begins = λ after. ap (λ (vs : List Entry). merge entry_cmp (decoded xs) (vs ++ after)) (decoded-append ys zs)
          ∙ ap (merge entry_cmp (decoded xs)) (append_assoc (decoded ys) (decoded zs) after)
          ∙ k.begins (decoded zs ++ after);
      refused = k.refused;
    }) f)

-- what a filler has is refused as a block
pub refuses_block : {W : Type 0} (never_fails : W → Type 0) (c : Hashes) (w filler : PartsSoFar W) (block : List Entry) (e : Error) → with_block w block ≡ filler → IsFault (never_fails w.writer) (BlockRefused c w block) e → IsFault (never_fails filler.writer) (IsRefused never_fails c filler []) e
refuses_block never_fails c w filler block e is f =
    subst (λ (v : PartsSoFar _). IsFault (never_fails v.writer) (IsRefused never_fails c v []) e) is
    (fault_map (never_fails w.writer) (never_fails w.writer) (BlockRefused c w block) (IsRefused never_fails c (with_block w block) []) e (λ n. n)
    (λ r. inl (record { reached = w; block = block; same = record { config = refl; sizes = refl; start = refl; reliable = λ n. n }; added = adds_same c (with_block w block); why = r })) f)

pub refuses_first : {W : Type 0} (never_fails : W → Type 0) (c : Hashes) (w : PartsSoFar W) (xs : List Entry) (e : Error) → IsFault (never_fails w.writer) (IsRefused never_fails c w []) e → IsFault (never_fails w.writer) (RefusesUpTo never_fails c w xs) e
refuses_first never_fails c w xs e f =
    fault_map (never_fails w.writer) (never_fails w.writer) (IsRefused never_fails c w []) (RefusesUpTo never_fails c w xs) e (λ n. n) (λ r. record { front = []; rest = xs; whole = refl; refused = r }) f

-- a part is refused after what a filler had
pub refuses_part : {W : Type 0} (never_fails : W → Type 0) (c : Hashes) (filler w : PartsSoFar W) (bytes : List ℕ) (end : Handle) (part : List (List Entry)) (e : Error) → IsSameCopier never_fails filler w → AddsEntries c filler w [] → IsPartBytes c bytes part end
    → IsFault (never_fails w.writer) (PartRefused c w bytes end) e → IsFault (never_fails filler.writer) (RefusesUpTo never_fails c filler (decoded (joined part))) e
refuses_part never_fails c filler w bytes end part e same added is f =
    fault_map (never_fails w.writer) (never_fails filler.writer) (PartRefused c w bytes end) (RefusesUpTo never_fails c filler (decoded (joined part))) e same.reliable
    (λ r. record {
      front = decoded (joined part);
      rest = [];
      whole = append-nil (decoded (joined part));
      refused = inr (record { reached = w; front = []; bytes = bytes; part = part; end = end; same = same; added = added; is_part = is; whole = refl; why = r });
    }) f

-- a failure of a source of frames, which has no range outside, in a longer call
pub source_on : (failed failed' reliable reliable' outside : Type 0) (e : Error) → (failed' → failed) → (reliable → reliable') → (outside → ⊥) → IsSourceFailure failed' reliable' outside e → IsSourceFailure failed reliable ⊥ e
source_on failed failed' reliable reliable' outside e on back inside (f, inl io) = (on f, inl (io.0, λ r. inside (io.1 (back r))))
source_on failed failed' reliable reliable' outside e on back inside (f, inr t) = (on f, inr (t.0, inside t.1))

-- a part that is stored is not read only where the source fails
part_read : (c : Hashes) (all : List ℕ) (part : List (List Entry)) (h : Handle) → IsStoredPart c all part h → range_at all (range_of h) ≡ Ok (part_in all (range_of h))
unfolding range_at
part_read c all part h s =
    let g = range_of h in
    ap (λ b. cond b (Ok (part_in all g)) (Err BadHandle)) (le-leb (g.offset + g.size) (length all) s.inside)

pub part_unread : {W : Type 0} (never_fails : W → Type 0) (may_fail : Error → Type 0) (c : Hashes) (n : Left Entry) (a : PartsSoFar W) (failed reliable : Type 0) (o : Option (List ℕ)) (tops : List Handle) (i : ℕ) (h : Handle) (e : Error) → slice_get tops i ≡ Some h
    → AtHandle o tops i (λ all k. FailsAs {Y = List ℕ} failed reliable (range_at all (range_of k)) e)
    → IfSome o (λ all. (part : List (List Entry)) → IsStoredPart c all part h → PartsFail failed reliable never_fails may_fail c n a (joined part) e)
part_unread never_fails may_fail c n a failed reliable None tops i h e at fails = tt
part_unread never_fails may_fail c n a failed reliable (Some all) tops i h e at fails = λ part stored.
    let read = part_read c all part h stored in
    let ok : (x : Error) → range_at all (range_of h) ≡ Err x → ⊥ = λ x bad. (let two : ◌≡◌ {A = Result (List ℕ) Error} (Ok (part_in all (range_of h))) (Err x) = sym read ∙ bad in cc) in
    elim (is_memory e) [
      | inl m ↦ inr (inl (inl m))
      | inr other ↦ elim (fails h at other) [
        | inl s ↦ inl (source_on failed failed reliable reliable (range_at all (range_of h) ≡ Err BadHandle) e (λ f. f) (λ r. r) (ok BadHandle) s)
        | inr bad ↦ absurd (ok e bad)
      ]
    ]

-- a part fails to be merged, after those before it
pub each_fails : {W : Type 0} (never_fails : W → Type 0) (may_fail : Error → Type 0) (c : Hashes) (a b : PartsSoFar W) (e : Error) (n n' : Left Entry) (failed failed' reliable reliable' : Type 0) (o o' : Option (List ℕ)) (top : HandleParts) (tops : List Handle) (i : ℕ) (h : Handle)
    → IsSameCopier never_fails a b → MeetsNoMore n n' → (failed' → failed) → (reliable → reliable') → o' ≡ o → slice_get tops i ≡ Some h
    → IfSome o (λ all. (parts : List (List (List Entry))) → IsParted c parts all top → AllZip (IsStoredPart c all) parts tops)
    → IfSome o (λ all. (parts : List (List (List Entry))) → IsParted c parts all top → Merges c a b n.list n'.list (joined (joined parts)) (from_part parts i))
    → IfSome o' (λ all. (part : List (List Entry)) → IsStoredPart c all part h → PartsFail failed' reliable' never_fails may_fail c n' b (joined part) e)
    → IfSome o (λ all. (parts : List (List (List Entry))) → IsParted c parts all top → PartsFail failed reliable never_fails may_fail c n a (joined (joined parts)) e)
each_fails never_fails may_fail c a b e n n' failed failed' reliable reliable' None o' top tops i h same more on back keeps at zips before fails = tt
each_fails never_fails may_fail c a b e n n' failed failed' reliable reliable' (Some all) o' top tops i h same more on back keeps at zips before fails = λ parts is.
    let here = subst (λ p. IfSome p (λ all. (part : List (List Entry)) → IsStoredPart c all part h → PartsFail failed' reliable' never_fails may_fail c n' b (joined part) e)) keeps fails in
    let k = zip_at (IsStoredPart c all) parts tops i h (zips parts is) at in
    let rest = from_part parts (suc i) in
    let whole : from_part parts i ≡ joined k.item ++ rest = ap (λ ps. joined (joined ps)) k.rest ∙ joined-append k.item (joined (drop (suc i) parts)) in
    elim (here k.item k.related) [
      | inl s ↦ inl (source_on failed failed' reliable reliable' ⊥ e on back (λ x. x) s)
      | inr m ↦ inr (fails_on never_fails c a b e same may_fail n n' (joined (joined parts)) (from_part parts i) more (before parts is)
          (subst (λ (ys : List Entry). MergeFails never_fails may_fail c n' b ys e) (sym whole) (fails_more never_fails may_fail c n' b (joined k.item) rest e m)))
    ]

-- the parts fail to be merged, before which nothing was added
pub begun_fails : {W : Type 0} (never_fails : W → Type 0) (may_fail : Error → Type 0) (c : Hashes) (a b : PartsSoFar W) (e : Error) (n : Left Entry) (failed reliable : Type 0) (o : Option (List ℕ)) (top : HandleParts)
    → IsSameCopier never_fails a b → AddsEntries c a b []
    → IfSome o (λ all. (parts : List (List (List Entry))) → IsParted c parts all top → PartsFail failed reliable never_fails may_fail c n b (joined (joined parts)) e)
    → IfSome o (λ all. (parts : List (List (List Entry))) → IsParted c parts all top → PartsFail failed reliable never_fails may_fail c n a (joined (joined parts)) e)
begun_fails never_fails may_fail c a b e n failed reliable None top same added fails = tt
begun_fails never_fails may_fail c a b e n failed reliable (Some all) top same added fails = λ parts is. elim (fails parts is) [
  | inl s ↦ inl s
  | inr m ↦ (
      let ys = joined (joined parts) in
      inr (fails_on never_fails c a b e same may_fail n n ys ys (λ x met. met) (merges_begun c a b b n.list n.list ys ys added (merges_none c b n.list ys)) m))
]

-- the last block is refused
pub ended_fails : {W : Type 0} (never_fails : W → Type 0) (may_fail : Error → Type 0) (c : Hashes) (a b d : PartsSoFar W) (e : Error) (n : Left Entry) (n' : Option (List Entry)) (failed reliable : Type 0) (o : Option (List ℕ)) (top : HandleParts)
    → IsSameCopier never_fails a b → IsSameCopier never_fails b d → AddsEntries c a b []
    → IfSome o (λ all. (parts : List (List (List Entry))) → IsParted c parts all top → Merges c b d n.list n' (joined (joined parts)) [])
    → IsFault (never_fails d.writer) (IsRefused never_fails c d []) e
    → IfSome o (λ all. (parts : List (List (List Entry))) → IsParted c parts all top → PartsFail failed reliable never_fails may_fail c n a (joined (joined parts)) e)
ended_fails never_fails may_fail c a b d e n n' failed reliable None top first second added merges f = tt
ended_fails never_fails may_fail c a b d e n n' failed reliable (Some all) top first second added merges f = λ parts is.
    let ys = joined (joined parts) in
    let same = same_on never_fails a b d first second in
    let whole = merges_begun c a b d n.list n' ys [] added (merges parts is) in
    inr (inr (fault_map (never_fails d.writer) (never_fails a.writer) (IsRefused never_fails c d []) (λ e. (xs : List Entry) → n.list ≡ Some xs → RefusesMerge never_fails c a xs ys e) e same.reliable
    (λ r xs known. let k = whole xs known in stuck_at never_fails c a d e same xs ys [] n' k [] [] (decoded k.left) [] (λ after. refl) r) f))

-- an allocation failed
pub memory_fails : {W : Type 0} (never_fails : W → Type 0) (may_fail : Error → Type 0) (c : Hashes) (a : PartsSoFar W) (e : Error) (n : Left Entry) (failed reliable : Type 0) (o : Option (List ℕ)) (top : HandleParts) → e ≡ Memory
    → IfSome o (λ all. (parts : List (List (List Entry))) → IsParted c parts all top → PartsFail failed reliable never_fails may_fail c n a (joined (joined parts)) e)
memory_fails never_fails may_fail c a e n failed reliable None top m = tt
memory_fails never_fails may_fail c a e n failed reliable (Some all) top m = λ parts is. inr (inl (inl m))

-- all that is left of a source fails to be written
pub rest_fails : {W : Type 0} (never_fails : W → Type 0) (may_fail : Error → Type 0) (c : Hashes) (a b : PartsSoFar W) (e : Error) (n : Left Entry) → IsSameCopier never_fails a b → AddsEntries c a b [] → WritesFail never_fails may_fail c n b e → WritesFail never_fails may_fail c n a e
rest_fails never_fails may_fail c a b e n same added (inl g) = inl g
rest_fails never_fails may_fail c a b e n same added (inr f) =
    inr (fault_map (never_fails b.writer) (never_fails a.writer) (λ e. (xs : List Entry) → n.list ≡ Some xs → RefusesUpTo never_fails c b (decoded xs) e) (λ e. (xs : List Entry) → n.list ≡ Some xs → RefusesUpTo never_fails c a (decoded xs) e) e same.reliable
    (λ s xs is. let k = s xs is in record { front = k.front; rest = k.rest; whole = k.whole; refused = refused_on never_fails c a b e same [] k.front added k.refused }) f)

-- or its last block
pub rest_ends : {W : Type 0} (never_fails : W → Type 0) (may_fail : Error → Type 0) (c : Hashes) (a b d : PartsSoFar W) (e : Error) (n : Left Entry) (n' : Option (List Entry)) → IsSameCopier never_fails a b → IsSameCopier never_fails b d → AddsEntries c a b []
    → ((xs : List Entry) → n.list ≡ Some xs → WritesAll c b d xs n') → IsFault (never_fails d.writer) (IsRefused never_fails c d []) e → WritesFail never_fails may_fail c n a e
rest_ends never_fails may_fail c a b d e n n' first second added wrote f =
    let same = same_on never_fails a b d first second in
    inr (fault_map (never_fails d.writer) (never_fails a.writer) (IsRefused never_fails c d []) (λ e. (xs : List Entry) → n.list ≡ Some xs → RefusesUpTo never_fails c a (decoded xs) e) e same.reliable
    (λ r xs is. record {
      front = decoded xs ++ [];
      rest = [];
      whole = append-nil (decoded xs ++ []) ∙ append-nil (decoded xs);
      refused = refused_on never_fails c a d e same (decoded xs) [] (adds_on c a b d [] (decoded xs) added (wrote xs is).added) r;
    }) f)

-- entries that are read are no error
pub not_refused : (xs : List Entry) (reads : List Read) (e : Error) → reads ≡ map Ok xs → reads ≡ Err e ∷ [] → ⊥
not_refused [] reads e ok bad = cc
not_refused (x ∷ xs) reads e ok bad = cc

no_errors : (xs : List Entry) → read_errors (map Ok xs) ≡ []
no_errors [] = refl
no_errors (x ∷ xs) = no_errors xs

-- a scan of a part meets no error
pub scan_part_meets : (c : Hashes) (file : List ℕ) (part : List (List Entry)) (h : Handle) (ended : Option Error) (inner : List ℕ) (reads : List ℕ → List Read) (e : Error) → ended ≡ None → IsPartBytes c file part h → reads inner ≡ file_reads c file all_keys
    → IfSome (option_map (before ended) (option_map (λ all. read_errors (reads all)) (Some inner))) (IsAmong e) → ⊥
scan_part_meets c file part h ended inner reads e going is same met =
    let none : read_errors (reads inner) ≡ [] = ap read_errors (same ∙ is.read) ∙ no_errors (decoded (joined part)) in
    subst (IsAmong e) none (subst (λ (d : Option Error). IsAmong e (before d (read_errors (reads inner)))) going met)
