-- Steps of a merge: the lesser of two first entries is taken, and put into a copier.
use Rattle.std.proofs.Common.{◌≡◌, ℕ, zero, suc, ◌+◌, ◌≤◌, arith, ◌∷◌, [], ◌++◌, true, false, not, List, length, drop, Option, Some, None, Result, Ok, Err, refl, sym, ap, subst, ◌∙◌, append_assoc, append-nil, cond}
use Rattle.std.proofs.lemmas.List.{drop_all}
use Rattle.std.specs.List.{AllZip, slice_get}
use Rattle.std.specs.Option.{IfSome, option_map}
use Rattle.std.specs.Result.{IfOk}
use Rattle.std.specs.Ordering.{is_lt}
use Rattle.sstable_blocks.specs.BlockLaws.{not_false, not_true}
use Rattle.sstable_blocks.specs.Blocks.{joined}
use Rattle.sstable_blocks.specs.Prelude.{Entry, Handle, HandleParts, plain, plain_value}
use Rattle.sstable_blocks.specs.Results.{Error, BadHandle}
use Rattle.sstable_blocks.specs.Opened.{range_of}
use Rattle.sstable_blocks.specs.RunPlaces.{part_in}
use Rattle.sstable_blocks.specs.Scans.{AtHandle, Read}
use Rattle.sstable_blocks.specs.ValueTypes.{Value, Tombstone, WeakTombstone, Indirection}
use Rattle.std.proofs.lemmas.Bool.{le-leb}
use Rattle.sst_sources.specs.Stored.{all_keys, known_reads, scan_list}
use Rattle.sst_sources.specs.StoredLaws.{known_all}
use Rattle.sst_parts.specs.Parts.{IsParted, IsStoredPart, tops_at}
use Rattle.sst_parts.specs.PartScans.{file_reads}
use Rattle.sstable_blocks.specs.RunReading.{Hashes, range_at}
use Rattle.sst_sources.specs.Merge.{entry_cmp}
use Rattle.sst_sources.specs.Sources.{Left, TakesFirst}
use Rattle.sst_parts.specs.PartCopies.{PartsSoFar, end_entry}
use Rattle.sst_parts.specs.PartMerges.{AddsEntries, IsPartBytes, LesserTaken, MergedTo, Merges, MergesTo, TakesLesser, WritesAll, decoded, goes_before, starts_behind}
use Rattle.sst_parts.proofs.Merged.Lists.{decoded-append, first_taken, merges_on, only_taken, part_first, second_taken}
use Rattle.sst_parts.proofs.Merged.Held.{adds_on, adds_same, merges_begun, merges_both, merges_ended, merges_none, merges_part}
use Rattle.sst_parts.proofs.Writing.Joins.{joined-append}

-- a known list, whose first entry was taken
pub record IsRest (x : Entry) (xs : List Entry) (t : Option (List Entry)) : Type 0 where
  pub rest : List Entry
  pub is : t ≡ Some rest
  pub whole : x ∷ rest ≡ xs

pub rest_of : (x : Entry) (xs : List Entry) (t : Option (List Entry)) → ◌≡◌ {A = Option (List Entry)} (Some xs) (option_map (λ zs. x ∷ zs) t) → IsRest x xs t
rest_of x xs None e = absurd (cc)
rest_of x xs (Some ts) e = record { rest = ts; is = refl; whole = cc }

pub first_by : (x : Entry) (xs ys : List Entry) → goes_before (x ∷ xs) ys ≡ true → MergesTo (decoded (x ∷ xs)) (decoded ys) (plain x ∷ []) (decoded xs) (decoded ys)
first_by x xs [] h = absurd (cc)
first_by x xs (y ∷ ys) h = first_taken (plain x) (plain y) (decoded xs) (decoded ys) (not_true (is_lt (entry_cmp y x)) h)

second_by : (y : Entry) (xs ys : List Entry) → goes_before xs (y ∷ ys) ≡ false → MergesTo (decoded xs) (decoded (y ∷ ys)) (plain y ∷ []) (decoded xs) (decoded ys)
second_by y [] ys h = only_taken (plain y) (decoded ys)
second_by y (x ∷ xs) ys h = second_taken (plain x) (plain y) (decoded xs) (decoded ys) (not_false (is_lt (entry_cmp y x)) h)

-- of a first list that goes before the first entry is taken
pub first_step : (x : Entry) (xs ys : List Entry) (t p : Option (List Entry)) → p ≡ Some ys → goes_before xs ys ≡ true → Some xs ≡ option_map (λ zs. x ∷ zs) t → LesserTaken (Some x) xs ys t p
first_step x xs ys t p known before taken =
    let k = rest_of x xs t taken in (
      k.rest,
      ys,
      k.is,
      known,
      subst (λ (zs : List Entry). MergesTo (decoded zs) (decoded ys) (plain x ∷ []) (decoded k.rest) (decoded ys)) k.whole
          (first_by x k.rest ys (subst (λ (zs : List Entry). goes_before zs ys ≡ true) (sym k.whole) before)),
    )

-- of one that does not, that of the second
pub second_step : (y : Entry) (xs ys : List Entry) (n t : Option (List Entry)) → n ≡ Some xs → goes_before xs ys ≡ false → Some ys ≡ option_map (λ zs. y ∷ zs) t → LesserTaken (Some y) xs ys n t
second_step y xs ys n t known before taken =
    let k = rest_of y ys t taken in (
      xs,
      k.rest,
      known,
      k.is,
      subst (λ (zs : List Entry). MergesTo (decoded xs) (decoded zs) (plain y ∷ []) (decoded xs) (decoded k.rest)) k.whole
          (second_by y xs k.rest (subst (λ (zs : List Entry). goes_before xs zs ≡ false) (sym k.whole) before)),
    )

none_before : (xs ys : List Entry) → xs ≡ [] → goes_before xs ys ≡ true → ⊥
none_before [] ys e h = absurd (cc)
none_before (x ∷ xs) ys e h = absurd (cc)

module _ (newer newer' part : Left Entry) where
  first_taken_by : (r : Option Entry) → TakesFirst newer r newer' → ((xs ys : List Entry) → newer.list ≡ Some xs → part.list ≡ Some ys → goes_before xs ys ≡ true) → TakesLesser newer newer' part part r
  first_taken_by None step before = record {
    lesser = λ xs ys n p. absurd (none_before xs ys (subst (λ o. IfSome o (λ zs. zs ≡ [])) n step.1) (before xs ys n p));
    fewer = tt;
  }
  first_taken_by (Some x) step before = record {
    lesser = λ xs ys n p. first_step x xs ys newer'.list part.list p (before xs ys n p) (sym n ∙ step.0);
    fewer = (let less = step.1 in omega (arith, less));
  }

  -- a step of the newer source
  pub first_of : (r : Result (Option Entry) Error) → IfOk r (λ o. TakesFirst newer o newer') → ((xs ys : List Entry) → newer.list ≡ Some xs → part.list ≡ Some ys → goes_before xs ys ≡ true) → IfOk r (TakesLesser newer newer' part part)
  first_of (Err e) step before = tt
  first_of (Ok r) step before = first_taken_by r step before

module _ (newer part part' : Left Entry) where
  second_taken_by : (r : Option Entry) → TakesFirst part r part' → ((xs ys : List Entry) → newer.list ≡ Some xs → part.list ≡ Some ys → goes_before xs ys ≡ false) → TakesLesser newer newer part part' r
  second_taken_by None step before = record {
    lesser = λ xs ys n p. (subst (λ o. IfSome o (λ zs. zs ≡ [])) p step.1, n, step.0 ∙ p);
    fewer = tt;
  }
  second_taken_by (Some y) step before = record {
    lesser = λ xs ys n p. second_step y xs ys newer.list part'.list n (before xs ys n p) (sym p ∙ step.0);
    fewer = (let less = step.1 in omega (arith, less));
  }

  -- a step of the part
  pub second_of : (r : Result (Option Entry) Error) → IfOk r (λ o. TakesFirst part o part') → ((xs ys : List Entry) → newer.list ≡ Some xs → part.list ≡ Some ys → goes_before xs ys ≡ false) → IfOk r (TakesLesser newer newer part part')
  second_of (Err e) step before = tt
  second_of (Ok r) step before = second_taken_by r step before

-- what is left of a part, if that is known, and what was merged so far
abbrev pub MergedSoFar : {W : Type 0} → Hashes → PartsSoFar W → PartsSoFar W → Option (List Entry) → Option (List Entry) → Option (List Entry) → Option (List Entry) → Type 0
MergedSoFar c a b n n' p p' = (xs ys : List Entry) → n ≡ Some xs → p ≡ Some ys → (ys' : List Entry) × (p' ≡ Some ys') × MergedTo c a b xs n' ys ys'

module _ {W : Type 0} (c : Hashes) (a b d : PartsSoFar W) where
  -- one entry more
  pub one_more : (x : Entry) (n n' n'' p p' p'' : Option (List Entry)) → MergedSoFar c a b n n' p p' → ((xs ys : List Entry) → n' ≡ Some xs → p' ≡ Some ys → LesserTaken (Some x) xs ys n'' p'') → AddsEntries c b d (plain x ∷ []) → MergedSoFar c a d n n'' p p''
  one_more x n n' n'' p p' p'' before step added = λ xs ys is at.
      let s = before xs ys is at in
      let k = s.2 in
      let t = step k.left s.0 k.left_is s.1 in (
        t.1,
        t.3,
        record {
          written = k.written ++ plain x ∷ [];
          left = t.0;
          left_is = t.2;
          added = adds_on c a b d k.written (plain x ∷ []) k.added added;
          merged = merges_on (decoded xs) (decoded ys) k.written (decoded k.left) (decoded s.0) (plain x ∷ []) (decoded t.0) (decoded t.1) k.merged t.4;
        },
      )

-- nothing is left of the part
pub part_done : {W : Type 0} (c : Hashes) (a b : PartsSoFar W) (n n' n'' p p' p'' : Option (List Entry)) → MergedSoFar c a b n n' p p' → ((xs ys : List Entry) → n' ≡ Some xs → p' ≡ Some ys → LesserTaken None xs ys n'' p'') → (ys : List Entry) → p ≡ Some ys → Merges c a b n n'' ys []
part_done c a b n n' n'' p p' p'' before step ys at = λ xs is.
    let s = before xs ys is at in
    let k = s.2 in
    let t = step k.left s.0 k.left_is s.1 in
    record {
      written = k.written;
      left = k.left;
      left_is = t.1;
      added = k.added;
      merged = subst (λ (zs : List Entry). MergesTo (decoded xs) (decoded ys) k.written (decoded k.left) (decoded zs)) t.0 k.merged;
    }

-- the part at an index of a parted table, and those after it
pub record IsAt {X Y : Type 0} (R : X → Y → Type 0) (xs : List X) (i : ℕ) (y : Y) : Type 0 where
  pub item : X
  pub related : R item y
  pub rest : drop i xs ≡ item ∷ drop (suc i) xs

pub zip_at : {X Y : Type 0} (R : X → Y → Type 0) (xs : List X) (ys : List Y) (i : ℕ) (y : Y) → AllZip R xs ys → slice_get ys i ≡ Some y → IsAt R xs i y
zip_at R [] [] i y z e = absurd (cc)
zip_at R [] (v ∷ ys) i y z e = absurd z
zip_at R (x ∷ xs) [] i y z e = absurd z
zip_at R (x ∷ xs) (v ∷ ys) zero y z e = let same : v ≡ y = cc in record { item = x; related = subst (R x) same z.0; rest = refl }
zip_at R (x ∷ xs) (v ∷ ys) (suc i) y z e = let k = zip_at R xs ys i y z.1 e in record { item = k.item; related = k.related; rest = k.rest }

zip_length : {X Y : Type 0} (R : X → Y → Type 0) (xs : List X) (ys : List Y) → AllZip R xs ys → length xs ≡ length ys
zip_length R [] [] z = refl
zip_length R [] (y ∷ ys) z = absurd z
zip_length R (x ∷ xs) [] z = absurd z
zip_length R (x ∷ xs) (y ∷ ys) z = ap suc (zip_length R xs ys z.1)

-- the entries of the parts from an index on
abbrev pub from_part : List (List (List Entry)) → ℕ → List Entry
from_part parts i = joined (joined (drop i parts))

module _ {W : Type 0} (c : Hashes) (a b d : PartsSoFar W) (n n' n'' : Option (List Entry)) (parts : List (List (List Entry))) (tops : List Handle) (R : List (List Entry) → Handle → Type 0) where
  -- one part more is merged
  pub next_part : (i : ℕ) (h : Handle) → AllZip R parts tops → slice_get tops i ≡ Some h → Merges c a b n n' (joined (joined parts)) (from_part parts i) → ((part : List (List Entry)) → R part h → Merges c b d n' n'' (joined part) [])
      → Merges c a d n n'' (joined (joined parts)) (from_part parts (i + 1))
  next_part i h zip at before step =
      let k = zip_at R parts tops i h zip at in
      let rest = from_part parts (suc i) in
      let next : suc i ≡ i + 1 = omega arith in
      let whole : from_part parts i ≡ joined k.item ++ rest = ap (λ ps. joined (joined ps)) k.rest ∙ joined-append k.item (joined (drop (suc i) parts)) in
      let more = merges_part c b d n' n'' (joined k.item) rest (step k.item k.related) in
      subst (λ (m : ℕ). Merges c a d n n'' (joined (joined parts)) (from_part parts m)) next
      (merges_both c a b d n n' n'' (joined (joined parts)) (from_part parts i) rest before (subst (λ (zs : List Entry). Merges c b d n' n'' zs rest) (sym whole) more))

  -- all are
  pub all_parts : (i : ℕ) → AllZip R parts tops → length tops ≤ i → Merges c a b n n' (joined (joined parts)) (from_part parts i) → Merges c a b n n' (joined (joined parts)) []
  all_parts i zip end before =
      let many = zip_length R parts tops zip in
      let none : from_part parts i ≡ [] = ap (λ ps. joined (joined ps)) (drop_all i parts (omega (arith, many, end))) in
      subst (λ (zs : List Entry). Merges c a b n n' (joined (joined parts)) zs) none before

-- entries that were taken from a source, if its list is known, are in a copier
pub record Wrote {W : Type 0} (c : Hashes) (a b : PartsSoFar W) (xs : List Entry) (n' : Option (List Entry)) : Type 0 where
  pub taken : List Entry
  pub left : List Entry
  pub whole : taken ++ left ≡ xs
  pub left_is : n' ≡ Some left
  pub added : AddsEntries c a b (decoded taken)

abbrev pub WrittenSoFar : {W : Type 0} → Hashes → PartsSoFar W → PartsSoFar W → Option (List Entry) → Option (List Entry) → Type 0
WrittenSoFar c a b n n' = (xs : List Entry) → n ≡ Some xs → Wrote c a b xs n'

module _ {W : Type 0} (c : Hashes) (a b d : PartsSoFar W) where
  pub wrote_none : (n : Option (List Entry)) → WrittenSoFar c a a n n
  wrote_none n = λ xs is. record { taken = []; left = xs; whole = refl; left_is = is; added = adds_same c a }

  -- one entry more
  pub wrote_more : (x : Entry) (n n' n'' : Option (List Entry)) → WrittenSoFar c a b n n' → n' ≡ option_map (λ zs. x ∷ zs) n'' → AddsEntries c b d (plain x ∷ []) → WrittenSoFar c a d n n''
  wrote_more x n n' n'' before step added = λ xs is.
      let k = before xs is in
      let t = rest_of x k.left n'' (sym k.left_is ∙ step) in
      record {
        taken = k.taken ++ x ∷ [];
        left = t.rest;
        whole = append_assoc k.taken (x ∷ []) t.rest ∙ ap (λ (zs : List Entry). k.taken ++ zs) t.whole ∙ k.whole;
        left_is = t.is;
        added = subst (AddsEntries c a d) (sym (decoded-append k.taken (x ∷ []))) (adds_on c a b d (decoded k.taken) (plain x ∷ []) k.added added);
      }

  -- none is left
  pub wrote_all : (n n' n'' : Option (List Entry)) → WrittenSoFar c a b n n' → n'' ≡ n' → IfSome n' (λ xs. xs ≡ []) → (xs : List Entry) → n ≡ Some xs → WritesAll c a b xs n''
  wrote_all n n' n'' before same none = λ xs is.
      let k = before xs is in
      let empty : k.left ≡ [] = subst (λ o. IfSome o (λ zs. zs ≡ [])) k.left_is none in
      let all : k.taken ≡ xs = sym (append-nil k.taken) ∙ ap (λ (zs : List Entry). k.taken ++ zs) (sym empty) ∙ k.whole in
      record {
        none_left = same ∙ k.left_is ∙ ap Some empty;
        added = subst (λ (zs : List Entry). AddsEntries c a b (decoded zs)) all k.added;
      }

-- what is shown of a known list is its first entry
pub peeked : {X : Type 0} (now : X → Entry) (list : Option (List Entry)) (shown : Option X) (x : X) → IfSome list (λ xs. option_map now shown ≡ slice_get xs 0) → shown ≡ Some x → (xs : List Entry) → list ≡ Some xs → slice_get xs 0 ≡ Some (now x)
peeked now list shown x first is xs known = let at = subst (λ o. IfSome o (λ ys. option_map now shown ≡ slice_get ys 0)) known first in sym at ∙ ap (option_map now) is

pub none_peeked : {X : Type 0} (now : X → Entry) (list : Option (List Entry)) (shown : Option X) → IfSome list (λ xs. option_map now shown ≡ slice_get xs 0) → shown ≡ None → (xs : List Entry) → list ≡ Some xs → slice_get xs 0 ≡ None
none_peeked now list shown first is xs known = let at = subst (λ o. IfSome o (λ ys. option_map now shown ≡ slice_get ys 0)) known first in sym at ∙ ap (option_map now) is

pub no_first : (xs : List Entry) → slice_get xs 0 ≡ None → xs ≡ []
no_first [] e = refl
no_first (x ∷ xs) e = absurd (cc)

-- tests of known lists by their first entries
pub behind_first : (h : Handle) (xs : List Entry) (x : Entry) → slice_get xs 0 ≡ Some x → starts_behind h (x ∷ []) ≡ starts_behind h xs
behind_first h [] x e = absurd (cc)
behind_first h (y ∷ ys) x e = let same : y ≡ x = cc in ap (λ z. is_lt (entry_cmp (end_entry h) z)) (sym same)

pub behind_none : (h : Handle) (xs : List Entry) → slice_get xs 0 ≡ None → starts_behind h xs ≡ true
behind_none h xs e = ap (starts_behind h) (no_first xs e)

pub goes_by : (xs ys : List Entry) (x y : Entry) → slice_get xs 0 ≡ Some x → slice_get ys 0 ≡ Some y → goes_before xs ys ≡ not (is_lt (entry_cmp y x))
goes_by [] ys x y e f = absurd (cc)
goes_by (v ∷ xs) [] x y e f = absurd (cc)
goes_by (v ∷ xs) (w ∷ ys) x y e f = let a : v ≡ x = cc in let b : w ≡ y = cc in ap (λ z. not (is_lt (entry_cmp w z))) a ∙ ap (λ z. not (is_lt (entry_cmp z x))) b

pub goes_not : (xs ys : List Entry) → slice_get xs 0 ≡ None → goes_before xs ys ≡ false
goes_not xs ys e = ap (λ zs. goes_before zs ys) (no_first xs e)

goes_without : (xs : List Entry) → goes_before xs [] ≡ false
goes_without [] = refl
goes_without (x ∷ xs) = refl

pub goes_alone : (xs ys : List Entry) → slice_get ys 0 ≡ None → goes_before xs ys ≡ false
goes_alone xs ys e = ap (goes_before xs) (no_first ys e) ∙ goes_without xs

-- an entry of the newer source is taken before those of a part
pub newer_taken : {W : Type 0} (c : Hashes) (b d : PartsSoFar W) (x : Entry) (n t : Option (List Entry)) (ys : List Entry) → ((xs : List Entry) → n ≡ Some xs → goes_before xs ys ≡ true) → n ≡ option_map (λ zs. x ∷ zs) t → AddsEntries c b d (plain x ∷ []) → Merges c b d n t ys ys
newer_taken c b d x n t ys before taken added = λ xs is.
    let k = rest_of x xs t (sym is ∙ taken) in
    record {
      written = plain x ∷ [];
      left = k.rest;
      left_is = k.is;
      added = added;
      merged = subst (λ (zs : List Entry). MergesTo (decoded zs) (decoded ys) (plain x ∷ []) (decoded k.rest) (decoded ys)) k.whole
          (first_by x k.rest ys (subst (λ (zs : List Entry). goes_before zs ys ≡ true) (sym k.whole) (before xs is)));
    }

-- decoding twice is decoding once
abbrev with_value : Entry → List ℕ → Entry
with_value x v = record { key = x.key; value = v }

plain_twice : (x : Entry) → plain (plain x) ≡ plain x
plain_twice x = ap (with_value x) (elim x.key.value_type as (λ t. plain_value t (plain_value t x.value) ≡ plain_value t x.value) [ Value ↦ refl | Tombstone ↦ refl | WeakTombstone ↦ refl | Indirection ↦ refl ])

pub decoded_twice : (xs : List Entry) → decoded (decoded xs) ≡ decoded xs
decoded_twice [] = refl
decoded_twice (x ∷ xs) = ap (λ y. y ∷ decoded (decoded xs)) (plain_twice x) ∙ ap (λ ys. plain x ∷ ys) (decoded_twice xs)

module _ {W : Type 0} (c : Hashes) (a b : PartsSoFar W) (n n' : Option (List Entry)) (ys zs : List Entry) where
  -- so what is merged of decoded entries is merged of these
  pub merges_plain : Merges c a b n n' (decoded ys) zs → Merges c a b n n' ys zs
  merges_plain m = λ xs is.
      let k = m xs is in
      record {
        written = k.written;
        left = k.left;
        left_is = k.left_is;
        added = k.added;
        merged = subst (λ (vs : List Entry). MergesTo (decoded xs) vs k.written (decoded k.left) (decoded zs)) (decoded_twice ys) k.merged;
      }

module _ {W : Type 0} (c : Hashes) (a b : PartsSoFar W) (n : Option (List Entry)) (part : List (List Entry)) (file : List ℕ) (h : Handle) where
  -- a part is copied whose end is before what is left of the newer source
  pub merges_copied : IsPartBytes c file part h → ((xs : List Entry) → n ≡ Some xs → starts_behind h xs ≡ true) → AddsEntries c a b (decoded (joined part)) → Merges c a b n n (joined part) []
  merges_copied is behind added = λ xs known.
      record {
        written = decoded (joined part);
        left = xs;
        left_is = known;
        added = added;
        merged = part_first xs (joined part) h is.ordered is.end (behind xs known);
      }

  -- the same where its entries were decoded
  pub merges_copied_of : IsPartBytes c file part h → ((xs : List Entry) → n ≡ Some xs → starts_behind h xs ≡ true) → AddsEntries c a b (decoded (joined part)) → Merges c a b n n (decoded (joined part)) []
  merges_copied_of is behind added = λ xs known.
      let k = merges_copied is behind added xs known in
      record {
        written = k.written;
        left = k.left;
        left_is = k.left_is;
        added = k.added;
        merged = subst (λ (vs : List Entry). MergesTo (decoded xs) vs k.written (decoded k.left) []) (sym (decoded_twice (joined part))) k.merged;
      }

-- the bytes in the range of a stored part
bytes_are : (c : Hashes) (all bytes : List ℕ) (part : List (List Entry)) (h : Handle) → IsStoredPart c all part h → range_at all (range_of h) ≡ Ok bytes → part_in all (range_of h) ≡ bytes
unfolding range_at
bytes_are c all bytes part h s read =
    let g = range_of h in
    let found : range_at all g ≡ Ok (part_in all g) = ap (λ b. cond b (Ok (part_in all g)) (Err BadHandle)) (le-leb (g.offset + g.size) (length all) s.inside) in
    let same : ◌≡◌ {A = Result (List ℕ) Error} (Ok (part_in all g)) (Ok bytes) = sym found ∙ read in
    cc

-- what is merged of the bytes of a part is merged of the part of a handle
pub merged_at : (c : Hashes) (o : Option (List ℕ)) (tops : List Handle) (i : ℕ) (h : Handle) (bytes : List ℕ) (M : List (List Entry) → Type 0) → slice_get tops i ≡ Some h → AtHandle o tops i (λ all k. range_at all (range_of k) ≡ Ok bytes)
    → ((all : List ℕ) (part : List (List Entry)) → IsStoredPart c all part h → IsPartBytes c (part_in all (range_of h)) part h) → ((part : List (List Entry)) → IsPartBytes c bytes part h → M part) → IfSome o (λ all. (part : List (List Entry)) → IsStoredPart c all part h → M part)
merged_at c None tops i h bytes M at read law merged = tt
merged_at c (Some all) tops i h bytes M at read law merged = λ part stored.
    merged part (subst (λ (b : List ℕ). IsPartBytes c b part h) (bytes_are c all bytes part h stored (read h at)) (law all part stored))

-- one part more of a table whose bytes may be known
pub each_next : {W : Type 0} (c : Hashes) (a b d : PartsSoFar W) (n n' n'' : Option (List Entry)) (o o' : Option (List ℕ)) (top : HandleParts) (tops : List Handle) (i : ℕ) (h : Handle) → o' ≡ o → slice_get tops i ≡ Some h
    → IfSome o (λ all. (parts : List (List (List Entry))) → IsParted c parts all top → AllZip (IsStoredPart c all) parts tops)
    → IfSome o (λ all. (parts : List (List (List Entry))) → IsParted c parts all top → Merges c a b n n' (joined (joined parts)) (from_part parts i))
    → IfSome o' (λ all. (part : List (List Entry)) → IsStoredPart c all part h → Merges c b d n' n'' (joined part) [])
    → IfSome o (λ all. (parts : List (List (List Entry))) → IsParted c parts all top → Merges c a d n n'' (joined (joined parts)) (from_part parts (i + 1)))
each_next c a b d n n' n'' None o' top tops i h same at zips before step = tt
each_next c a b d n n' n'' (Some all) o' top tops i h same at zips before step = λ parts is.
    let here = subst (λ p. IfSome p (λ all. (part : List (List Entry)) → IsStoredPart c all part h → Merges c b d n' n'' (joined part) [])) same step in
    next_part c a b d n n' n'' parts tops (IsStoredPart c all) i h (zips parts is) at (before parts is) here

pub each_done : {W : Type 0} (c : Hashes) (a b : PartsSoFar W) (n n' : Option (List Entry)) (o : Option (List ℕ)) (top : HandleParts) (tops : List Handle) (i : ℕ) → length tops ≤ i
    → IfSome o (λ all. (parts : List (List (List Entry))) → IsParted c parts all top → AllZip (IsStoredPart c all) parts tops)
    → IfSome o (λ all. (parts : List (List (List Entry))) → IsParted c parts all top → Merges c a b n n' (joined (joined parts)) (from_part parts i))
    → IfSome o (λ all. (parts : List (List (List Entry))) → IsParted c parts all top → Merges c a b n n' (joined (joined parts)) [])
each_done c a b n n' None top tops i end zips before = tt
each_done c a b n n' (Some all) top tops i end zips before = λ parts is. all_parts c a b b n n' n' parts tops (IsStoredPart c all) i (zips parts is) end (before parts is)

-- where the parts of a table are stored, by the handles that are those of its bytes
pub zips_by : (c : Hashes) (o : Option (List ℕ)) (top : HandleParts) (tops : List Handle) → ((parts : List (List (List Entry))) (all : List ℕ) → IsParted c parts all top → tops_at c all top ≡ Ok tops → AllZip (IsStoredPart c all) parts tops) → IfSome o (λ all. tops_at c all top ≡ Ok tops)
    → IfSome o (λ all. (parts : List (List (List Entry))) → IsParted c parts all top → AllZip (IsStoredPart c all) parts tops)
zips_by c None top tops law kept = tt
zips_by c (Some all) top tops law kept = λ parts is. law parts all is kept

-- nothing is merged yet
pub each_none : {W : Type 0} (c : Hashes) (a : PartsSoFar W) (n : Option (List Entry)) (o : Option (List ℕ)) (top : HandleParts) → IfSome o (λ all. (parts : List (List (List Entry))) → IsParted c parts all top → Merges c a a n n (joined (joined parts)) (from_part parts 0))
each_none c a n None top = tt
each_none c a n (Some all) top = λ parts is. merges_none c a n (joined (joined parts))

-- steps that add nothing, before and after
pub each_around : {W : Type 0} (c : Hashes) (a b d e : PartsSoFar W) (n n' : Option (List Entry)) (o : Option (List ℕ)) (top : HandleParts) → AddsEntries c a b [] → AddsEntries c d e []
    → IfSome o (λ all. (parts : List (List (List Entry))) → IsParted c parts all top → Merges c b d n n' (joined (joined parts)) []) → IfSome o (λ all. (parts : List (List (List Entry))) → IsParted c parts all top → Merges c a e n n' (joined (joined parts)) [])
each_around c a b d e n n' None top p q m = tt
each_around c a b d e n n' (Some all) top p q m = λ parts is. merges_begun c a b e n n' (joined (joined parts)) [] p (merges_ended c b d e n n' (joined (joined parts)) [] (m parts is) q)

-- the list of a scan of a part
part_list : (c : Hashes) (file : List ℕ) (part : List (List Entry)) (h : Handle) (reads : List Read) → IsPartBytes c file part h → reads ≡ file_reads c file all_keys → known_reads reads ≡ Some (decoded (joined part))
part_list c file part h reads is same = ap known_reads (same ∙ is.read) ∙ known_all (decoded (joined part))

pub scan_part_list : (c : Hashes) (file : List ℕ) (part : List (List Entry)) (h : Handle) (ended : Option Error) (inner : List ℕ) (reads : List ℕ → List Read) → ended ≡ None → IsPartBytes c file part h → reads inner ≡ file_reads c file all_keys → scan_list ended (Some inner) reads ≡ Some (decoded (joined part))
scan_part_list c file part h ended inner reads going is same = subst (λ o. scan_list o (Some inner) reads ≡ Some (decoded (joined part))) (sym going) (part_list c file part h (reads inner) is same)
