-- Steps of a scan of a parted table.
use Rattle.std.proofs.Common.{◌≡◌, inl, inr, ℕ, Bool, true, false, List, [], ◌∷◌, ◌++◌, map, reverse, sym, ◌∙◌, ap, subst, append-nil, append_assoc, Option, Some, None, IfSome, Result, Ok, Err}
use Rattle.std.proofs.lemmas.List.{reverse-append, reverse-reverse}
use Rattle.sstable_blocks.specs.Prelude.{Entry, plain, Handle}
use Rattle.sstable_blocks.specs.Results.{Error, BadHandle}
use Rattle.sst_parts.specs.Parts.{IsParted, PartedParts, tops_at}
use Rattle.sst_parts.specs.PartScans.{OpensNext, PartScanParts, ScanEndParts, ScansParted, near_left, parts_left, parts_read}
use Rattle.sstable_blocks.specs.BlockReading.{seen_from}
use Rattle.sstable_blocks.specs.Blocks.{joined}
use Rattle.sstable_blocks.specs.RunReading.{Hashes}
use Rattle.sstable_blocks.specs.Scans.{EndsWith, FailsFirst, GivesFirst, GivesLast, KeyRange, Read, StartsWith, handles_within, within}
use Rattle.sstable_blocks.specs.SourceLaws.{source_fails}

-- what is first in a list is first in a longer one, also where more may fail
fails_more : {P R P' R' : Type 0} (xs ys : List Read) (e : Error) → (P → P') → (R' → R) → FailsFirst P R xs e → FailsFirst P' R' (xs ++ ys) e
fails_more xs ys e grew kept h = λ other. elim (h other) [
  | inl failed ↦ inl (source_fails grew kept (λ (s : StartsWith (Err BadHandle) xs). (s.0 ++ ys, ap (λ zs. zs ++ ys) s.1)) failed)
  | inr is ↦ inr (is.0 ++ ys, ap (λ zs. zs ++ ys) is.1)
]

-- where no entry was taken, none is left
pub gone_by : (old new : List Read) (found : Option Entry) → found ≡ None → GivesFirst ⊥ ⊥ old new (Ok found) → old ≡ []
gone_by old new None is given = given.0
gone_by old new (Some x) is given = cc

-- a part is reached, after all that was opened at this end was taken, and refused
module _ (c : Hashes) (back : Bool) (n0 n n' : ScanEndParts) (ks0 ks : List Handle) (to : n'.range ≡ n.range) (T : Type 0) (ks' : List Handle) (F R : Type 0) (o o' : Option (List ℕ)) (same : o' ≡ o) (gone : seen_from back n.reads ≡ []) where
  reached : (all : List ℕ) (result : Result T Error) (near : List Read) (d : OpensNext c all back F R n'.range ks ks' result near) → near_left c all back n ks ≡ seen_from back d.reads ++ seen_from back (parts_read c all n'.range ks')
  reached all result near d =
      ap (λ q. seen_from back n.reads ++ seen_from back (parts_read c all q ks)) (sym to) ∙ ap (λ zs. zs ++ seen_from back (parts_read c all n'.range ks)) gone ∙ d.parts

  refused_by : (F' R' : Type 0) (p : Option (List ℕ)) (e : Error) (near : List Read) → (F → F') → (R' → R) → IfSome p (λ all. near_left c all back n ks ≡ near_left c all back n0 ks0) → IfSome p (λ all. OpensNext {T = T} c all back F R n'.range ks ks' (Err e) near)
      → IfSome p (λ all. FailsFirst F' R' (near_left c all back n0 ks0) e)
  refused_by F' R' None e near grew kept left d = tt
  refused_by F' R' (Some all) e near grew kept left d =
      subst (λ zs. FailsFirst F' R' zs e) (sym (reached all (Err e) near d) ∙ left) (fails_more (seen_from back d.reads) (seen_from back (parts_read c all n'.range ks')) e grew kept d.opened)

  pub out_refused : (F' R' : Type 0) (e : Error) (near : List Read) → (F → F') → (R' → R) → IfSome o (λ all. near_left c all back n ks ≡ near_left c all back n0 ks0) → IfSome o' (λ all. OpensNext {T = T} c all back F R n'.range ks ks' (Err e) near)
      → IfSome o (λ all. FailsFirst F' R' (near_left c all back n0 ks0) e)
  out_refused F' R' e near grew kept left opens = refused_by F' R' o e near grew kept left (subst (λ p. IfSome p (λ all. OpensNext {T = T} c all back F R n'.range ks ks' (Err e) near)) same opens)

-- an error at the near end is met before what is left at the far end
pub out_error : (F R : Type 0) (old : List ℕ → List Read) (far : List Read) (o : Option (List ℕ)) (e : Error) → IfSome o (λ all. FailsFirst F R (old all) e) → IfSome o (λ all. FailsFirst F R (old all ++ far) e)
out_error F R old far None e given = tt
out_error F R old far (Some all) e given = fails_more (old all) far e (λ p. p) (λ t. t) given

-- ---- the whole of what is left
turned : (front parts back : List Read) → (reverse back ++ reverse parts) ++ reverse front ≡ reverse (front ++ (parts ++ back))
turned front parts back = ap (λ zs. zs ++ reverse front) (sym (reverse-append parts back)) ∙ sym (reverse-append front (parts ++ back))

turned_back : (old new : List Read) (x : Read) → reverse old ≡ x ∷ reverse new → old ≡ new ++ x ∷ []
turned_back old new x h = sym (reverse-reverse old) ∙ ap reverse h ∙ reverse-append (x ∷ []) (reverse new) ∙ ap (λ xs. xs ++ x ∷ []) (reverse-reverse new)

turned_none : (xs : List Read) → reverse xs ≡ [] → xs ≡ []
turned_none xs h = sym (reverse-reverse xs) ∙ ap reverse h

ends_with : (old : List Read) (x : Read) → StartsWith x (reverse old) → EndsWith x old
ends_with old x s = (reverse s.0, turned_back old (reverse s.0) x (s.1 ∙ ap (λ rs. x ∷ rs) (sym (reverse-reverse s.0))))

last_given : (F R : Type 0) (old new : List Read) (result : Result (Option Entry) Error) → GivesFirst F R (reverse old) (reverse new) result → GivesLast F R old new result
last_given F R old new (Ok None) h = (turned_none old h.0, turned_none new h.1)
last_given F R old new (Ok (Some x)) h = turned_back old new (Ok x) h
last_given F R old new (Err e) h = λ other. elim (h other) [
  | inl failed ↦ inl (source_fails (λ p. p) (λ t. t) (λ (s : StartsWith (Err BadHandle) (reverse old)). ends_with old (Err BadHandle) s) failed)
  | inr is ↦ inr (ends_with old (Err e) is)
]

module _ (F R : Type 0) (c : Hashes) (near near' far far' : ScanEndParts) (hs hs' : List Handle) (result : Result (Option Entry) Error) (E : Type 0) where
  -- seen from the front
  pub first_on : (o : Option (List ℕ)) → IfSome o (λ all. GivesFirst F R (near_left c all false near hs ++ seen_from false far.reads) (near_left c all false near' hs' ++ seen_from false far'.reads) result)
      → IfSome o (λ all. E → GivesFirst F R (near.reads ++ (parts_read c all near.range hs ++ far.reads)) (near'.reads ++ (parts_read c all near'.range hs' ++ far'.reads)) result)
  first_on None given = tt
  first_on (Some all) given = λ going.
      subst (λ zs. GivesFirst F R (near.reads ++ (parts_read c all near.range hs ++ far.reads)) zs result) (append_assoc near'.reads (parts_read c all near'.range hs') far'.reads)
      (subst (λ zs. GivesFirst F R zs ((near'.reads ++ parts_read c all near'.range hs') ++ far'.reads) result) (append_assoc near.reads (parts_read c all near.range hs) far.reads) given)

  -- and from the back
  whole_is : (all : List ℕ) (n f : ScanEndParts) (ks : List Handle) → n.range ≡ f.range → near_left c all true n ks ++ seen_from true f.reads ≡ reverse (f.reads ++ (parts_read c all f.range ks ++ n.reads))
  whole_is all n f ks same =
      ap (λ q. (reverse n.reads ++ reverse (parts_read c all q ks)) ++ reverse f.reads) same ∙ turned f.reads (parts_read c all f.range ks) n.reads

  pub last_on : (o : Option (List ℕ)) → near.range ≡ far.range → near'.range ≡ far'.range → IfSome o (λ all. GivesFirst F R (near_left c all true near hs ++ seen_from true far.reads) (near_left c all true near' hs' ++ seen_from true far'.reads) result)
      → IfSome o (λ all. E → GivesLast F R (far.reads ++ (parts_read c all far.range hs ++ near.reads)) (far'.reads ++ (parts_read c all far'.range hs' ++ near'.reads)) result)
  last_on None same same' given = tt
  last_on (Some all) same same' given = λ going.
      last_given F R (far.reads ++ (parts_read c all far.range hs ++ near.reads)) (far'.reads ++ (parts_read c all far'.range hs' ++ near'.reads)) result
      (subst (λ zs. GivesFirst F R (reverse (far.reads ++ (parts_read c all far.range hs ++ near.reads))) zs result) (whole_is all near' far' hs' same')
      (subst (λ zs. GivesFirst F R zs (near_left c all true near' hs' ++ seen_from true far'.reads) result) (whole_is all near far hs same) given))

-- ---- a scan begins
module _ {S : Type 0} (c : Hashes) (of : PartedParts S) (keys : KeyRange) (scan : PartScanParts S) (range : scan.range ≡ keys) (handles : scan.handles ≡ handles_within keys of.tops) (front : scan.front ≡ []) (back : scan.back ≡ []) where
  left_is : (all : List ℕ) → parts_left c all scan ≡ parts_read c all keys (handles_within keys of.tops)
  left_is all =
      ap (λ xs. xs ++ (parts_read c all scan.range scan.handles ++ scan.back)) front ∙ ap (λ xs. parts_read c all scan.range scan.handles ++ xs) back
      ∙ append-nil (parts_read c all scan.range scan.handles) ∙ ap (λ r. parts_read c all r scan.handles) range ∙ ap (parts_read c all keys) handles

  pub begun_sound : (o : Option (List ℕ)) → IfSome o (λ all. tops_at c all of.top ≡ Ok of.tops)
      → ((all : List ℕ) (parts : List (List (List Entry))) → IsParted c parts all of.top → tops_at c all of.top ≡ Ok of.tops → parts_read c all keys (handles_within keys of.tops) ≡ map Ok (within keys (map plain (joined (joined parts)))))
      → IfSome o (ScansParted c of.top scan)
  begun_sound None kept law = tt
  begun_sound (Some all) kept law = λ parts parted.
      left_is all ∙ law all parts parted kept ∙ ap (λ r. map Ok (within r (map plain (joined (joined parts))))) (sym range)
