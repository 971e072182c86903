-- Steps of a scan of a parted table over borrowed bytes.
use Rattle.std.proofs.Common.{◌≡◌, ℕ, ◌<◌, ◌≤◌, Bool, true, false, List, [], ◌∷◌, ◌++◌, length, map, reverse, refl, arith, sym, ◌∙◌, ap, subst, append-nil, append_assoc, Option, Some, None, Ok, Err}
use Rattle.std.proofs.lemmas.Bool.{ltb-false}
use Rattle.std.proofs.lemmas.List.{reverse-append, reverse-reverse}
use Rattle.std.specs.Iterator.{YieldsFirst, YieldsLast}
use Rattle.std.specs.List.{slice_get}
use Rattle.std.specs.Option.{option_map}
use Rattle.std.specs.Prelude.{nat_lt}
use Rattle.sstable_blocks.specs.Prelude.{HandleParts, Entry, Handle}
use Rattle.sst_parts.specs.Parts.{PartedParts}
use Rattle.sst_parts.specs.PartScans.{part_reads, parts_read}
use Rattle.sst_parts.specs.RefScans.{UnreachedRefParts, counted_by, left_from, opened_left, unreached_entries}
use Rattle.sstable_blocks.specs.Tallies.{Adds, IsUpTo, Tally, search_cost, tally_by}
use Rattle.sst_parts.proofs.Scanning.Reaching.{next_part}
use Rattle.sstable_blocks.specs.BetweenLaws.{item_found}
use Rattle.sstable_blocks.specs.BlockReading.{seen_from}
use Rattle.sstable_blocks.specs.Ends.{hi_at, index_at, lo_at}
use Rattle.sstable_blocks.specs.Opened.{range_of}
use Rattle.sstable_blocks.specs.RangeReadLaws.{entries_again}
use Rattle.sstable_blocks.specs.RunReading.{Hashes}
use Rattle.sstable_blocks.specs.Scans.{KeyRange, Read, RunScanParts, between, entries_read, handles_within}

-- the handle at an index, by its range
pub at_index : (hs : List Handle) (i : ℕ) (g : HandleParts) → i < length hs → Some g ≡ option_map range_of (slice_get hs i) → (h : Handle) × (slice_get hs i ≡ Some h) × (g ≡ range_of h)
at_index hs i g inside is =
    let h = item_found hs i inside in
    let same : Some g ≡ Some (range_of h.0) = is ∙ ap (option_map range_of) h.1 in
    (h.0, h.1, cc)

pub range_there : (hs : List Handle) (i : ℕ) (h : Handle) (g : HandleParts) → slice_get hs i ≡ Some h → Some g ≡ option_map range_of (slice_get hs i) → g ≡ range_of h
range_there hs i h g here is =
    let same : Some g ≡ Some (range_of h) = is ∙ ap (option_map range_of) here in
    cc

-- the entries of reads, and of those seen from an end
entries_more : (xs ys : List Read) → entries_read (xs ++ ys) ≡ entries_read xs ++ entries_read ys
entries_more [] ys = refl
entries_more (Ok x ∷ xs) ys = ap (λ zs. x ∷ zs) (entries_more xs ys)
entries_more (Err e ∷ xs) ys = entries_more xs ys

entries_turned : (xs : List Read) → entries_read (reverse xs) ≡ reverse (entries_read xs)
entries_turned [] = refl
entries_turned (Ok x ∷ xs) =
    let one : List Read = Ok x ∷ [] in
    ap entries_read (reverse-append one xs) ∙ entries_more (reverse xs) one ∙ ap (λ zs. zs ++ x ∷ []) (entries_turned xs) ∙ sym (reverse-append (x ∷ []) (entries_read xs))
entries_turned (Err e ∷ xs) =
    let one : List Read = Err e ∷ [] in
    ap entries_read (reverse-append one xs) ∙ entries_more (reverse xs) one ∙ append-nil (entries_read (reverse xs)) ∙ entries_turned xs

entries_seen : (back : Bool) (xs : List Read) → entries_read (seen_from back xs) ≡ seen_from back (entries_read xs)
entries_seen false xs = refl
entries_seen true xs = entries_turned xs

-- the entries of the next part, seen from an end, come before those of the parts that are left then
pub next_entries : (c : Hashes) (all : List ℕ) (r : KeyRange) (hs : List Handle) (back : Bool) (lo hi i lo' hi' : ℕ) (opened : List Entry) → lo < hi → hi ≤ length hs → i ≡ index_at back lo hi → lo' ≡ lo_at back lo → hi' ≡ hi_at back hi
    → ((h : Handle) → slice_get hs i ≡ Some h → opened ≡ entries_read (part_reads c all r h))
    → seen_from back (entries_read (parts_read c all r (between hs lo hi))) ≡ seen_from back opened ++ seen_from back (entries_read (parts_read c all r (between hs lo' hi')))
next_entries c all r hs back lo hi i lo' hi' opened less inside at low high is =
    let n = next_part c all r hs back lo hi i lo' hi' less inside at low high in
    let rest = parts_read c all r (between hs lo' hi') in
    sym (entries_seen back (parts_read c all r (between hs lo hi))) ∙ ap entries_read n.2 ∙ entries_more (seen_from back (part_reads c all r n.0)) (seen_from back rest)
    ∙ ap (λ xs. xs ++ entries_read (seen_from back rest)) (entries_seen back (part_reads c all r n.0) ∙ ap (seen_from back) (sym (is n.0 n.1)))
    ∙ ap (λ xs. seen_from back opened ++ xs) (entries_seen back rest)

-- ---- steps, seen from an end
-- parts were reached, and all that was opened was taken: what is left is the same
pub record IsTurned (c : Hashes) (back : Bool) (u0 : UnreachedRefParts) (near0 : Option RunScanParts) (u : UnreachedRefParts) (near : Option RunScanParts) : Type 0 where
  pub table : u.table ≡ u0.table
  pub range : u.range ≡ u0.range
  pub none : seen_from back (opened_left near) ≡ []
  pub left : seen_from back (unreached_entries c u) ≡ seen_from back (unreached_entries c u0)
  pub looked : Adds (counted_by near0 u0 None) (counted_by near u None) 0

-- where no part is left between the ends, the part of the other end is all
far_taken : (x : Option Entry) (near middle far far' : List Entry) → near ≡ [] → middle ≡ [] → YieldsFirst (λ xs. xs) far x far' → YieldsFirst (λ xs. xs) (near ++ (middle ++ far)) x far'
far_taken None near middle far far' none empty h = (ap (λ xs. xs ++ (middle ++ far)) none ∙ ap (λ xs. xs ++ far) empty ∙ h.0, h.1)
far_taken (Some x) near middle far far' none empty h = ap (λ xs. xs ++ (middle ++ far)) none ∙ ap (λ xs. xs ++ far) empty ∙ h

pub end_taken : (back : Bool) (x : Option Entry) (near middle middle' far far' : List Entry) → seen_from back near ≡ [] → seen_from back middle' ≡ seen_from back middle → middle' ≡ [] → YieldsFirst (seen_from back) far x far'
    → YieldsFirst (λ xs. xs) (seen_from back near ++ (seen_from back middle ++ seen_from back far)) x (seen_from back [] ++ (seen_from back middle' ++ seen_from back far'))
end_taken true x near middle middle' far far' none same empty h =
    let is : reverse middle' ≡ [] = ap reverse empty in
    subst (λ ys. YieldsFirst (λ xs. xs) (reverse near ++ (reverse middle ++ reverse far)) x (ys ++ reverse far')) (sym is) (far_taken x (reverse near) (reverse middle) (reverse far) (reverse far') none (sym same ∙ is) h)
end_taken false x near middle middle' far far' none same empty h =
    subst (λ ys. YieldsFirst (λ xs. xs) (near ++ (middle ++ far)) x (ys ++ far')) (sym empty) (far_taken x near middle far far' none (sym same ∙ empty) h)

-- no part is left
pub none_unreached : (c : Hashes) (u : UnreachedRefParts) → nat_lt 0 (length u.handles) ≡ false → unreached_entries c u ≡ []
none_unreached c u none = ap (λ hs. entries_read (parts_read c u.table.source u.range hs)) (no_handles u.handles none) where
  no_handles : (hs : List Handle) → nat_lt 0 (length hs) ≡ false → hs ≡ []
  no_handles [] none = refl
  no_handles (h ∷ hs) none = let few = ltb-false 0 (length (h ∷ hs)) none in absurd (omega arith)

-- what is left, seen from the back: the last entry is the first one there
left_turned : (front middle back : List Entry) → reverse back ++ (reverse middle ++ reverse front) ≡ reverse (front ++ (middle ++ back))
left_turned front middle back =
    sym (append_assoc (reverse back) (reverse middle) (reverse front)) ∙ ap (λ xs. xs ++ reverse front) (sym (reverse-append middle back)) ∙ sym (reverse-append front (middle ++ back))

last_taken : (old new : List Entry) (x : Option Entry) → YieldsFirst (λ xs. xs) (reverse old) x (reverse new) → YieldsLast (λ xs. xs) old x new
last_taken old new None h = (sym (reverse-reverse old) ∙ ap reverse h.0, sym (reverse-reverse new) ∙ ap reverse h.1)
last_taken old new (Some x) h =
    sym (reverse-reverse old) ∙ ap reverse h ∙ reverse-append (x ∷ []) (reverse new) ∙ ap (λ xs. xs ++ x ∷ []) (reverse-reverse new)

pub last_left : (c : Hashes) (front front' back back' : Option RunScanParts) (u u' : UnreachedRefParts) (x : Option Entry) → YieldsFirst (λ xs. xs) (left_from c true back u front) x (left_from c true back' u' front')
    → YieldsLast (λ xs. xs) (left_from c false front u back) x (left_from c false front' u' back')
last_left c front front' back back' u u' x h =
    let old = left_from c false front u back in
    let new = left_from c false front' u' back' in
    let turned = left_turned (opened_left front) (unreached_entries c u) (opened_left back) in
    let turned' = left_turned (opened_left front') (unreached_entries c u') (opened_left back') in
    last_taken old new x
    (subst (λ ys. YieldsFirst (λ xs. xs) (reverse old) x ys) turned'
    (subst (λ ys. YieldsFirst (λ xs. xs) ys x (left_from c true back' u' front')) turned h))

-- a scan begins
pub fresh_left : (c : Hashes) (of : PartedParts (List ℕ)) (keys : KeyRange) (u : UnreachedRefParts) (items : List Entry) → u.table ≡ of → u.range ≡ keys → u.handles ≡ handles_within keys of.tops → parts_read c of.source keys (handles_within keys of.tops) ≡ map Ok items
    → left_from c false None u None ≡ items
fresh_left c of keys u items table range handles law =
    append-nil (unreached_entries c u)
    ∙ ap (λ (t : PartedParts (List ℕ)). entries_read (parts_read c t.source u.range u.handles)) table ∙ ap (λ r. entries_read (parts_read c of.source r u.handles)) range ∙ ap (λ hs. entries_read (parts_read c of.source keys hs)) handles
    ∙ ap entries_read law ∙ entries_again items

-- nothing was counted in parts, where none was opened
pub none_opened : (u : UnreachedRefParts) (most : Tally) → IsUpTo (tally_by u.steps) most → IsUpTo (counted_by None u None) most
none_opened u most up = (let heads = up.heads in let entries = up.entries in let due = up.due in record { heads = omega arith; entries = omega arith; due = omega arith })
