-- Merges of two lists, where a part of the second one is followed by whatever comes after it.
use Rattle.std.proofs.Common.{◌≡◌, ◌≢◌, true, false, List, [], ◌∷◌, ◌++◌, refl, sym, ap, subst, ◌∙◌, append_assoc, inl, inr}
use Rattle.std.proofs.lemmas.Bool.{cases_Bool}
use Rattle.std.proofs.lemmas.Cmp.{tied_itself}
use Rattle.std.proofs.lemmas.List.{map-append}
use Rattle.std.specs.Cmp.{IsTotalOrder}
use Rattle.std.specs.List.{AllByRecursion}
use Rattle.std.specs.Ordering.{is_lt}
use Rattle.std.specs.declared.cmp.Ordering.TheVariants.{Less, Equal}
use Rattle.sstable_blocks.specs.BlockLaws.{lt_is, not_lt, versions_cmp_total}
use Rattle.sstable_blocks.specs.Prelude.{Entry, Handle, IsInOrder, IsOrdered, entries, handles, plain}
use Rattle.sstable_blocks.specs.Lookup.{IsEnd}
use Rattle.sst_sources.specs.Merge.{entry_cmp, merge}
use Rattle.sst_sources.specs.MergeLaws.{merge-first, merge-second}
use Rattle.sst_sources.specs.MergeReads.{ge_trans}
use Rattle.sst_parts.specs.PartCopies.{end_entry}
use Rattle.sst_parts.specs.PartMerges.{MergesTo, decoded, starts_behind}

entry_order : IsTotalOrder entry_cmp
entry_order = versions_cmp_total entries.key entries.seqno

-- one step after the other
pub merges_on : (xs ys w xs' ys' v xs'' ys'' : List Entry) → MergesTo xs ys w xs' ys' → MergesTo xs' ys' v xs'' ys'' → MergesTo xs ys (w ++ v) xs'' ys''
merges_on xs ys w xs' ys' v xs'' ys'' a b = λ after. a after ∙ ap (λ zs. w ++ zs) (b after) ∙ sym (append_assoc w v (merge entry_cmp xs'' (ys'' ++ after)))

-- what comes after may be more of the second list
pub merges_more : (xs ys w xs' zs : List Entry) → MergesTo xs ys w xs' [] → MergesTo xs (ys ++ zs) w xs' zs
merges_more xs ys w xs' zs a = λ after. ap (merge entry_cmp xs) (append_assoc ys zs after) ∙ a (zs ++ after)

-- of the first entries the lesser, and of equal ones that of the first list
pub first_taken : (x y : Entry) (xs ys : List Entry) → is_lt (entry_cmp y x) ≡ false → MergesTo (x ∷ xs) (y ∷ ys) (x ∷ []) xs (y ∷ ys)
first_taken x y xs ys h = λ after. merge-first entry_cmp x y xs (ys ++ after) h

pub second_taken : (x y : Entry) (xs ys : List Entry) → is_lt (entry_cmp y x) ≡ true → MergesTo (x ∷ xs) (y ∷ ys) (y ∷ []) (x ∷ xs) ys
second_taken x y xs ys h = λ after. merge-second entry_cmp x y xs (ys ++ after) h

pub only_taken : (y : Entry) (ys : List Entry) → MergesTo [] (y ∷ ys) (y ∷ []) [] ys
only_taken y ys = λ after. refl

-- a list all of which sorts before the first of the other comes first
all_first : (x : Entry) (xs ys : List Entry) → AllByRecursion (λ (y : Entry). is_lt (entry_cmp y x) ≡ true) ys → MergesTo (x ∷ xs) ys ys (x ∷ xs) []
all_first x xs [] h = λ after. refl
all_first x xs (y ∷ ys) h = λ after. merge-second entry_cmp x y xs (ys ++ after) h.0 ∙ ap (λ zs. y ∷ zs) (all_first x xs ys h.1 after)

-- no entry of an ordered list sorts after its last one
up_to_last : (front : List Entry) (last : Entry) → IsInOrder entry_cmp (front ++ last ∷ []) → AllByRecursion (λ (y : Entry). entry_cmp last y ≢ Less) (front ++ last ∷ [])
up_to_last [] last h = ((λ l. let f : Equal ≡ Less = sym (tied_itself entry_order last) ∙ l in absurd (cc)), tt)
up_to_last (y ∷ []) last h = (h.0, up_to_last [] last tt)
up_to_last (y ∷ z ∷ zs) last h =
    let r = up_to_last (z ∷ zs) last h.1 in
    (ge_trans entry_cmp entry_order last z y r.0 h.0, r)

before_all : (last x : Entry) (ys : List Entry) → entry_cmp last x ≡ Less → AllByRecursion (λ (y : Entry). entry_cmp last y ≢ Less) ys → AllByRecursion (λ (y : Entry). is_lt (entry_cmp y x) ≡ true) ys
before_all last x [] less h = tt
before_all last x (y ∷ ys) less h = (
  elim (cases_Bool (is_lt (entry_cmp y x))) [
    | inl lt ↦ lt
    | inr more ↦ absurd (ge_trans entry_cmp entry_order last y x h.0 (not_lt (entry_cmp y x) more) less)
  ],
  before_all last x ys less h.1,
)

-- decoding changes no key and no number
decoded_before : (x : Entry) (ys : List Entry) → AllByRecursion (λ (y : Entry). is_lt (entry_cmp y x) ≡ true) ys → AllByRecursion (λ (y : Entry). is_lt (entry_cmp y (plain x)) ≡ true) (decoded ys)
decoded_before x [] h = tt
decoded_before x (y ∷ ys) h = (h.0, decoded_before x ys h.1)

end_cmp : (h : Handle) (ys : List Entry) (x : Entry) (e : IsEnd entries handles ys h) → entry_cmp e.last x ≡ entry_cmp (end_entry h) x
end_cmp h ys x e = let k = e.key in let n = e.seqno in cc

-- a part comes first whose end is before the first entry of the other list
pub part_first : (xs ys : List Entry) (h : Handle) → IsOrdered entries ys → IsEnd entries handles ys h → starts_behind h xs ≡ true → MergesTo (decoded xs) (decoded ys) (decoded ys) (decoded xs) []
part_first [] ys h ordered end behind = λ after. refl
part_first (x ∷ xs) ys h ordered end behind =
    let less : entry_cmp end.last x ≡ Less = end_cmp h ys x end ∙ lt_is (entry_cmp (end_entry h) x) behind in
    let up : AllByRecursion (λ (y : Entry). entry_cmp end.last y ≢ Less) ys =
    subst (AllByRecursion (λ (y : Entry). entry_cmp end.last y ≢ Less)) (sym end.whole) (up_to_last end.front end.last (subst (λ (zs : List Entry). IsInOrder entry_cmp zs) end.whole ordered)) in
    all_first (plain x) (decoded xs) (decoded ys) (decoded_before x ys (before_all end.last x ys less up))

pub decoded-append : (xs ys : List Entry) → decoded (xs ++ ys) ≡ decoded xs ++ decoded ys
decoded-append xs ys = map-append plain xs ys
