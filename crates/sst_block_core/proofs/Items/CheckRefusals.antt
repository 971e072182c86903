-- The errors of the parts of a check, as the error of the whole check.
use Rattle.std.proofs.Common.{◌≡◌, ◌≢◌, ℕ, List, [], ◌∷◌, length, subst, sym, ap, ◌∙◌, inl, inr, Ok, Err, refl}
use Rattle.std.specs.List.{AllByRecursion}
use Rattle.sst_base.specs.Entry.{Entry, IsEntry}
use Rattle.sst_base.specs.Bytes.{IsBytes}
use Rattle.sst_base.specs.declared.error.Error.{Error}
use Rattle.sst_base.specs.declared.error.Error.TheVariants.{Truncated, BadTrailer, BadEntry, OutOfOrder, BadIndex, BadHashIndex, BadHandle, Memory}
use Rattle.sst_block_core.specs.Trailer.{Trailer, trailer_in}
use Rattle.sst_block_core.specs.Kind.{Kind}
use Rattle.sst_block_core.specs.Payload.{IsBlock}
use Rattle.sst_block_core.specs.Stages.{items_by, items_in, body_in, HasTrailer, HasParts, HasForms, HasOrder, HasPointers, HasBuckets, Passes}
use Rattle.sst_block_core.specs.Entries.{entries}
use Rattle.sst_block_core.specs.EntryLaws.{IsKind-entries}
use Rattle.sst_block_core.specs.Handles.{EndFits, handles, HasIndexParts, IndexPasses, IsIndexBlock}
use Rattle.sst_block_core.specs.Checks.{data_check, index_check}
use Rattle.sst_block_core.specs.Passes.{IsPartsRefusal, IsItemsRefusal, IsPassRefusal}
use Rattle.sst_block_core.specs.CanonicalLaws.{block_from}
use Rattle.sst_block_core.specs.OpeningLaws.{length-items_at}
use Rattle.sst_block_core.proofs.Items.IndexBlocks.{index_block_from}
use Rattle.sst_block_core.proofs.Items.CheckAnswers.{data_is, index_is}

-- every entry fits
abbrev pub Any : Entry → Type 0
Any e = Unit {0}

all_any : (xs : List Entry) → AllByRecursion Any xs
all_any [] = tt
all_any (x ∷ xs) = (tt, all_any xs)

-- what holds of numbers and bytes holds of the trailer and the payload that are equal to them
module _ (t : Trailer) (p q : List ℕ) (t_is : t ≡ trailer_in p) (q_is : q ≡ p) where
  pub moved : (S : Trailer → List ℕ → Type 0) → S t q → S (trailer_in p) p
  moved S h = subst (λ s. S s p) t_is (subst (S t) q_is h)

-- where the forms are encoded, there are as many items as the trailer says
pub items_counted : {X : Type 0} (kind : Kind X) (p : List ℕ) → HasForms kind (trailer_in p) p → (trailer_in p).item_count ≡ length (items_in kind p)
items_counted kind p forms = sym (length-items_at kind (trailer_in p).interval 0 (trailer_in p).item_count [] (body_in (trailer_in p) p) (items_in kind p) [] forms)

module _ (hash64 : List ℕ → ℕ) (p : List ℕ) where
  pub data_parts : (e : Error) → IsPartsRefusal (trailer_in p) p e → data_check hash64 p ≡ Err e
  data_parts Truncated h = data_is hash64 p (Err Truncated) h
  data_parts BadTrailer h = data_is hash64 p (Err BadTrailer) h
  data_parts _ h = absurd h

  module _ (a : HasTrailer p) (b : HasParts (trailer_in p) p) where
    data_items_refused : (e : Error) → IsItemsRefusal entries Any BadEntry (trailer_in p) p e → data_check hash64 p ≡ Err e
    data_items_refused e (inl h) = data_is hash64 p (Err BadEntry) (a, b, h.1) ∙ ap Err (sym h.0)
    data_items_refused e (inr (inl h)) = absurd (h.2 (all_any (items_by entries (trailer_in p) p)))
    data_items_refused e (inr (inr (inl h))) = data_is hash64 p (Err OutOfOrder) (a, b, h.1, h.3) ∙ ap Err (sym h.0)
    data_items_refused e (inr (inr (inr h))) = data_is hash64 p (Err BadIndex) (a, b, h.1, h.3, h.4) ∙ ap Err (sym h.0)

    pub data_refused : (e : Error) → IsPassRefusal entries Any BadEntry hash64 (trailer_in p) p e → e ≢ Memory → data_check hash64 p ≡ Err e
    data_refused e (inl h) other = data_items_refused e h
    data_refused e (inr (inl h)) other = data_is hash64 p (Err BadHashIndex) (a, b, h.1, h.3, h.4, h.5) ∙ ap Err (sym h.0)
    data_refused e (inr (inr h)) other = absurd (other h.0)

    pub data_passes : HasForms entries (trailer_in p) p → HasOrder entries (trailer_in p) p → HasPointers entries (trailer_in p) p → HasBuckets entries hash64 (trailer_in p) p → Passes entries hash64 p
    data_passes c d f g = record { encoded = record { trailer = a; parts = b; forms = c; pointers = f; buckets = g }; order = d }

  pub data_passed : Passes entries hash64 p → data_check hash64 p ≡ Ok (items_in entries p)
  data_passed h = data_is hash64 p (Ok (items_in entries p)) (h, refl)

  pub data_block : IsBytes p → Passes entries hash64 p → IsBlock entries IsEntry hash64 p (items_in entries p) (trailer_in p).interval (trailer_in p).hash_len
  data_block b h = block_from entries IsEntry IsKind-entries hash64 p b h

module _ (p : List ℕ) where
  pub index_parts_refused : (e : Error) → IsPartsRefusal (trailer_in p) p e → index_check p ≡ Err e
  index_parts_refused Truncated h = index_is p (Err Truncated) h
  index_parts_refused BadTrailer h = index_is p (Err BadTrailer) (h.0, λ parts. h.1 parts.parts)
  index_parts_refused _ h = absurd h

  module _ (a : HasTrailer p) where
    pub index_some_buckets : (trailer_in p).hash_len ≢ 0 → index_check p ≡ Err BadTrailer
    index_some_buckets some = index_is p (Err BadTrailer) (a, λ parts. some parts.no_buckets)

    module _ (b : HasParts (trailer_in p) p) (none : (trailer_in p).hash_len ≡ 0) where
      parts : HasIndexParts (trailer_in p).interval (trailer_in p) p
      parts = record { parts = b; interval = refl; no_buckets = none }

      pub index_items : (e : Error) → IsItemsRefusal handles EndFits BadHandle (trailer_in p) p e → index_check p ≡ Err e
      index_items e (inl h) = index_is p (Err BadEntry) (a, parts, h.1) ∙ ap Err (sym h.0)
      index_items e (inr (inl h)) = index_is p (Err BadHandle) (a, parts, h.1, h.2) ∙ ap Err (sym h.0)
      index_items e (inr (inr (inl h))) = index_is p (Err OutOfOrder) (a, parts, h.1, h.2, h.3) ∙ ap Err (sym h.0)
      index_items e (inr (inr (inr h))) = index_is p (Err BadIndex) (a, parts, h.1, h.2, h.3, h.4) ∙ ap Err (sym h.0)

      pub index_passes : HasForms handles (trailer_in p) p → AllByRecursion EndFits (items_by handles (trailer_in p) p) → HasOrder handles (trailer_in p) p → HasPointers handles (trailer_in p) p
          → IndexPasses (trailer_in p).interval p
      index_passes c e d f = record { trailer = a; parts = parts; forms = c; ends = e; order = d; pointers = f }

  pub index_passed : IndexPasses (trailer_in p).interval p → index_check p ≡ Ok (items_in handles p)
  index_passed h = index_is p (Ok (items_in handles p)) (h, refl)

  pub index_block : IsBytes p → IndexPasses (trailer_in p).interval p → IsIndexBlock p (items_in handles p) (trailer_in p).interval
  index_block b h = index_block_from (trailer_in p).interval p b h
