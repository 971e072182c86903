-- The result of a check, from what is known of its stages.
use Rattle.std.proofs.Common.{◌≡◌, ◌↔◌, ℕ, ◌<◌, ◌^◌, Bool, true, false, List, length, map, refl, sym, ◌∙◌, subst, ap, Result, Ok, Err}
use Rattle.std.specs.Bool.{Decides}
use Rattle.std.proofs.lemmas.Bool.{leb-true, le-leb}
use Rattle.sst_base.specs.Bytes.{IsBytes}
use Rattle.sst_base.specs.Entry.{Entry, IsEntry, plain}
use Rattle.sst_base.specs.Frame.{demand}
use Rattle.sst_base.specs.Header.{◌>>=◌}
use Rattle.sst_base.specs.declared.error.Error.{Error}
use Rattle.sst_base.specs.declared.error.Error.TheVariants.{Truncated, BadTrailer, BadEntry, OutOfOrder, BadIndex, BadHashIndex, BadHandle}
use Rattle.sst_block_core.specs.Trailer.{trailer_in}
use Rattle.sst_block_core.specs.Payload.{IsBlock}
use Rattle.sst_block_core.specs.Stages.{items_in}
use Rattle.sst_block_core.specs.Entries.{entries}
use Rattle.sst_block_core.specs.EntryLaws.{IsKind-entries}
use Rattle.sst_block_core.specs.Handles.{Handle, handles, IndexPasses, IsIndexBlock}
use Rattle.sst_block_core.specs.Checks.{data_check, index_check, DataVerdict, IndexVerdict}
use Rattle.sst_block_core.specs.CanonicalLaws.{block_from, passes_from}
use Rattle.sst_block_core.proofs.Items.IndexBlocks.{index_block_from, index_passes}
use Rattle.sst_block_core.proofs.Items.CheckTests.{parts_from, parts_to, decides_forms, decides_in_order, decides_pointers, decides_buckets, decides_ends}
use Rattle.sst_block_core.proofs.Items.Verdicts.{index_parts, data_verdict, index_verdict}

module _ {A : Type 0} {P : Type 0} where
  -- a condition that holds
  pass : (V : Result A Error → Type 0) (test : Bool) (e : Error) (f : Unit {0} → Result A Error) → Decides test P → P → V (f tt) → V (demand test e >>= f)
  pass V true e f d h k = k
  pass V false e f d h k = let wrong : false ≡ true = d.1 h in cc

  -- and one that does not hold
  stop : (test : Bool) (e : Error) (f : Unit {0} → Result A Error) → Decides test P → (P → ⊥) → (demand test e >>= f) ≡ Err e
  stop true e f d h = absurd (h (d.0 refl))
  stop false e f d h = refl

-- a result that the stages give is the result of the check
pub data_is : (hash64 : List ℕ → ℕ) (p : List ℕ) (answer : Result (List Entry) Error) → DataVerdict hash64 (trailer_in p) p answer → data_check hash64 p ≡ answer
unfolding data_check
data_is hash64 p (Ok items) v =
    let t = trailer_in p in
    let V : Result (List Entry) Error → Type 0 = λ a. a ≡ Ok items in
    let s = v.0.encoded in
    pass V _ _ _ (leb-true 31 (length p), le-leb 31 (length p)) s.trailer
    (pass V _ _ _ (parts_from t p, parts_to t p) s.parts
    (pass V _ _ _ (decides_forms entries t p) s.forms
    (pass V _ _ _ (decides_in_order entries t p) v.0.order
    (pass V _ _ _ (decides_pointers entries t p) s.pointers
    (pass V _ _ _ (decides_buckets entries hash64 t p) s.buckets (ap Ok (sym v.1)))))))
data_is hash64 p (Err Truncated) v = stop _ _ _ (leb-true 31 (length p), le-leb 31 (length p)) v
data_is hash64 p (Err BadTrailer) v =
    let t = trailer_in p in
    let V : Result (List Entry) Error → Type 0 = λ a. a ≡ Err BadTrailer in
    pass V _ _ _ (leb-true 31 (length p), le-leb 31 (length p)) v.0 (stop _ _ _ (parts_from t p, parts_to t p) v.1)
data_is hash64 p (Err BadEntry) v =
    let t = trailer_in p in
    let V : Result (List Entry) Error → Type 0 = λ a. a ≡ Err BadEntry in
    pass V _ _ _ (leb-true 31 (length p), le-leb 31 (length p)) v.0
    (pass V _ _ _ (parts_from t p, parts_to t p) v.1 (stop _ _ _ (decides_forms entries t p) v.2))
data_is hash64 p (Err OutOfOrder) v =
    let t = trailer_in p in
    let V : Result (List Entry) Error → Type 0 = λ a. a ≡ Err OutOfOrder in
    pass V _ _ _ (leb-true 31 (length p), le-leb 31 (length p)) v.0
    (pass V _ _ _ (parts_from t p, parts_to t p) v.1
    (pass V _ _ _ (decides_forms entries t p) v.2 (stop _ _ _ (decides_in_order entries t p) v.3)))
data_is hash64 p (Err BadIndex) v =
    let t = trailer_in p in
    let V : Result (List Entry) Error → Type 0 = λ a. a ≡ Err BadIndex in
    pass V _ _ _ (leb-true 31 (length p), le-leb 31 (length p)) v.0
    (pass V _ _ _ (parts_from t p, parts_to t p) v.1
    (pass V _ _ _ (decides_forms entries t p) v.2
    (pass V _ _ _ (decides_in_order entries t p) v.3 (stop _ _ _ (decides_pointers entries t p) v.4))))
data_is hash64 p (Err BadHashIndex) v =
    let t = trailer_in p in
    let V : Result (List Entry) Error → Type 0 = λ a. a ≡ Err BadHashIndex in
    pass V _ _ _ (leb-true 31 (length p), le-leb 31 (length p)) v.0
    (pass V _ _ _ (parts_from t p, parts_to t p) v.1
    (pass V _ _ _ (decides_forms entries t p) v.2
    (pass V _ _ _ (decides_in_order entries t p) v.3
    (pass V _ _ _ (decides_pointers entries t p) v.4 (stop _ _ _ (decides_buckets entries hash64 t p) v.5)))))
data_is hash64 p (Err _) v = absurd v

-- the same for an index block
pub index_is : (p : List ℕ) (answer : Result (List Handle) Error) → IndexVerdict (trailer_in p) p answer → index_check p ≡ answer
unfolding index_check
index_is p (Ok items) v =
    let t = trailer_in p in
    let V : Result (List Handle) Error → Type 0 = λ a. a ≡ Ok items in
    pass V _ _ _ (leb-true 31 (length p), le-leb 31 (length p)) v.0.trailer
    (pass V _ _ _ (index_parts t p) v.0.parts
    (pass V _ _ _ (decides_forms handles t p) v.0.forms
    (pass V _ _ _ (decides_ends t p) v.0.ends
    (pass V _ _ _ (decides_in_order handles t p) v.0.order
    (pass V _ _ _ (decides_pointers handles t p) v.0.pointers (ap Ok (sym v.1)))))))
index_is p (Err Truncated) v = stop _ _ _ (leb-true 31 (length p), le-leb 31 (length p)) v
index_is p (Err BadTrailer) v =
    let t = trailer_in p in
    let V : Result (List Handle) Error → Type 0 = λ a. a ≡ Err BadTrailer in
    pass V _ _ _ (leb-true 31 (length p), le-leb 31 (length p)) v.0 (stop _ _ _ (index_parts t p) v.1)
index_is p (Err BadEntry) v =
    let t = trailer_in p in
    let V : Result (List Handle) Error → Type 0 = λ a. a ≡ Err BadEntry in
    pass V _ _ _ (leb-true 31 (length p), le-leb 31 (length p)) v.0
    (pass V _ _ _ (index_parts t p) v.1 (stop _ _ _ (decides_forms handles t p) v.2))
index_is p (Err BadHandle) v =
    let t = trailer_in p in
    let V : Result (List Handle) Error → Type 0 = λ a. a ≡ Err BadHandle in
    pass V _ _ _ (leb-true 31 (length p), le-leb 31 (length p)) v.0
    (pass V _ _ _ (index_parts t p) v.1
    (pass V _ _ _ (decides_forms handles t p) v.2 (stop _ _ _ (decides_ends t p) v.3)))
index_is p (Err OutOfOrder) v =
    let t = trailer_in p in
    let V : Result (List Handle) Error → Type 0 = λ a. a ≡ Err OutOfOrder in
    pass V _ _ _ (leb-true 31 (length p), le-leb 31 (length p)) v.0
    (pass V _ _ _ (index_parts t p) v.1
    (pass V _ _ _ (decides_forms handles t p) v.2
    (pass V _ _ _ (decides_ends t p) v.3 (stop _ _ _ (decides_in_order handles t p) v.4))))
index_is p (Err BadIndex) v =
    let t = trailer_in p in
    let V : Result (List Handle) Error → Type 0 = λ a. a ≡ Err BadIndex in
    pass V _ _ _ (leb-true 31 (length p), le-leb 31 (length p)) v.0
    (pass V _ _ _ (index_parts t p) v.1
    (pass V _ _ _ (decides_forms handles t p) v.2
    (pass V _ _ _ (decides_ends t p) v.3
    (pass V _ _ _ (decides_in_order handles t p) v.4 (stop _ _ _ (decides_pointers handles t p) v.5)))))
index_is p (Err _) v = absurd v

-- the check of a data block accepts exactly the encodings
pub data_accepts : (hash64 : List ℕ → ℕ) (p : List ℕ) (items : List Entry) → IsBytes p → length p < 2 ^ 32
    → (data_check hash64 p ≡ Ok items) ↔ ((list : List Entry) × (r : ℕ) × (b : ℕ) × IsBlock entries IsEntry hash64 p list r b × (items ≡ map plain list))
data_accepts hash64 p items bytes room = (
  (λ e.
      let v = subst (DataVerdict hash64 (trailer_in p) p) e (data_verdict hash64 p) in
      let block = block_from entries IsEntry IsKind-entries hash64 p bytes v.0 in
      let again = passes_from entries IsEntry IsKind-entries hash64 p (items_in entries p) (trailer_in p).interval (trailer_in p).hash_len block room in
      (items_in entries p, (trailer_in p).interval, (trailer_in p).hash_len, block, v.1 ∙ again.1)),
  (λ some.
      let again = passes_from entries IsEntry IsKind-entries hash64 p some.0 some.1 some.2 some.3 room in
      data_is hash64 p (Ok items) (again.0, some.4 ∙ sym again.1)),
)

-- so does the check of an index block
pub index_accepts : (p : List ℕ) (items : List Handle) → IsBytes p → length p < 2 ^ 32 → (index_check p ≡ Ok items) ↔ ((r : ℕ) × IsIndexBlock p items r)
index_accepts p items bytes room = (
  (λ e.
      let v = subst (IndexVerdict (trailer_in p) p) e (index_verdict p) in
      let block = index_block_from (trailer_in p).interval p bytes v.0 in
      ((trailer_in p).interval, subst (λ xs. IsIndexBlock p xs (trailer_in p).interval) (sym v.1) block)),
  (λ some.
      let again = index_passes some.0 p items room some.1 in
      index_is p (Ok items) (subst (λ r. IndexPasses r p) (sym again.0.parts.interval) again.0, sym again.1)),
)
