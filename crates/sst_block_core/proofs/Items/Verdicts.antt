-- The checks return what the stages say.
use Rattle.std.proofs.Common.{◌≡◌, ℕ, ◌&&◌, Bool, true, false, eqb, List, length, refl, Result, Err}
use Rattle.std.proofs.lemmas.Bool.{leb-true, le-leb, eqb-true, eq-eqb, and_from, and_parts}
use Rattle.std.specs.Bool.{Decides}
use Rattle.sst_base.specs.Entry.{Entry}
use Rattle.sst_base.specs.Header.{◌>>=◌}
use Rattle.sst_base.specs.declared.error.Error.{Error}
use Rattle.sst_block_core.specs.Trailer.{Trailer, trailer_in}
use Rattle.sst_block_core.specs.Entries.{entries}
use Rattle.sst_block_core.specs.Handles.{Handle, handles, HasIndexParts}
use Rattle.sst_base.specs.Frame.{demand}
use Rattle.sst_block_core.specs.Checks.{data_check, index_check, has_parts, DataVerdict, IndexVerdict}
use Rattle.sst_block_core.proofs.Items.CheckTests.{parts_from, parts_to, decides_forms, decides_in_order, decides_pointers, decides_buckets, decides_ends}

-- a condition: what follows where it holds, and where it does not
demanded : {A : Type 0} {P : Type 0} (V : Result A Error → Type 0) (test : Bool) (e : Error) (f : Unit {0} → Result A Error) → Decides test P → ((P → ⊥) → V (Err e)) → (P → V (f tt)) → V (demand test e >>= f)
demanded V true e f d failed passed = passed (d.0 refl)
demanded V false e f d failed passed = failed (λ h. let k : false ≡ true = d.1 h in cc)

pub data_verdict : (hash64 : List ℕ → ℕ) (p : List ℕ) → DataVerdict hash64 (trailer_in p) p (data_check hash64 p)
unfolding data_check
data_verdict hash64 p =
    let t = trailer_in p in
    let V : Result (List Entry) Error → Type 0 = DataVerdict hash64 t p in
    demanded V _ _ _ (leb-true 31 (length p), le-leb 31 (length p)) (λ failed. failed) (λ a.
    demanded V _ _ _ (parts_from t p, parts_to t p) (λ failed. (a, failed)) (λ b.
    demanded V _ _ _ (decides_forms entries t p) (λ failed. (a, b, failed)) (λ c.
    demanded V _ _ _ (decides_in_order entries t p) (λ failed. (a, b, c, failed)) (λ d.
    demanded V _ _ _ (decides_pointers entries t p) (λ failed. (a, b, c, d, failed)) (λ e.
    demanded V _ _ _ (decides_buckets entries hash64 t p) (λ failed. (a, b, c, d, e, failed)) (λ g.
    (record { encoded = record { trailer = a; parts = b; forms = c; pointers = e; buckets = g }; order = d }, refl)))))))

pub index_parts : (t : Trailer) (p : List ℕ) → Decides (has_parts t p && eqb t.hash_len 0) (HasIndexParts t.interval t p)
index_parts t p = (
  (λ e. let b = and_parts (has_parts t p) (eqb t.hash_len 0) e in
      record { parts = parts_from t p b.0; interval = refl; no_buckets = eqb-true _ _ b.1 }),
  (λ h. and_from (has_parts t p) (eqb t.hash_len 0) (parts_to t p h.parts) (eq-eqb _ _ h.no_buckets)),
)

pub index_verdict : (p : List ℕ) → IndexVerdict (trailer_in p) p (index_check p)
unfolding index_check
index_verdict p =
    let t = trailer_in p in
    let V : Result (List Handle) Error → Type 0 = IndexVerdict t p in
    demanded V _ _ _ (leb-true 31 (length p), le-leb 31 (length p)) (λ failed. failed) (λ a.
    demanded V _ _ _ (index_parts t p) (λ failed. (a, failed)) (λ b.
    demanded V _ _ _ (decides_forms handles t p) (λ failed. (a, b, failed)) (λ c.
    demanded V _ _ _ (decides_ends t p) (λ failed. (a, b, c, failed)) (λ d.
    demanded V _ _ _ (decides_in_order handles t p) (λ failed. (a, b, c, d, failed)) (λ e.
    demanded V _ _ _ (decides_pointers handles t p) (λ failed. (a, b, c, d, e, failed)) (λ g.
    (record { trailer = a; parts = b; forms = c; ends = d; order = e; pointers = g }, refl)))))))
