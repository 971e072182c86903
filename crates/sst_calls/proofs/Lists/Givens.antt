-- Entries as C gives them.
use Rattle.std.proofs.Common.{◌≡◌, ◌<◌, ℕ, zero, suc, List, [], ◌∷◌, map, refl, sym, ◌∙◌, ap, arith, Some, slice_index_or, length}
use Rattle.std.specs.List.{AllByRecursion}
use Rattle.sstable_blocks.specs.Prelude.{Entry, value_type_byte, value_type_of}
use Rattle.sstable_blocks.specs.BlockLaws.{value_type_of-byte}
use Rattle.sstable_blocks.specs.ValueTypes.{ValueType}
use Rattle.sst_calls.specs.Given.{Parts, parts_given, entry_parts, AreGiven, IsGiven}
use Rattle.sst_calls.specs.declared.entries.SstEntry.{SstEntry}

-- an entry is the one of its parts
pub same_entry : (a b : Entry) → entry_parts a ≡ entry_parts b → a ≡ b
same_entry a b same =
    let byte : value_type_byte a.key.value_type ≡ value_type_byte b.key.value_type = ap (λ (p : Parts). p.byte) same in
    let types : Some a.key.value_type ≡ Some b.key.value_type = sym (value_type_of-byte a.key.value_type) ∙ ap value_type_of byte ∙ value_type_of-byte b.key.value_type in
    let key : a.key.user_key ≡ b.key.user_key = ap (λ (p : Parts). p.key) same in
    let value : a.value ≡ b.value = ap (λ (p : Parts). p.value) same in
    let seqno : a.key.seqno ≡ b.key.seqno = ap (λ (p : Parts). p.seqno) same in
    let value_type : a.key.value_type ≡ b.key.value_type = cc in
    let entry : List ℕ → ℕ → ValueType → List ℕ → Entry = λ k s t v. record { key = record { user_key = k; seqno = s; value_type = t }; value = v } in
    ap (λ k. entry k a.key.seqno a.key.value_type a.value) key ∙ ap (λ s. entry b.key.user_key s a.key.value_type a.value) seqno
    ∙ ap (λ t. entry b.key.user_key b.key.seqno t a.value) value_type ∙ ap (λ v. entry b.key.user_key b.key.seqno b.key.value_type v) value

pub same_entries : (xs ys : List Entry) → map entry_parts xs ≡ map entry_parts ys → xs ≡ ys
same_entries [] [] same = refl
same_entries [] (y ∷ ys) same = cc
same_entries (x ∷ xs) [] same = cc
same_entries (x ∷ xs) (y ∷ ys) same =
    let first : entry_parts x ≡ entry_parts y = cc (same) in
    let others : map entry_parts xs ≡ map entry_parts ys = cc (same) in
    let front = same_entry x y first in
    let rest = same_entries xs ys others in
    cc

-- each of the entries given is one
pub each_given : (gs : List SstEntry) (items : List Entry) → AreGiven gs items → AllByRecursion (λ g. (e : Entry) × IsGiven g e) gs
each_given [] items are = tt
each_given (x ∷ gs) [] are = absurd (let s = are.1 in cc)
each_given (x ∷ gs) (e ∷ items) are =
    let first : entry_parts e ≡ parts_given x = let s = are.1 in cc in
    let others : map entry_parts items ≡ map parts_given gs = let s = are.1 in cc in
    ((e, (are.0.0, first)), each_given gs items (are.0.1, others))

-- what holds of each element holds of the one at an index
pub at_index : {X : Type 0} (P : X → Type 0) (xs : List X) (i : ℕ) (other : X) → i < length xs → AllByRecursion P xs → P (slice_index_or xs i other)
at_index P [] i other less all = absurd (omega (arith, less))
at_index P (x ∷ xs) zero other less all = all.0
at_index P (x ∷ xs) (suc i) other less all = at_index P xs i other (omega (arith, less)) all.1
