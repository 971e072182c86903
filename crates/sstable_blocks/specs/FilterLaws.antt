-- Laws of filters: what was written is read again, what is read was written so, no inserted hash is hidden, and none is
-- refused as failed input.
use Rattle.std.proofs.Common.{zero, suc, ◌≡◌, ◌≢◌, ◌<◌, ◌≤◌, ℕ, ◌+◌, ◌-◌, ◌*◌, ◌/◌, ◌%◌, ◌^◌, ◌⊎◌, inl, inr, List, [], ◌∷◌, ◌++◌, length, get_or, take, drop, Result, Ok, Err, Bool, true, false, nat_eq, leb, eqb, ltb, not, if◌then◌else◌, sym, ap, subst, ◌∙◌, refl, arith, replicate}
use Rattle.std.specs.List.{Contains}
use Rattle.std.specs.Int.{bit_at}
use Rattle.std.specs.Prelude.{◌↔◌}
use Rattle.std.specs.Cmp.Lexicographic.{pointwise, same_text}
use Rattle.std.proofs.lemmas.Bool.{eqb-true, ltb-false, leb-true, le-ltb, cases_lt}
use Rattle.std.proofs.lemmas.Bool.Decides.{nat_tests}
use Rattle.std.proofs.lemmas.List.{ext_get_or, length-replicate, get_or-replicate, get_or_past}
use Rattle.std.proofs.lemmas.List.Elements.{Contains-append_left, Contains-push, Contains-push_cases}
use Rattle.std.proofs.lemmas.Nat.Bits.{bit_at-zero, same_from_bits_below, bit_at-lt}
use Rattle.byteorder.specs.Endian.{little_bytes, little_number}
use Rattle.byteorder.specs.Numbers.{little_number-reads_back}
use Rattle.sst_base.specs.Bytes.{IsBytes}
use Rattle.sst_base.specs.BytesLaws.{little_bytes-little_number_at, take-drop-more}
use Rattle.sst_base.specs.FrameErrorLaws.{NotIo, not_io_if}
use Rattle.sst_base.specs.Header.{magic}
use Rattle.sst_base.specs.HeaderLaws.{guard_ok}
use Rattle.sst_base.specs.declared.error.Error.{Error}
use Rattle.sst_base.specs.declared.error.Error.TheVariants.{Io, Truncated, InvalidHeader, InvalidTag, BadFilter}
use Rattle.sst_base.specs.declared.error.HeaderName.TheVariants as names
use Rattle.sst_base.specs.declared.error.TagName.TheVariants as tags
use Rattle.sstable_blocks.specs.Bits.{HasBit}
use Rattle.sstable_blocks.specs.Probes.{probe, IsProbe}
use Rattle.sstable_blocks.specs.Filter.{Filter, HasProbes, IsFilterOf, MayContain, is_sized, filter_in, filter_payload, filter_at}
use Rattle.sst_base.specs.TestLaws.{and_parts, not_false}

-- the bit of each probe of an inserted hash is set
pub inserted_may_be_contained : (hashes : List ℕ) (f : Filter) (hash : ℕ) → IsFilterOf hashes f → Contains hashes hash → MayContain f hash
inserted_may_be_contained hashes f hash is has i below = (is.set (probe f.m hash i)).1 (hash, has, (i, below, refl))

-- a byte of zeros is zero
zero_byte : (n i : ℕ) → get_or {A = ℕ} (replicate n 0) i 0 ≡ 0
zero_byte n i = elim (cases_lt i n) [
  | inl less ↦ get_or-replicate n i 0 0 less
  | inr more ↦ get_or_past (replicate n 0) i 0 (rw length-replicate more)
]

-- no bit of zeros is set
zeros_have_no_bit : (n bit : ℕ) → HasBit (replicate n 0) bit → ⊥
zeros_have_no_bit n bit set =
    let none : bit_at (get_or (replicate n 0) (bit / 8) 0) (7 - bit % 8) ≡ 0 = ap (λ q. bit_at q (7 - bit % 8)) (zero_byte n (bit / 8)) ∙ bit_at-zero (7 - bit % 8) in
    absurd (omega (arith, none, set))

-- a filter of zeros is that of no hash
pub none_inserted : (m k n : ℕ) → m ≡ 8 * n → 1 ≤ k → k ≤ m → IsFilterOf [] (record { m = m; k = k; bits = replicate n 0 })
none_inserted m k n e some most = record {
  sized = record { bits = e ∙ ap (λ x. 8 * x) (sym (length-replicate n 0)); some = some; most = most };
  set = λ bit. (λ set. absurd (zeros_have_no_bit n bit set), λ probed. absurd (let h = probed.1.1 in omega arith));
}

-- the filter of one hash more has the bits of its probes more
pub one_inserted : (f g : Filter) (hash : ℕ) → g.m ≡ f.m → g.k ≡ f.k → length g.bits ≡ length f.bits → ((bit : ℕ) → HasBit g.bits bit ↔ (HasBit f.bits bit ⊎ IsProbe f.m f.k hash bit))
    → (hashes : List ℕ) → IsFilterOf hashes f → IsFilterOf (hashes ++ hash ∷ []) g
one_inserted f g hash m k l more hashes is = record {
  sized = let b = is.sized.bits in let s = is.sized.some in let t = is.sized.most in record { bits = omega arith; some = omega arith; most = omega arith };
  set = λ bit. (
    (λ x. elim ((more bit).0 x) [
      | inl old ↦ (let w = (is.set bit).0 old in (w.0, Contains-append_left hashes (hash ∷ []) w.0 w.1, (w.2.0, rw k (w.2.1), w.2.2 ∙ ap (λ q. probe q w.0 w.2.0) (sym m))))
      | inr p ↦ (hash, Contains-push hashes hash, (p.0, rw k (p.1), p.2 ∙ ap (λ q. probe q hash p.0) (sym m)))
    ]),
    (λ y. elim (Contains-push_cases hashes hash y.0 y.1) [
      | inl old ↦ (more bit).1 (inl ((is.set bit).1 (y.0, old, (y.2.0, rw (← k) (y.2.1), y.2.2 ∙ ap (λ q. probe q y.0 y.2.0) m))))
      | inr same ↦ (more bit).1 (inr (y.2.0, rw (← k) (y.2.1), y.2.2 ∙ ap (λ q. probe q y.0 y.2.0) m ∙ ap (λ q. probe f.m q y.2.0) (sym same)))
    ]),
  );
}

-- the test of the numbers holds where they are right
is_sized_of : (f : Filter) → HasProbes f → is_sized f ≡ true
is_sized_of f sized = let b = sized.bits in let s = sized.some in let m = sized.most in search (arith, nat_tests)

-- both sides of a conjunction

-- and only where they are
IsSized_of : (f : Filter) → is_sized f ≡ true → HasProbes f
IsSized_of f e =
    let a = and_parts (eqb f.m (8 * length f.bits)) _ e in
    let b = and_parts (leb 1 f.k) (leb f.k f.m) a.1 in
    record { bits = eqb-true _ _ a.0; some = leb-true _ _ b.0; most = leb-true _ _ b.1 }

-- a payload has 22 bytes more than the bits
pub length-filter_payload : (f : Filter) → length (filter_payload f) ≡ 22 + length f.bits
unfolding filter_payload
length-filter_payload f = omega arith

-- the numbers and bits of a payload
filter_in-payload : (f : Filter) → f.m < 2 ^ 64 → f.k < 2 ^ 64 → filter_in (filter_payload f) ≡ f
unfolding filter_payload
filter_in-payload f m_fits k_fits =
    let m = little_number-reads_back 8 f.m (little_bytes 8 f.k ++ f.bits) m_fits in
    let k = little_number-reads_back 8 f.k f.bits k_fits in
    λ i. record { m = m i; k = k i; bits = f.bits }

-- a choice whose test holds
taken : {A E : Type 0} (b : Bool) (x y : A) (d : E) → b ≡ true → x ≡ y → (if b then Ok x else Err d) ≡ Ok y
taken true x y d e f = ap Ok f
taken false x y d e f = cc

-- what was written is read again
pub filter_at-payload : (f : Filter) → HasProbes f → f.m < 2 ^ 64 → filter_at (filter_payload f) ≡ Ok f
unfolding filter_payload filter_at
filter_at-payload f sized m_fits =
    let k_fits : f.k < 2 ^ 64 = let h = sized.most in omega arith in
    let e = filter_in-payload f m_fits k_fits in
    let long : ltb (length (filter_payload f)) 22 ≡ false = le-ltb _ 22 (omega arith) in
    rw long (taken (is_sized (filter_in (filter_payload f))) _ f _ (ap is_sized e ∙ is_sized_of f sized) e)

-- six bytes and those after them
six_bytes : (bytes : List ℕ) → 22 ≤ length bytes → bytes ≡ take 4 bytes ++ (get_or bytes 4 0 ∷ get_or bytes 5 0 ∷ drop 6 bytes)
six_bytes [] h = absurd (omega arith)
six_bytes (a ∷ []) h = absurd (omega arith)
six_bytes (a ∷ b ∷ []) h = absurd (omega arith)
six_bytes (a ∷ b ∷ c ∷ []) h = absurd (omega arith)
six_bytes (a ∷ b ∷ c ∷ d ∷ []) h = absurd (omega arith)
six_bytes (a ∷ b ∷ c ∷ d ∷ e ∷ []) h = absurd (omega arith)
six_bytes (a ∷ b ∷ c ∷ d ∷ e ∷ f ∷ rest) h = refl

-- the two numbers and the bits after them
two_numbers : (bytes : List ℕ) → IsBytes bytes → 22 ≤ length bytes → drop 6 bytes ≡ little_bytes 8 (little_number 8 (drop 6 bytes)) ++ (little_bytes 8 (little_number 8 (drop 14 bytes)) ++ drop 22 bytes)
two_numbers bytes small h =
    sym (take-drop-more 6 8 bytes) ∙ ap (λ xs. take 8 (drop 6 bytes) ++ xs) (sym (take-drop-more 14 8 bytes))
    ∙ (λ i. sym (little_bytes-little_number_at 6 8 bytes small (omega arith)) i ++ (sym (little_bytes-little_number_at 14 8 bytes small (omega arith)) i ++ drop 22 bytes))

-- bytes with the right first bytes are the payload of what is decoded from them
filter_payload-in : (bytes : List ℕ) → IsBytes bytes → 22 ≤ length bytes → take 4 bytes ≡ magic → get_or bytes 4 0 ≡ 0 → get_or bytes 5 0 ≡ 0 → bytes ≡ filter_payload (filter_in bytes)
unfolding filter_payload
filter_payload-in bytes small h m t u =
    six_bytes bytes h ∙ (λ i. m i ++ (t i ∷ u i ∷ two_numbers bytes small h i))

-- a refusal that did not come
past : {A : Type 0} (b : Bool) (r : Result A Error) (y : A) (d : Error) → (if b then Err d else r) ≡ Ok y → (b ≡ false) × (r ≡ Ok y)
past true r y d e = cc
past false r y d e = (refl, e)

-- what is read is the numbers and the bits of at least 22 bytes
pub filter_at_reads : (bytes : List ℕ) (f : Filter) → filter_at bytes ≡ Ok f → (filter_in bytes ≡ f) × (22 ≤ length bytes) × HasProbes f
unfolding filter_at
filter_at_reads bytes f e =
    let long = past (ltb (length bytes) 22) _ f _ e in
    let named = past (not (pointwise nat_eq (take 4 bytes) magic)) _ f _ long.1 in
    let standard = past (not (nat_eq (get_or bytes 4 0) 0)) _ f _ named.1 in
    let plain = past (not (nat_eq (get_or bytes 5 0) 0)) _ f _ standard.1 in
    let sized = guard_ok (is_sized (filter_in bytes)) (filter_in bytes) f _ plain.1 in
    let some = ltb-false (length bytes) 22 long.0 in
    (sized.1, some, subst HasProbes sized.1 (IsSized_of (filter_in bytes) sized.0))

-- what is read was written so
pub filter_at_takes : (bytes : List ℕ) (f : Filter) → IsBytes bytes → filter_at bytes ≡ Ok f → (bytes ≡ filter_payload f) × HasProbes f
unfolding filter_at
filter_at_takes bytes f small e =
    let long = past (ltb (length bytes) 22) _ f _ e in
    let named = past (not (pointwise nat_eq (take 4 bytes) magic)) _ f _ long.1 in
    let standard = past (not (nat_eq (get_or bytes 4 0) 0)) _ f _ named.1 in
    let plain = past (not (nat_eq (get_or bytes 5 0) 0)) _ f _ standard.1 in
    let sized = guard_ok (is_sized (filter_in bytes)) (filter_in bytes) f _ plain.1 in
    let whole = filter_payload-in bytes small (ltb-false _ _ long.0) (same_text (take 4 bytes) magic (sym (not_false (pointwise nat_eq (take 4 bytes) magic) named.0))) (eqb-true _ _ (not_false (nat_eq (get_or bytes 4 0) 0) standard.0)) (eqb-true _ _ (not_false (nat_eq (get_or bytes 5 0) 0) plain.0)) in
    subst (λ (q : Filter). (bytes ≡ filter_payload q) × HasProbes q) sized.1 (whole, IsSized_of (filter_in bytes) sized.0)

-- numbers below 2 that are 1 together
ones_equal : (m n : ℕ) → m < 2 → n < 2 → ((m ≡ 1) ↔ (n ≡ 1)) → m ≡ n
ones_equal zero zero h k same = refl
ones_equal zero (suc zero) h k same = same.1 refl
ones_equal (suc zero) zero h k same = sym (same.0 refl)
ones_equal (suc zero) (suc zero) h k same = refl
ones_equal (suc (suc m)) n h k same = absurd (omega arith)
ones_equal m (suc (suc n)) h k same = absurd (omega arith)

-- bit t of byte j, counted from the lowest, is equal in both
bits_of_byte_equal : (xs ys : List ℕ) (j t : ℕ) → t < 8 → (HasBit xs (8 * j + (7 - t)) ↔ HasBit ys (8 * j + (7 - t))) → bit_at (get_or xs j 0) t ≡ bit_at (get_or ys j 0) t
bits_of_byte_equal xs ys j t h same =
    let byte : (8 * j + (7 - t)) / 8 ≡ j = omega arith in
    let place : 7 - (8 * j + (7 - t)) % 8 ≡ t = omega arith in
    let at : (zs : List ℕ) → bit_at (get_or zs ((8 * j + (7 - t)) / 8) 0) (7 - (8 * j + (7 - t)) % 8) ≡ bit_at (get_or zs j 0) t =
    λ zs. ap (λ (q : ℕ × ℕ). bit_at (get_or zs q.0 0) q.1) (λ i. (byte i, place i)) in
    ones_equal _ _ (bit_at-lt (get_or xs j 0) t) (bit_at-lt (get_or ys j 0) t) (λ x. sym (at ys) ∙ same.0 (at xs ∙ x), λ y. sym (at xs) ∙ same.1 (at ys ∙ y))

-- bytes with the same bits are the same
bytes_equal : (xs ys : List ℕ) → IsBytes xs → IsBytes ys → length xs ≡ length ys → ((bit : ℕ) → HasBit xs bit ↔ HasBit ys bit) → xs ≡ ys
bytes_equal xs ys c d l same =
    ext_get_or 0 xs ys l (λ j h. same_from_bits_below 8 (get_or xs j 0) (get_or ys j 0) (c j) (d j) (λ t g. bits_of_byte_equal xs ys j t g (same (8 * j + (7 - t)))))

-- the hashes decide the filter
pub filter_unique : (hashes : List ℕ) (f g : Filter) → IsFilterOf hashes f → IsFilterOf hashes g → IsBytes f.bits → IsBytes g.bits → f.m ≡ g.m → f.k ≡ g.k → f ≡ g
filter_unique hashes f g p q c d m k =
    let len : length f.bits ≡ length g.bits = let x = p.sized.bits in let y = q.sized.bits in omega arith in
    let move : (bit : ℕ) → ((hash : ℕ) × Contains hashes hash × IsProbe f.m f.k hash bit) ≡ ((hash : ℕ) × Contains hashes hash × IsProbe g.m g.k hash bit) =
    λ bit. ap (λ (t : ℕ × ℕ). (hash : ℕ) × Contains hashes hash × IsProbe t.0 t.1 hash bit) (λ i. (m i, k i)) in
    let bits = bytes_equal f.bits g.bits c d len (λ bit. (λ x. (q.set bit).1 (subst (λ T. T) (move bit) ((p.set bit).0 x)), λ y. (p.set bit).1 (subst (λ T. T) (sym (move bit)) ((q.set bit).0 y)))) in
    λ i. record { m = m i; k = k i; bits = bits i }

not_io_else : {A : Type 0} (b : Bool) (r : Result A Error) (d : Error) → d ≢ Io → NotIo r → NotIo (if b then Err d else r)
not_io_else true r d h k = h
not_io_else false r d h k = k

-- a filter is never refused as failed input
pub filter_not_io : (bytes : List ℕ) → NotIo (filter_at bytes)
unfolding filter_at
filter_not_io bytes =
    not_io_else (ltb (length bytes) 22) _ Truncated (λ e. cc)
    (not_io_else (not (pointwise nat_eq (take 4 bytes) magic)) _ (InvalidHeader names.BloomFilter) (λ e. cc)
    (not_io_else (not (nat_eq (get_or bytes 4 0) 0)) _ (InvalidTag tags.FilterType (get_or bytes 4 0)) (λ e. cc)
    (not_io_else (not (nat_eq (get_or bytes 5 0) 0)) _ (InvalidTag tags.HashType (get_or bytes 5 0)) (λ e. cc)
    (not_io_if (is_sized (filter_in bytes)) (Ok (filter_in bytes)) BadFilter (λ e. cc) tt))))
