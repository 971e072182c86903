-- Laws of headers: what was written is read again, whatever follows, and what is read was written so.
use Rattle.std.proofs.Common.{◌≡◌, ℕ, ◌%◌, ◌≤◌, ◌^◌, inl, inr, List, [], ◌∷◌, ◌++◌, length, get_or, take, drop, refl, arith, sym, ◌∙◌, ap, subst, Result, Ok, Err, Bool, true, false, nat_eq, ltb, eqb, length-append, length-drop, append_assoc, if◌then◌else◌}
use Rattle.std.proofs.lemmas.Bool.Decides.{nat_tests}
use Rattle.std.proofs.lemmas.Bool.{eqb-true, ltb-false}
use lib.Seq.{take-append_seam}
use Rattle.std.proofs.lemmas.List.{take_at, drop_at, take-append-drop, length-take-le, take_all, append-nil}
use Rattle.std.proofs.lemmas.Nat.{mod_below}
use Rattle.std.specs.Cmp.Lexicographic.{pointwise, same_text}
use Rattle.byteorder.specs.Endian.{little_bytes, little_number}
use Rattle.byteorder.specs.Numbers.{little_number-reads_back, little_from-lt}
use Rattle.sst_base.specs.Bytes.{IsBytes}
use Rattle.sst_base.specs.BytesLaws.{IsBytes-take, IsBytes-drop, little_bytes-little_number_at, little_number-between, take-drop-more}
use Rattle.sst_base.specs.ReadingLaws.{chosen}
use Rattle.sst_base.specs.BlockType.{block_type_byte, block_type_of}
use Rattle.sst_base.specs.Header.{◌>>=◌, magic, header_start, header, IsHeader, bytes_at, magic_at, block_type_at, header_with, header_of, header_at}
use Rattle.sst_base.specs.declared.error.Error.{Error}
use Rattle.sst_base.specs.declared.table.block.block_type.BlockType.{BlockType}
use Rattle.sst_base.specs.declared.table.block.block_type.BlockType.TheVariants.{Data, Index, Filter, Meta}
use Rattle.sst_base.specs.declared.table.block.header.Header.{Header}

-- where a chain of readings returns a value, the first reading does, and so does what follows it
pub bind_ok : {A B : Type 0} (r : Result A Error) (f : A → Result B Error) (y : B) → (r >>= f) ≡ Ok y → (x : A) × (r ≡ Ok x) × (f x ≡ Ok y)
bind_ok (Ok x) f y e = (x, refl, e)
bind_ok (Err d) f y e = cc

-- a choice between a value and an error that returns a value
pub guard_ok : {A : Type 0} (b : Bool) (x y : A) (d : Error) → (if b then Ok x else Err d) ≡ Ok y → (b ≡ true) × (x ≡ y)
guard_ok true x y d e = (refl, cc)
guard_ok false x y d e = cc

pub refuse_ok : {A : Type 0} (b : Bool) (x y : A) (d : Error) → (if b then Err d else Ok x) ≡ Ok y → (b ≡ false) × (x ≡ y)
refuse_ok true x y d e = cc
refuse_ok false x y d e = (refl, cc)

-- a prefix of known length is read
pub bytes_at-append : (n : ℕ) (xs rest : List ℕ) → length xs ≡ n → bytes_at n (xs ++ rest) ≡ Ok (xs, rest)
bytes_at-append n xs rest h =
    let long : n ≤ length (xs ++ rest) = omega (arith, length-append xs rest) in
    let enough : bytes_at n (xs ++ rest) ≡ Ok (take n (xs ++ rest), drop n (xs ++ rest)) = search (arith, nat_tests) in
    enough ∙ ap (λ ys. Ok (ys, drop n (xs ++ rest))) (take_at xs rest n h) ∙ ap (λ ys. Ok (xs, ys)) (drop_at xs rest n h)

pub bytes_at_takes : (n : ℕ) (bytes : List ℕ) (p : List ℕ × List ℕ) → bytes_at n bytes ≡ Ok p → (bytes ≡ p.0 ++ p.1) × (length p.0 ≡ n)
bytes_at_takes n bytes p e =
    let g = refuse_ok (ltb (length bytes) n) (take n bytes, drop n bytes) p _ e in
    subst (λ (q : List ℕ × List ℕ). (bytes ≡ q.0 ++ q.1) × (length q.0 ≡ n)) g.1 (sym (take-append-drop n bytes), length-take-le n bytes (ltb-false _ _ g.0))

pub block_type_of-byte : (t : BlockType) → block_type_of (block_type_byte t) ≡ Ok t
block_type_of-byte Data = refl
block_type_of-byte Index = refl
block_type_of-byte Filter = refl
block_type_of-byte Meta = refl

pub block_type_of_takes : (b : ℕ) (t : BlockType) → block_type_of b ≡ Ok t → b ≡ block_type_byte t
block_type_of_takes b t e = elim (chosen (nat_eq b 0) _ _ _ e) [
  | inl h ↦ (let k : Data ≡ t = cc (h.1) in eqb-true b 0 h.0 ∙ ap block_type_byte k)
  | inr h ↦ elim (chosen (nat_eq b 1) _ _ _ h.1) [
    | inl h ↦ (let k : Index ≡ t = cc (h.1) in eqb-true b 1 h.0 ∙ ap block_type_byte k)
    | inr h ↦ elim (chosen (nat_eq b 2) _ _ _ h.1) [
      | inl h ↦ (let k : Filter ≡ t = cc (h.1) in eqb-true b 2 h.0 ∙ ap block_type_byte k)
      | inr h ↦ elim (chosen (nat_eq b 3) _ _ _ h.1) [
        | inl h ↦ (let k : Meta ≡ t = cc (h.1) in eqb-true b 3 h.0 ∙ ap block_type_byte k)
        | inr h ↦ cc (h.1)
      ]
    ]
  ]
]

magic_at-magic : (rest : List ℕ) → magic_at (magic ++ rest) ≡ Ok (magic, rest)
magic_at-magic rest = rw (bytes_at-append 4 magic rest refl) refl

magic_at_takes : (bytes : List ℕ) (m : List ℕ × List ℕ) → magic_at bytes ≡ Ok m → bytes ≡ magic ++ m.1
magic_at_takes bytes m e =
    let b = bind_ok (bytes_at 4 bytes) _ m e in
    let g = guard_ok (pointwise nat_eq b.0.0 magic) b.0 m _ b.2 in
    (bytes_at_takes 4 bytes b.0 b.1).0 ∙ ap (λ ys. ys ++ b.0.1) (same_text b.0.0 magic (sym g.0)) ∙ ap (λ (q : List ℕ × List ℕ). magic ++ q.1) g.1

block_type_at-byte : (t : BlockType) (rest : List ℕ) → block_type_at (block_type_byte t ∷ rest) ≡ Ok (t, rest)
block_type_at-byte Data rest = rw (bytes_at-append 1 (0 ∷ []) rest refl) refl
block_type_at-byte Index rest = rw (bytes_at-append 1 (1 ∷ []) rest refl) refl
block_type_at-byte Filter rest = rw (bytes_at-append 1 (2 ∷ []) rest refl) refl
block_type_at-byte Meta rest = rw (bytes_at-append 1 (3 ∷ []) rest refl) refl

single : (xs : List ℕ) → length xs ≡ 1 → xs ≡ get_or xs 0 0 ∷ []
single [] h = absurd (omega arith)
single (x ∷ []) h = refl
single (x ∷ y ∷ xs) h = absurd (omega arith)

block_type_at_takes : (bytes : List ℕ) (t : BlockType × List ℕ) → block_type_at bytes ≡ Ok t → bytes ≡ block_type_byte t.0 ∷ t.1
block_type_at_takes bytes t e =
    let b = bind_ok (bytes_at 1 bytes) _ t e in
    let f = bytes_at_takes 1 bytes b.0 b.1 in
    let k = bind_ok (block_type_of (get_or b.0.0 0 0)) _ t b.2 in
    let q : (k.0, b.0.1) ≡ t = cc (k.2) in
    let one : b.0.0 ++ b.0.1 ≡ block_type_byte k.0 ∷ b.0.1 = ap (λ ys. ys ++ b.0.1) (single b.0.0 f.1 ∙ ap (λ z. z ∷ []) (block_type_of_takes _ k.0 k.1)) in
    f.0 ∙ one ∙ ap (λ (p : BlockType × List ℕ). block_type_byte p.0 ∷ p.1) q

-- the fields after the type
fields_of : Header → List ℕ
fields_of h = little_bytes 16 h.checksum ++ (little_bytes 4 h.data_length ++ little_bytes 4 h.uncompressed_length)

length-fields_of : (h : Header) → length (fields_of h) ≡ 24
unfolding fields_of
length-fields_of h = refl

header_with-pieces : (t : BlockType) (c d u : List ℕ) → length c ≡ 16 → length d ≡ 4 → length u ≡ 4 → header_with t (c ++ (d ++ u)) ≡ record { block_type = t; checksum = little_number 16 c; data_length = little_number 4 d; uncompressed_length = little_number 4 u }
header_with-pieces t c d u p q r =
    let a : little_number 16 (c ++ (d ++ u)) ≡ little_number 16 c = little_number-between [] (d ++ u) c 0 16 refl p in
    let b : little_number 4 (drop 16 (c ++ (d ++ u))) ≡ little_number 4 d = little_number-between c u d 16 4 p q in
    let regroup : c ++ (d ++ u) ≡ (c ++ d) ++ (u ++ []) = sym (append_assoc c d u) ∙ ap (λ xs. (c ++ d) ++ xs) (sym (append-nil u)) in
    let e : little_number 4 (drop 20 (c ++ (d ++ u))) ≡ little_number 4 u = ap (λ xs. little_number 4 (drop 20 xs)) regroup ∙ little_number-between (c ++ d) [] u 20 4 (omega (arith, length-append c d)) r in
    λ i. record { block_type = t; checksum = a i; data_length = b i; uncompressed_length = e i }

header_with-fields_of : (h : Header) → IsHeader h → header_with h.block_type (fields_of h) ≡ h
unfolding fields_of
header_with-fields_of h fits =
    let c = little_number-reads_back 16 h.checksum [] fits.checksum in
    let d = little_number-reads_back 4 h.data_length [] fits.data_length in
    let u = little_number-reads_back 4 h.uncompressed_length [] fits.uncompressed_length in
    header_with-pieces h.block_type (little_bytes 16 h.checksum) (little_bytes 4 h.data_length) (little_bytes 4 h.uncompressed_length) refl refl refl
    ∙ (λ i. record { block_type = h.block_type; checksum = c i; data_length = d i; uncompressed_length = u i })

fields_of-header_with : (t : BlockType) (fields : List ℕ) → IsBytes fields → length fields ≡ 24 → fields_of (header_with t fields) ≡ fields
unfolding fields_of
fields_of-header_with t fields b l =
    let c = little_bytes-little_number_at 0 16 fields b (omega arith) in
    let d = little_bytes-little_number_at 16 4 fields b (omega arith) in
    let u = little_bytes-little_number_at 20 4 fields b (omega arith) in
    let last : take 4 (drop 20 fields) ≡ drop 20 fields = take_all 4 (drop 20 fields) (omega (arith, length-drop 20 fields)) in
    (λ i. c i ++ (d i ++ (u ∙ last) i))
    ∙ ap (λ xs. take 16 fields ++ xs) (take-drop-more 16 4 fields)
    ∙ take-append-drop 16 fields

-- the checksum agrees
header_of-equal : (hash128 : List ℕ → ℕ) (t : BlockType) (fields : List ℕ) (expected : ℕ) → hash128 (magic ++ (block_type_byte t ∷ fields)) % 2 ^ 32 ≡ expected → header_of hash128 t fields expected ≡ Ok (header_with t fields)
unfolding header_of
header_of-equal hash128 t fields expected e = search (arith, nat_tests)

header_of_takes : (hash128 : List ℕ → ℕ) (t : BlockType) (fields : List ℕ) (expected : ℕ) (h : Header) → header_of hash128 t fields expected ≡ Ok h → (hash128 (magic ++ (block_type_byte t ∷ fields)) % 2 ^ 32 ≡ expected) × (header_with t fields ≡ h)
unfolding header_of
header_of_takes hash128 t fields expected h e =
    let g = guard_ok (eqb (hash128 (magic ++ (block_type_byte t ∷ fields)) % 2 ^ 32) expected) (header_with t fields) h _ e in
    (eqb-true _ _ g.0, g.1)

-- the start of a header, by its fields
header_start-fields_of : (h : Header) → header_start h ≡ magic ++ (block_type_byte h.block_type ∷ fields_of h)
unfolding header_start fields_of
header_start-fields_of h = refl

header_at-pieces : (hash128 : List ℕ → ℕ) (t : BlockType) (fields sum rest : List ℕ) → length fields ≡ 24 → length sum ≡ 4 → hash128 (magic ++ (block_type_byte t ∷ fields)) % 2 ^ 32 ≡ little_number 4 sum → header_at hash128 (((magic ++ (block_type_byte t ∷ fields)) ++ sum) ++ rest) ≡ Ok (header_with t fields, rest)
unfolding header_at
header_at-pieces hash128 t fields sum rest l k e =
    let m = magic_at-magic (block_type_byte t ∷ ((fields ++ sum) ++ rest)) in
    let b = block_type_at-byte t ((fields ++ sum) ++ rest) in
    let f = bytes_at-append 28 (fields ++ sum) rest (omega (arith, length-append fields sum)) in
    rw (m, b, f, take_at fields sum 24 l, ap (little_number 4) (drop_at fields sum 24 l), header_of-equal hash128 t fields (little_number 4 sum) e) refl

-- the header that is read where one was written, of numbers that may not fit
header_at-fields : (hash128 : List ℕ → ℕ) (h : Header) (rest : List ℕ) → header_at hash128 (header hash128 h ++ rest) ≡ Ok (header_with h.block_type (fields_of h), rest)
unfolding header
header_at-fields hash128 h rest =
    let front = header_start-fields_of h in
    let sum = hash128 (header_start h) % 2 ^ 32 in
    let number : little_number 4 (little_bytes 4 sum) ≡ sum = little_number-reads_back 4 sum [] (mod_below (hash128 (header_start h)) (2 ^ 32) (omega arith)) in
    ap (λ xs. header_at hash128 ((xs ++ little_bytes 4 sum) ++ rest)) front
    ∙ header_at-pieces hash128 h.block_type (fields_of h) (little_bytes 4 sum) rest (length-fields_of h) refl (ap (λ xs. hash128 xs % 2 ^ 32) (sym front) ∙ sym number)

-- has its type
pub header_at-type : (hash128 : List ℕ → ℕ) (h : Header) (rest : List ℕ) → (g : Header) × (header_at hash128 (header hash128 h ++ rest) ≡ Ok (g, rest)) × (g.block_type ≡ h.block_type)
header_at-type hash128 h rest = (header_with h.block_type (fields_of h), header_at-fields hash128 h rest, refl)

-- what was written is read again, whatever follows
pub header_at-header : (hash128 : List ℕ → ℕ) (h : Header) (rest : List ℕ) → IsHeader h → header_at hash128 (header hash128 h ++ rest) ≡ Ok (h, rest)
header_at-header hash128 h rest fits = header_at-fields hash128 h rest ∙ ap (λ k. Ok (k, rest)) (header_with-fields_of h fits)

header-header_with : (hash128 : List ℕ → ℕ) (t : BlockType) (fields sum rest : List ℕ) → IsBytes fields → length fields ≡ 24 → little_bytes 4 (hash128 (magic ++ (block_type_byte t ∷ fields)) % 2 ^ 32) ≡ sum → header hash128 (header_with t fields) ++ rest ≡ magic ++ (block_type_byte t ∷ ((fields ++ sum) ++ rest))
unfolding header
header-header_with hash128 t fields sum rest b l e =
    let front : header_start (header_with t fields) ≡ magic ++ (block_type_byte t ∷ fields) =
    header_start-fields_of (header_with t fields) ∙ ap (λ xs. magic ++ (block_type_byte t ∷ xs)) (fields_of-header_with t fields b l) in
    ap (λ xs. (xs ++ little_bytes 4 (hash128 xs % 2 ^ 32)) ++ rest) front
    ∙ ap (λ xs. ((magic ++ (block_type_byte t ∷ fields)) ++ xs) ++ rest) e

-- the numbers that fields encode fit them
IsHeader-header_with : (t : BlockType) (fields : List ℕ) → IsBytes fields → IsHeader (header_with t fields)
IsHeader-header_with t fields b = record {
  checksum = little_from-lt 0 16 fields b;
  data_length = little_from-lt 0 4 (drop 16 fields) (IsBytes-drop 16 fields b);
  uncompressed_length = little_from-lt 0 4 (drop 20 fields) (IsBytes-drop 20 fields b);
}

-- what is decoded was encoded so
pub header_at_takes : (hash128 : List ℕ → ℕ) (bytes : List ℕ) (h : Header) (rest : List ℕ) → IsBytes (take 28 (drop 5 bytes)) → header_at hash128 bytes ≡ Ok (h, rest) → IsHeader h × (bytes ≡ header hash128 h ++ rest)
unfolding header_at
header_at_takes hash128 bytes h rest small e =
    let m = bind_ok (magic_at bytes) _ _ e in
    let t = bind_ok (block_type_at m.0.1) _ _ m.2 in
    let f = bind_ok (bytes_at 28 t.0.1) _ _ t.2 in
    let tail = f.0.0 in
    let o = bind_ok (header_of hash128 t.0.0 (take 24 tail) (little_number 4 (drop 24 tail))) _ _ f.2 in
    let cut = bytes_at_takes 28 t.0.1 f.0 f.1 in
    let all : bytes ≡ magic ++ (block_type_byte t.0.0 ∷ (tail ++ f.0.1)) =
    magic_at_takes bytes m.0 m.1 ∙ ap (λ ys. magic ++ ys) (block_type_at_takes m.0.1 t.0 t.1 ∙ ap (λ ys. block_type_byte t.0.0 ∷ ys) cut.0) in
    let whole_tail : take 28 (drop 5 bytes) ≡ tail =
    ap (λ ys. take 28 (drop 5 ys)) all ∙ ap (λ n. take n (tail ++ f.0.1)) (sym cut.1) ∙ take-append_seam tail f.0.1 in
    let b : IsBytes tail = subst IsBytes whole_tail small in
    let found = header_of_takes hash128 t.0.0 (take 24 tail) (little_number 4 (drop 24 tail)) o.0 o.1 in
    let l : length (take 24 tail) ≡ 24 = length-take-le 24 tail (omega (arith, cut.1)) in
    let sum : little_bytes 4 (hash128 (magic ++ (block_type_byte t.0.0 ∷ take 24 tail)) % 2 ^ 32) ≡ drop 24 tail =
    ap (little_bytes 4) found.0 ∙ little_bytes-little_number_at 24 4 tail b (omega (arith, cut.1)) ∙ take_all 4 (drop 24 tail) (omega (arith, cut.1, length-drop 24 tail)) in
    let same : (o.0, f.0.1) ≡ (h, rest) = cc (o.2) in (
      subst IsHeader (found.1 ∙ ap (λ (y : Header × List ℕ). y.0) same) (IsHeader-header_with t.0.0 (take 24 tail) (IsBytes-take 24 tail b)),
      all
          ∙ ap (λ ys. magic ++ (block_type_byte t.0.0 ∷ (ys ++ f.0.1))) (sym (take-append-drop 24 tail))
          ∙ sym (header-header_with hash128 t.0.0 (take 24 tail) (drop 24 tail) f.0.1 (IsBytes-take 24 tail b) l sum)
          ∙ ap (λ k. header hash128 k ++ f.0.1) found.1
          ∙ ap (λ (y : Header × List ℕ). header hash128 y.0 ++ y.1) same,
    )

-- a header that is read takes 33 bytes
pub header_at_begins : (hash128 : List ℕ → ℕ) (bytes : List ℕ) (h : Header) (rest : List ℕ) → header_at hash128 bytes ≡ Ok (h, rest) → (33 ≤ length bytes) × (rest ≡ drop 33 bytes)
unfolding header_at
header_at_begins hash128 bytes h rest e =
    let m = bind_ok (magic_at bytes) _ _ e in
    let t = bind_ok (block_type_at m.0.1) _ _ m.2 in
    let f = bind_ok (bytes_at 28 t.0.1) _ _ t.2 in
    let tail = f.0.0 in
    let o = bind_ok (header_of hash128 t.0.0 (take 24 tail) (little_number 4 (drop 24 tail))) _ _ f.2 in
    let cut = bytes_at_takes 28 t.0.1 f.0 f.1 in
    let front = magic ++ (block_type_byte t.0.0 ∷ tail) in
    let all : bytes ≡ front ++ f.0.1 =
    magic_at_takes bytes m.0 m.1 ∙ ap (λ ys. magic ++ ys) (block_type_at_takes m.0.1 t.0 t.1 ∙ ap (λ ys. block_type_byte t.0.0 ∷ ys) cut.0) in
    let len : length front ≡ 33 = omega (arith, cut.1) in
    let same : (o.0, f.0.1) ≡ (h, rest) = cc (o.2) in (
      rw all (omega (arith, len, length-append front f.0.1)),
      sym (ap (λ (y : Header × List ℕ). y.1) same) ∙ sym (drop_at front f.0.1 33 len) ∙ ap (drop 33) (sym all),
    )
