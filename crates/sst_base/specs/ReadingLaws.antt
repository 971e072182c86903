-- Laws of reading: what was written is read again, whatever follows, and what is read was written so.
use Rattle.std.proofs.Common.{◌≡◌, ℕ, ◌<◌, ◌≤◌, ◌^◌, ◌⊎◌, inl, inr, List, [], ◌∷◌, ◌++◌, length, take, drop, refl, arith, sym, ◌∙◌, ap, subst, Option, Some, None, Bool, true, false, cond, eqb, leb, append_assoc, length-append}
use Rattle.std.specs.Option.{IsSome}
use Rattle.std.proofs.lemmas.Bool.{leb-true, le-leb, eqb-true}
use Rattle.std.proofs.lemmas.List.{take_at, drop_at, take-append-drop, length-take-le}
use Rattle.std.proofs.lemmas.Option.{cond_some}
use Rattle.sst_base.specs.Bytes.{IsBytes}
use Rattle.sst_base.specs.Varint.{varint, varint_at}
use Rattle.sst_base.specs.Reading.{◌>>=◌, length_prefixed, value_type_at, number_at, length_prefixed_at}
use Rattle.sst_base.specs.ValueType.{value_type_byte, value_type_of}
use Rattle.sst_base.specs.declared.value_type.ValueType.{ValueType}
use Rattle.sst_base.specs.declared.value_type.ValueType.TheVariants.{Value, Tombstone, WeakTombstone, Indirection}
use Rattle.sst_base.specs.VarintLaws.{varint_at-varint, varint_at_takes}

-- where a chain of readings returns a value, the first reading does, and so does what follows it
pub bind_some : {A B : Type 0} (o : Option A) (f : A → Option B) (y : B) → (o >>= f) ≡ Some y → (x : A) × (o ≡ Some x) × (f x ≡ Some y)
bind_some (Some x) f y e = (x, refl, e)
bind_some None f y e = cc

-- the value that a reading returns
pub some_value : {A : Type 0} (o : Option A) → IsSome o → (x : A) × (o ≡ Some x)
some_value (Some x) h = (x, refl)
some_value None h = cc

-- where a chain of readings returns a value, the first reading does
pub chain_first : {A B : Type 0} (o : Option A) (f : A → Option B) → IsSome (o >>= f) → IsSome o
chain_first (Some x) f h = refl
chain_first None f h = cc

-- and so does what follows it
pub chain_next : {A B : Type 0} (o : Option A) (f : A → Option B) (x : A) → o ≡ Some x → IsSome (o >>= f) → IsSome (f x)
chain_next o f x e h = subst (λ p. IsSome (p >>= f)) e h

-- a pair is its parts
pub pair_parts : {A B : Type 0} (a x : A) (b y : B) → ◌≡◌ {A = A × B} (a, b) (x, y) → (a ≡ x) × (b ≡ y)
pair_parts {A = A} {B = B} a x b y e = (ap (λ (t : A × B). t.0) e, ap (λ (t : A × B). t.1) e)

-- which side of a choice was taken
pub chosen : {A : Type 0} (b : Bool) (x y z : A) → cond b x y ≡ z → ((b ≡ true) × (x ≡ z)) ⊎ ((b ≡ false) × (y ≡ z))
chosen true x y z e = inl (refl, e)
chosen false x y z e = inr (refl, e)

-- the byte of a value type is read as it
pub value_type_of-byte : (t : ValueType) → value_type_of (value_type_byte t) ≡ Some t
value_type_of-byte Value = refl
value_type_of-byte Tombstone = refl
value_type_of-byte WeakTombstone = refl
value_type_of-byte Indirection = refl

-- and no other byte is
pub value_type_of_takes : (b : ℕ) (t : ValueType) → value_type_of b ≡ Some t → b ≡ value_type_byte t
value_type_of_takes b t e = elim (chosen (eqb b 0) _ _ _ e) [
  | inl h ↦ (let k : Value ≡ t = cc (h.1) in eqb-true b 0 h.0 ∙ ap value_type_byte k)
  | inr h ↦ elim (chosen (eqb b 1) _ _ _ h.1) [
    | inl h ↦ (let k : Tombstone ≡ t = cc (h.1) in eqb-true b 1 h.0 ∙ ap value_type_byte k)
    | inr h ↦ elim (chosen (eqb b 2) _ _ _ h.1) [
      | inl h ↦ (let k : WeakTombstone ≡ t = cc (h.1) in eqb-true b 2 h.0 ∙ ap value_type_byte k)
      | inr h ↦ elim (chosen (eqb b 4) _ _ _ h.1) [
        | inl h ↦ (let k : Indirection ≡ t = cc (h.1) in eqb-true b 4 h.0 ∙ ap value_type_byte k)
        | inr h ↦ cc (h.1)
      ]
    ]
  ]
]

-- a value type that is read at the start of bytes was written there
pub value_type_at_takes : (bytes : List ℕ) (t : ValueType) (rest : List ℕ) → value_type_at bytes ≡ Some (t, rest) → bytes ≡ value_type_byte t ∷ rest
value_type_at_takes [] t rest e = cc
value_type_at_takes (b ∷ bs) t rest e =
    let f = bind_some (value_type_of b) _ (t, rest) e in
    let s : (f.0, bs) ≡ (t, rest) = cc (f.2) in
    let p = pair_parts f.0 t bs rest s in
    let i = value_type_of_takes b t (f.1 ∙ ap (λ u. Some u) p.0) in
    let r = p.1 in
    cc

-- a varint is read as its number
pub number_at-varint : (bits n : ℕ) (rest : List ℕ) → n < 2 ^ bits → n < 2 ^ 64 → number_at bits (varint n ++ rest) ≡ Some (n, rest)
unfolding number_at
number_at-varint bits n rest h k =
    rw (varint_at-varint bits n rest h k, drop_at (varint n) rest (length (varint n)) refl) refl

-- and a number that is read was written as its varint
pub number_at_takes : (bits : ℕ) (bytes : List ℕ) (n : ℕ) (rest : List ℕ) → IsBytes bytes → bits ≤ 64 → number_at bits bytes ≡ Some (n, rest) → (bytes ≡ varint n ++ rest) × (n < 2 ^ bits)
unfolding number_at
number_at_takes bits bytes n rest b h e =
    let f = bind_some (varint_at bits bytes) _ (n, rest) e in
    let s : (f.0.0, drop f.0.1 bytes) ≡ (n, rest) = cc (f.2) in
    let r = varint_at_takes bytes bits f.0.0 f.0.1 b h f.1 in
    subst (λ (q : ℕ × List ℕ). (bytes ≡ varint q.0 ++ q.1) × (q.0 < 2 ^ bits)) s (sym (take-append-drop f.0.1 bytes) ∙ ap (λ xs. xs ++ drop f.0.1 bytes) r.0, r.1)

-- length-prefixed bytes are read again
pub length_prefixed_at-length_prefixed : (bits : ℕ) (t rest : List ℕ) → length t < 2 ^ bits → length t < 2 ^ 64 → length_prefixed_at bits (length_prefixed t ++ rest) ≡ Some (t, rest)
unfolding length_prefixed_at
length_prefixed_at-length_prefixed bits t rest h k =
    let fits : leb (length t) (length (t ++ rest)) ≡ true = le-leb _ _ (omega (arith, length-append t rest)) in
    rw (append_assoc (varint (length t)) t rest, number_at-varint bits (length t) (t ++ rest) h k, fits, take_at t rest (length t) refl, drop_at t rest (length t) refl) refl

-- and what is read was written so
pub length_prefixed_at_takes : (bits : ℕ) (bytes : List ℕ) (t : List ℕ) (rest : List ℕ) → IsBytes bytes → bits ≤ 64 → length_prefixed_at bits bytes ≡ Some (t, rest) → (bytes ≡ length_prefixed t ++ rest) × (length t < 2 ^ bits)
unfolding length_prefixed_at
length_prefixed_at_takes bits bytes t rest b h e =
    let f = bind_some (number_at bits bytes) _ (t, rest) e in
    let n = number_at_takes bits bytes f.0.0 f.0.1 b h f.1 in
    let g = cond_some (leb f.0.0 (length f.0.1)) (take f.0.0 f.0.1, drop f.0.0 f.0.1) (t, rest) f.2 in
    let l : length (take f.0.0 f.0.1) ≡ f.0.0 = length-take-le f.0.0 f.0.1 (leb-true _ _ g.0) in
    let whole : bytes ≡ length_prefixed (take f.0.0 f.0.1) ++ drop f.0.0 f.0.1 =
    n.0 ∙ ap (λ xs. varint f.0.0 ++ xs) (sym (take-append-drop f.0.0 f.0.1)) ∙ sym (append_assoc (varint f.0.0) (take f.0.0 f.0.1) (drop f.0.0 f.0.1))
    ∙ ap (λ k. (varint k ++ take f.0.0 f.0.1) ++ drop f.0.0 f.0.1) (sym l) in
    subst (λ (q : List ℕ × List ℕ). (bytes ≡ length_prefixed q.0 ++ q.1) × (length q.0 < 2 ^ bits)) g.1 (whole, rw l (n.1))
