-- Laws of frames: what was written is read again, whatever follows, and what is read was written so.
use Rattle.std.proofs.Common.{◌≡◌, ℕ, ◌+◌, ◌≤◌, ◌<◌, ◌^◌, List, [], ◌++◌, length, take, drop, refl, arith, sym, ◌∙◌, ap, subst, Ok, nat_eq, nat_le, length-append, append_assoc}
use Rattle.std.proofs.lemmas.Bool.{eqb-true, eq-eqb, le-leb}
use Rattle.std.proofs.lemmas.List.{append-nil}
use Rattle.sst_base.specs.Bytes.{IsBytes}
use Rattle.sst_base.specs.Block.{BlockParts}
use Rattle.sst_base.specs.BytesLaws.{IsBytes-take, IsBytes-drop}
use Rattle.sst_base.specs.Header.{header_start, header, IsHeader, bytes_at, header_at}
use Rattle.sst_base.specs.HeaderLaws.{bind_ok, guard_ok, bytes_at-append, bytes_at_takes, header_at-header, header_at_takes}
use Rattle.sst_base.specs.Frame.{header_for, frame_block, frame, demand, verified_block, block_at, frame_at, has_length, frame_in}
use Rattle.sst_base.specs.declared.error.Error.TheVariants.{LengthMismatch, Truncated}
use Rattle.sst_base.specs.declared.table.block.block_type.BlockType.{BlockType}
use Rattle.sst_base.specs.declared.table.block.header.Header.{Header}
use Rattle.sst_base.specs.TestLaws.{and_parts}

-- a header has 33 bytes
pub length-header : (hash128 : List ℕ → ℕ) (h : Header) → length (header hash128 h) ≡ 33
unfolding header header_start
length-header hash128 h = refl

-- a frame has 33 bytes more than its payload
pub length-frame : (hash128 : List ℕ → ℕ) (t : BlockType) (payload : List ℕ) → length (frame hash128 t payload) ≡ 33 + length payload
unfolding frame
length-frame hash128 t payload =
    length-append (header hash128 (header_for hash128 t payload)) payload
    ∙ ap (λ n. n + length payload) (length-header hash128 (header_for hash128 t payload))

-- the fields of a payload's header fit them
pub IsHeader-header_for : (hash128 : List ℕ → ℕ) (t : BlockType) (payload : List ℕ) → length payload < 2 ^ 32 → hash128 payload < 2 ^ 128 → IsHeader (header_for hash128 t payload)
IsHeader-header_for hash128 t payload short sum = record { checksum = sum; data_length = short; uncompressed_length = short }

-- the header of a block is the header of its payload
pub record IsOwn (hash128 : List ℕ → ℕ) (b : BlockParts) : Type 0 where
  pub equal : b.header.data_length ≡ b.header.uncompressed_length
  pub len : length b.payload ≡ b.header.data_length
  pub sum : hash128 b.payload ≡ b.header.checksum

pub block_for_lem : (hash128 : List ℕ → ℕ) (b : BlockParts) → IsOwn hash128 b → b ≡ frame_block hash128 b.header.block_type b.payload
block_for_lem hash128 b own i = record {
  header = record {
    block_type = b.header.block_type;
    checksum = sym own.sum i;
    data_length = sym own.len i;
    uncompressed_length = (sym own.equal ∙ sym own.len) i;
  };
  payload = b.payload;
}

block_of-own : (hash128 : List ℕ → ℕ) (h : Header) (payload : List ℕ) → hash128 payload ≡ h.checksum → verified_block hash128 h payload ≡ Ok (record { header = h; payload = payload })
unfolding verified_block
block_of-own hash128 h payload e = rw (eq-eqb (hash128 payload) h.checksum e) refl

pub block_of_takes : (hash128 : List ℕ → ℕ) (h : Header) (payload : List ℕ) (b : BlockParts) → verified_block hash128 h payload ≡ Ok b → (hash128 payload ≡ h.checksum) × (◌≡◌ {A = BlockParts} (record { header = h; payload = payload }) b)
unfolding verified_block
block_of_takes hash128 h payload b e =
    let g = guard_ok (nat_eq (hash128 payload) h.checksum) (record { header = h; payload = payload }) b _ e in
    (eqb-true (hash128 payload) h.checksum g.0, g.1)

-- a frame is read again, whatever follows it
pub frame_at-frame : (hash128 : List ℕ → ℕ) (t : BlockType) (payload rest : List ℕ) → length payload < 2 ^ 32 → hash128 payload < 2 ^ 128 → frame_at hash128 (frame hash128 t payload ++ rest) ≡ Ok (frame_block hash128 t payload, rest)
unfolding frame frame_at block_at
frame_at-frame hash128 t payload rest short sum =
    let h = header_for hash128 t payload in
    let head = header_at-header hash128 h (payload ++ rest) (IsHeader-header_for hash128 t payload short sum) in
    rw (append_assoc (header hash128 h) payload rest, head, eq-eqb (length payload) (length payload) refl, bytes_at-append (length payload) payload rest refl, block_of-own hash128 h payload refl) refl

-- and a frame alone is read again
pub frame_in-frame : (hash128 : List ℕ → ℕ) (t : BlockType) (payload : List ℕ) → length payload < 2 ^ 32 → hash128 payload < 2 ^ 128 → frame_in hash128 (frame hash128 t payload) ≡ Ok (frame_block hash128 t payload)
unfolding frame frame_in
frame_in-frame hash128 t payload short sum =
    let h = header_for hash128 t payload in
    let head = header_at-header hash128 h payload (IsHeader-header_for hash128 t payload short sum) in
    let long : 33 ≤ length (header hash128 h ++ payload) = omega (arith, length-append (header hash128 h) payload, length-header hash128 h) in
    rw (le-leb 33 (length (header hash128 h ++ payload)) long, head, eq-eqb (length payload) (length payload) refl, block_of-own hash128 h payload refl) refl

-- what is read after a header
block_at_takes : (hash128 : List ℕ → ℕ) (h : Header) (bytes : List ℕ) (b : BlockParts) (rest : List ℕ) → block_at hash128 h bytes ≡ Ok (b, rest) → (b.header ≡ h) × (bytes ≡ b.payload ++ rest) × IsOwn hash128 b
unfolding block_at
block_at_takes hash128 h bytes b rest e =
    let d = bind_ok (demand (nat_eq h.data_length h.uncompressed_length) LengthMismatch) _ (b, rest) e in
    let equal = guard_ok (nat_eq h.data_length h.uncompressed_length) tt d.0 LengthMismatch d.1 in
    let p = bind_ok (bytes_at h.data_length bytes) _ (b, rest) d.2 in
    let cut = bytes_at_takes h.data_length bytes p.0 p.1 in
    let o = bind_ok (verified_block hash128 h p.0.0) _ (b, rest) p.2 in
    let found = block_of_takes hash128 h p.0.0 o.0 o.1 in
    let same : (o.0, p.0.1) ≡ (b, rest) = cc (o.2) in
    let whole : (◌≡◌ {A = BlockParts} (record { header = h; payload = p.0.0 }) b) = found.1 ∙ ap (λ (q : BlockParts × List ℕ). q.0) same in
    let P : BlockParts → Type 0 = λ c. (c.header ≡ h) × (bytes ≡ c.payload ++ rest) × IsOwn hash128 c in
    subst P whole (
      refl,
      cut.0 ∙ ap (λ (q : BlockParts × List ℕ). p.0.0 ++ q.1) same,
      record { equal = eqb-true h.data_length h.uncompressed_length equal.0; len = cut.1; sum = found.0 },
    )

frame_of_own : (hash128 : List ℕ → ℕ) (b : BlockParts) (h : Header) (bytes rest : List ℕ) → b.header ≡ h → IsOwn hash128 b → bytes ≡ header hash128 h ++ (b.payload ++ rest) → bytes ≡ frame hash128 b.header.block_type b.payload ++ rest
unfolding frame
frame_of_own hash128 b h bytes rest same own e =
    e
    ∙ ap (λ k. header hash128 k ++ (b.payload ++ rest)) (sym same ∙ ap (λ (c : BlockParts). c.header) (block_for_lem hash128 b own))
    ∙ sym (append_assoc (header hash128 (header_for hash128 b.header.block_type b.payload)) b.payload rest)

-- what is read was written so
pub frame_at_takes : (hash128 : List ℕ → ℕ) (bytes : List ℕ) (b : BlockParts) (rest : List ℕ) → IsBytes (take 28 (drop 5 bytes)) → frame_at hash128 bytes ≡ Ok (b, rest) → (bytes ≡ frame hash128 b.header.block_type b.payload ++ rest) × (b ≡ frame_block hash128 b.header.block_type b.payload) × (length b.payload < 2 ^ 32)
unfolding frame_at
frame_at_takes hash128 bytes b rest small e =
    let h = bind_ok (header_at hash128 bytes) _ (b, rest) e in
    let head = header_at_takes hash128 bytes h.0.0 h.0.1 small h.1 in
    let behind = block_at_takes hash128 h.0.0 h.0.1 b rest h.2 in
    let fits : b.header.data_length < 2 ^ 32 = rw behind.0 (head.0.data_length) in (
      frame_of_own hash128 b h.0.0 bytes rest behind.0 behind.2 (head.1 ∙ ap (λ xs. header hash128 h.0.0 ++ xs) behind.1),
      block_for_lem hash128 b behind.2,
      rw behind.2.len fits,
    )

-- bytes that are read as a frame were written so
pub frame_in_takes : (hash128 : List ℕ → ℕ) (bytes : List ℕ) (b : BlockParts) → IsBytes bytes → frame_in hash128 bytes ≡ Ok b → (bytes ≡ frame hash128 b.header.block_type b.payload) × (b ≡ frame_block hash128 b.header.block_type b.payload) × (length b.payload < 2 ^ 32)
unfolding frame_in
frame_in_takes hash128 bytes b small e =
    let d = bind_ok (demand (nat_le 33 (length bytes)) Truncated) _ b e in
    let h = bind_ok (header_at hash128 bytes) _ b d.2 in
    let head = header_at_takes hash128 bytes h.0.0 h.0.1 (IsBytes-take 28 (drop 5 bytes) (IsBytes-drop 5 bytes small)) h.1 in
    let l = bind_ok (demand (has_length h.0.0 (length h.0.1)) LengthMismatch) _ b h.2 in
    let lengths = guard_ok (has_length h.0.0 (length h.0.1)) tt l.0 LengthMismatch l.1 in
    let both = and_parts (nat_eq h.0.0.data_length h.0.0.uncompressed_length) (nat_eq h.0.0.data_length (length h.0.1)) lengths.0 in
    let found = block_of_takes hash128 h.0.0 h.0.1 b l.2 in
    let P : BlockParts → Type 0 = λ c. (c.header ≡ h.0.0) × (h.0.1 ≡ c.payload) × IsOwn hash128 c in
    let behind = subst P (found.1) (
      refl,
      refl,
      record { equal = eqb-true h.0.0.data_length h.0.0.uncompressed_length both.0; len = sym (eqb-true h.0.0.data_length (length h.0.1) both.1); sum = found.0 },
    ) in
    let fits : b.header.data_length < 2 ^ 32 = rw behind.0 (head.0.data_length) in
    let framed = frame_of_own hash128 b h.0.0 bytes [] behind.0 behind.2 (head.1 ∙ ap (λ xs. header hash128 h.0.0 ++ xs) (behind.1 ∙ sym (append-nil b.payload))) in (
      framed ∙ append-nil (frame hash128 b.header.block_type b.payload),
      block_for_lem hash128 b behind.2,
      rw behind.2.len fits,
    )
