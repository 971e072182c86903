-- Laws of frames in memory: reading one never returns the error that the input failed.
use Rattle.std.proofs.Common.{◌≡◌, ◌≢◌, ℕ, ◌+◌, ◌≤◌, List, length, take, drop, arith, refl, sym, ap, subst, ◌∙◌, Bool, true, false, leb, nat_eq, slice_index, if◌then◌else◌, Result, Ok, Err, IfErr, length-append}
use Rattle.std.proofs.lemmas.Bool.{leb-true, le-ltb}
use Rattle.sst_base.specs.BlockType.{block_type_of}
use Rattle.sst_base.specs.Frame.{demand, verified_block, has_length, frame_in}
use Rattle.byteorder.specs.Endian.{little_number}
use Rattle.sst_base.specs.Header.{◌>>=◌, bytes_at, magic_at, block_type_at, header_with, header_of, header_at}
use Rattle.sst_base.specs.HeaderLaws.{bind_ok, guard_ok, bytes_at_takes}
use Rattle.sst_base.specs.declared.error.Error.{Error}
use Rattle.sst_base.specs.declared.error.Error.TheVariants.{Io, Memory, InvalidHeader, InvalidTag, ChecksumMismatch, LengthMismatch, TooLong, Truncated, BadTrailer, BadEntry, OutOfOrder, BadIndex, BadHashIndex, BadFilter, BadHandle}
use Rattle.sst_base.specs.Inputs.{Gives}
use Rattle.sst_base.specs.declared.error.HeaderName.TheVariants as names
use Rattle.sst_base.specs.declared.error.TagName.TheVariants as tags
use Rattle.sst_base.specs.declared.table.block.block_type.BlockType.{BlockType}
use Rattle.sst_base.specs.declared.table.block.block_type.BlockType.TheVariants.{Data, Index, Filter, Meta}
use Rattle.sst_base.specs.declared.table.block.header.Header.{Header}

-- a reading does not return the error that the input failed
abbrev pub NotIo : {A : Type 0} → Result A Error → Type 0
NotIo r = IfErr r (λ e. e ≢ Io)

pub not_io_bind : {A B : Type 0} (r : Result A Error) (f : A → Result B Error) → NotIo r → ((x : A) → r ≡ Ok x → NotIo (f x)) → NotIo (r >>= f)
not_io_bind (Ok x) f h k = k x refl
not_io_bind (Err e) f h k = h

pub not_io_if : {A : Type 0} (b : Bool) (r : Result A Error) (d : Error) → d ≢ Io → NotIo r → NotIo (if b then r else Err d)
not_io_if true r d h k = k
not_io_if false r d h k = h

pub not_io_demand : (b : Bool) (d : Error) → d ≢ Io → NotIo (demand b d)
not_io_demand true d h = tt
not_io_demand false d h = h

demanded : (b : Bool) (d : Error) (x : Unit {0}) → demand b d ≡ Ok x → b ≡ true
demanded true d x e = refl
demanded false d x e = cc

bytes_at_long : (n : ℕ) (bytes : List ℕ) → n ≤ length bytes → bytes_at n bytes ≡ Ok (take n bytes, drop n bytes)
bytes_at_long n bytes h = ap (λ b. if b then Err Io else Ok (take n bytes, drop n bytes)) (le-ltb (length bytes) n h)

bytes_at_not_io : (n : ℕ) (bytes : List ℕ) → n ≤ length bytes → NotIo (bytes_at n bytes)
bytes_at_not_io n bytes h = rw (bytes_at_long n bytes h) tt

-- the bytes after the first n are n fewer
bytes_at_rest : (n : ℕ) (bytes : List ℕ) (found : List ℕ × List ℕ) → bytes_at n bytes ≡ Ok found → length bytes ≡ n + length found.1
bytes_at_rest n bytes found e = let t = bytes_at_takes n bytes found e in ap length t.0 ∙ length-append found.0 found.1 ∙ ap (λ k. k + length found.1) t.1

magic_rest : (bytes : List ℕ) (m : List ℕ × List ℕ) → magic_at bytes ≡ Ok m → length bytes ≡ 4 + length m.1
magic_rest bytes m e =
    let b = bind_ok (bytes_at 4 bytes) _ m e in
    let g = guard_ok _ b.0 m _ b.2 in
    bytes_at_rest 4 bytes b.0 b.1 ∙ ap (λ (q : List ℕ × List ℕ). 4 + length q.1) g.1

not_io_else : {A : Type 0} (b : Bool) (x : A) (r : Result A Error) → NotIo r → NotIo (if b then Ok x else r)
not_io_else true x r h = tt
not_io_else false x r h = h

block_type_of_not_io : (n : ℕ) → NotIo (block_type_of n)
block_type_of_not_io n = not_io_else (nat_eq n 0) Data _ (not_io_else (nat_eq n 1) Index _ (not_io_else (nat_eq n 2) Filter _ (not_io_if (nat_eq n 3) (Ok Meta) (InvalidTag tags.BlockType n) (λ e. cc) tt)))

magic_not_io : (bytes : List ℕ) → 4 ≤ length bytes → NotIo (magic_at bytes)
magic_not_io bytes h = not_io_bind (bytes_at 4 bytes) _ (bytes_at_not_io 4 bytes h) (λ found e. not_io_if _ (Ok found) (InvalidHeader names.Block) (λ d. cc) tt)

type_not_io : (bytes : List ℕ) → 1 ≤ length bytes → NotIo (block_type_at bytes)
type_not_io bytes h = not_io_bind (bytes_at 1 bytes) _ (bytes_at_not_io 1 bytes h) (λ tag e. not_io_bind (block_type_of (slice_index tag.0 0)) _ (block_type_of_not_io (slice_index tag.0 0)) (λ t d. tt))

type_rest : (bytes : List ℕ) (t : BlockType × List ℕ) → block_type_at bytes ≡ Ok t → length bytes ≡ 1 + length t.1
type_rest bytes t e =
    let b = bind_ok (bytes_at 1 bytes) _ t e in
    let g = bind_ok (block_type_of (slice_index b.0.0 0)) _ t b.2 in
    let same : ◌≡◌ {A = BlockType × List ℕ} (g.0, b.0.1) t = cc (g.2) in
    bytes_at_rest 1 bytes b.0 b.1 ∙ ap (λ (q : BlockType × List ℕ). 1 + length q.1) same

header_of_not_io : (hash128 : List ℕ → ℕ) (t : BlockType) (fields : List ℕ) (expected : ℕ) → NotIo (header_of hash128 t fields expected)
unfolding header_of
header_of_not_io hash128 t fields expected = not_io_if _ (Ok (header_with t fields)) _ (λ e. cc) tt

header_not_io : (hash128 : List ℕ → ℕ) (bytes : List ℕ) → 33 ≤ length bytes → NotIo (header_at hash128 bytes)
unfolding header_at
header_not_io hash128 bytes h =
    not_io_bind (magic_at bytes) _ (magic_not_io bytes (omega arith)) (λ m e.
    let a = magic_rest bytes m e in
    not_io_bind (block_type_at m.1) _ (type_not_io m.1 (omega arith)) (λ t d.
    let b = type_rest m.1 t d in
    not_io_bind (bytes_at 28 t.1) _ (bytes_at_not_io 28 t.1 (omega arith)) (λ tail c.
    not_io_bind (header_of hash128 t.0 (take 24 tail.0) (little_number 4 (drop 24 tail.0))) _ (header_of_not_io hash128 t.0 (take 24 tail.0) (little_number 4 (drop 24 tail.0))) (λ x k. tt))))

block_of_not_io : (hash128 : List ℕ → ℕ) (h : Header) (payload : List ℕ) → NotIo (verified_block hash128 h payload)
unfolding verified_block
block_of_not_io hash128 h payload = not_io_if _ (Ok (record { header = h; payload = payload })) _ (λ e. cc) tt

-- reading a frame in memory does not return the error that the input failed
pub frame_in_not_io : (hash128 : List ℕ → ℕ) (bytes : List ℕ) → NotIo (frame_in hash128 bytes)
unfolding frame_in
frame_in_not_io hash128 bytes =
    not_io_bind (demand (leb 33 (length bytes)) Truncated) _ (not_io_demand (leb 33 (length bytes)) Truncated (λ e. cc)) (λ x e.
    let long : 33 ≤ length bytes = leb-true 33 (length bytes) (demanded (leb 33 (length bytes)) Truncated x e) in
    not_io_bind (header_at hash128 bytes) _ (header_not_io hash128 bytes long) (λ h d.
    not_io_bind (demand (has_length h.0 (length h.1)) LengthMismatch) _ (not_io_demand (has_length h.0 (length h.1)) LengthMismatch (λ k. cc)) (λ y c. block_of_not_io hash128 h.0 h.1)))

not_io_of : {A : Type 0} (r read : Result A Error) → NotIo read → r ≡ read → NotIo r
not_io_of r read h e = subst NotIo (sym e) h

-- nor does a call whose result is that of such a reading, unless an allocation failed
pub given_not_io : {A : Type 0} (r read : Result A Error) → NotIo read → Gives r read → NotIo r
given_not_io (Ok x) read h g = tt
given_not_io (Err Memory) read h g = λ e. cc
given_not_io (Err Io) read h g = not_io_of (Err Io) read h g
given_not_io (Err (InvalidHeader n)) read h g = λ e. cc
given_not_io (Err (InvalidTag n b)) read h g = λ e. cc
given_not_io (Err (ChecksumMismatch a b)) read h g = λ e. cc
given_not_io (Err LengthMismatch) read h g = λ e. cc
given_not_io (Err TooLong) read h g = λ e. cc
given_not_io (Err Truncated) read h g = λ e. cc
given_not_io (Err BadTrailer) read h g = λ e. cc
given_not_io (Err BadEntry) read h g = λ e. cc
given_not_io (Err OutOfOrder) read h g = λ e. cc
given_not_io (Err BadIndex) read h g = λ e. cc
given_not_io (Err BadHashIndex) read h g = λ e. cc
given_not_io (Err BadFilter) read h g = λ e. cc
given_not_io (Err BadHandle) read h g = λ e. cc
