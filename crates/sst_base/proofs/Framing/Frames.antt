-- Reading a frame in memory, step by step.
use Rattle.std.proofs.Common.{◌≡◌, ℕ, ◌+◌, ◌≤◌, ◌-◌, List, ◌++◌, length, take, drop, refl, arith, sym, ◌∙◌, ap, subst, Result, Ok, Err, Some, Option, true, nat_eq, length-drop}
use Rattle.std.specs.Result.{IfOk, OnOk, MatchResult}
use Rattle.std.specs.List.{slice_range}
use Rattle.std.proofs.lemmas.Bool.{eqb-true, le-leb}
use Rattle.std.proofs.lemmas.List.{take_all}
use Rattle.sst_base.specs.Block.{BlockParts}
use Rattle.sst_base.specs.Frame.{verified_block, frame_block, frame, has_length, frame_at, frame_in, frame_in_file}
use Rattle.sst_base.specs.Header.{◌>>=◌, bytes_at, header_at}
use Rattle.sst_base.specs.Bytes.{IsBytes}
use Rattle.sst_base.specs.FrameLaws.{length-frame, block_of_takes, block_for_lem, frame_at_takes, frame_in_takes}
use Rattle.sst_base.specs.HeaderLaws.{header_at_begins}
use Rattle.sst_base.specs.Inputs.{Reads, ReadsAllocating, Gives, GivesOrFails}
use Rattle.sst_base.specs.declared.error.Error.{Error}
use Rattle.sst_base.specs.declared.error.Error.TheVariants.{Io, Memory}
use Rattle.sst_base.specs.declared.table.block.header.Header.{Header}
use Rattle.sst_base.specs.TestLaws.{and_parts}

-- a result that equals a value is given by it
pub Gives-same : {A : Type 0} (r answer : Result A Error) → r ≡ answer → Gives r answer
Gives-same (Ok x) answer h = h
Gives-same (Err Memory) answer h = tt
Gives-same (Err e) answer h = h

-- the bytes that are left after a header was read over memory
pub left_behind : {A : Type 0} (m : Type 0) (x : A) (left : List ℕ) (read : Result (A × List ℕ) Error) → Reads m (Ok x) (Some left) read → read ≡ Ok (x, left)
left_behind m x left read h =
    let same : h.0 ≡ left = cc (h.1) in
    h.2 ∙ ap (λ ys. Ok (x, ys)) same

-- the payload after a header of 33 bytes
pub payload_behind : (hash128 : List ℕ → ℕ) (all rest payload : List ℕ) (h : Header) → header_at hash128 all ≡ Ok (h, rest) → payload ≡ slice_range all 33 (length all) → payload ≡ rest
payload_behind hash128 all rest payload h e p =
    let begins = header_at_begins hash128 all h rest e in
    let short : length (drop 33 all) ≤ length all - 33 = omega (arith, length-drop 33 all) in
    p ∙ take_all (length all - 33) (drop 33 all) short ∙ sym begins.1

pub length_payload : (h : Header) (payload rest : List ℕ) → payload ≡ rest → has_length h (length rest) ≡ true → length payload ≡ h.data_length
length_payload h payload rest e l =
    ap length e ∙ sym (eqb-true h.data_length (length rest) (and_parts (nat_eq h.data_length h.uncompressed_length) (nat_eq h.data_length (length rest)) l).1)

pub frame_in_by : (hash128 : List ℕ → ℕ) (all rest payload : List ℕ) (h : Header) (r : Result BlockParts Error) → 33 ≤ length all → header_at hash128 all ≡ Ok (h, rest) → has_length h (length rest) ≡ true → payload ≡ rest → r ≡ verified_block hash128 h payload → r ≡ frame_in hash128 all
unfolding frame_in
frame_in_by hash128 all rest payload h r long e l p q =
    rw (le-leb 33 (length all) long, e, l) (q ∙ ap (verified_block hash128 h) p)

-- what is read is a prefix that is a frame
pub found_front : (hash128 : List ℕ → ℕ) (m : Type 0) (r : Result BlockParts Error) (left : Option (List ℕ)) (bytes : List ℕ) → IfOk r (λ _. IsBytes (take 28 (drop 5 bytes))) → ReadsAllocating m r left (frame_at hash128 bytes)
    → IfOk r (λ b. (rest : List ℕ) × (left ≡ Some rest) × (bytes ≡ frame hash128 b.header.block_type b.payload ++ rest) × (b ≡ frame_block hash128 b.header.block_type b.payload))
found_front hash128 m (Ok b) left bytes small h =
    let takes = frame_at_takes hash128 bytes b h.0 small h.2 in
    (h.0, h.1, takes.0, takes.1)
found_front hash128 m (Err e) left bytes small h = tt

-- what can be read over memory is read
pub only_front : (m : Type 0) (r : Result BlockParts Error) (left : Option (List ℕ)) (read : Result (BlockParts × List ℕ) Error) (b : BlockParts) (rest : List ℕ) → m → read ≡ Ok (b, rest) → ReadsAllocating m r left read
    → MatchResult r (λ c. (c ≡ b) × (left ≡ Some rest)) (λ e. e ≡ Memory)
only_front m (Ok c) left read b rest memory e h =
    let same : (c, h.0) ≡ (b, rest) = cc (h.2, e) in
    (ap (λ (p : BlockParts × List ℕ). p.0) same, h.1 ∙ ap (λ (p : BlockParts × List ℕ). Some p.1) same)
only_front m (Err Memory) left read b rest memory e h = refl
only_front m (Err Io) left read b rest memory e h = cc (h memory, e)
only_front m (Err d) left read b rest memory e h = cc (h, e)

-- the same for bytes that are a whole frame
pub found_whole : (hash128 : List ℕ → ℕ) (r : Result BlockParts Error) (bytes : List ℕ) → IsBytes bytes → Gives r (frame_in hash128 bytes)
    → IfOk r (λ b. (bytes ≡ frame hash128 b.header.block_type b.payload) × (b ≡ frame_block hash128 b.header.block_type b.payload))
found_whole hash128 (Ok b) bytes small h =
    let takes = frame_in_takes hash128 bytes b small (sym h) in
    (takes.0, takes.1)
found_whole hash128 (Err e) bytes small h = tt

pub only_whole : (r read : Result BlockParts Error) (b : BlockParts) → read ≡ Ok b → Gives r read → MatchResult r (λ c. c ≡ b) (λ e. e ≡ Memory)
only_whole (Ok c) read b e h = cc (h, e)
only_whole (Err Memory) read b e h = refl
only_whole (Err d) read b e h = cc (h, e)

-- a file's frame is the frame of the bytes that were read
pub file_unread : (hash128 : List ℕ → ℕ) (m n : Type 0) (r : Result BlockParts Error) (e : Error) (left : Option (List ℕ)) (offset size : ℕ) (bytes : List ℕ) → (m → n) → r ≡ Err e → ReadsAllocating {A = List ℕ} n (Err e) left (bytes_at size (drop offset bytes)) → GivesOrFails m r (frame_in_file hash128 offset size bytes)
unfolding frame_in_file
file_unread hash128 m n (Ok b) e left offset size bytes k s h = cc
file_unread hash128 m n (Err Memory) e left offset size bytes k s h = tt
file_unread hash128 m n (Err Io) e left offset size bytes k s h = λ over.
    let same : Io ≡ e = cc (s) in
    let refused = subst (λ (x : Error). ReadsAllocating {A = List ℕ} n (Err x) left (bytes_at size (drop offset bytes))) (sym same) h (k over) in
    ap (λ q. q >>= (λ (found : List ℕ × List ℕ). frame_in hash128 found.0)) refused
file_unread hash128 m n (Err d) e left offset size bytes k s h =
    let same : d ≡ e = cc (s) in
    let refused = subst (λ (x : Error). ReadsAllocating {A = List ℕ} n (Err x) left (bytes_at size (drop offset bytes))) (sym same) h in
    sym (ap (λ q. q >>= (λ (found : List ℕ × List ℕ). frame_in hash128 found.0)) refused)

gives_or_fails : (m : Type 0) (r a b : Result BlockParts Error) → b ≡ a → Gives r a → GivesOrFails m r b
gives_or_fails m (Ok c) a b s h = h ∙ sym s
gives_or_fails m (Err Memory) a b s h = tt
gives_or_fails m (Err Io) a b s h = λ _. s ∙ sym h
gives_or_fails m (Err e) a b s h = h ∙ sym s

pub file_read : (hash128 : List ℕ → ℕ) (m n : Type 0) (r : Result BlockParts Error) (found : List ℕ) (left : Option (List ℕ)) (offset size : ℕ) (bytes : List ℕ) → ReadsAllocating n (Ok found) left (bytes_at size (drop offset bytes)) → Gives r (frame_in hash128 found) → GivesOrFails m r (frame_in_file hash128 offset size bytes)
unfolding frame_in_file
file_read hash128 m n r found left offset size bytes h g =
    gives_or_fails m r (frame_in hash128 found) _ (ap (λ q. q >>= (λ (x : List ℕ × List ℕ). frame_in hash128 x.0)) h.2) g

-- the payload of a frame of this size has 33 bytes less
pub found_size : (hash128 : List ℕ → ℕ) (r : Result BlockParts Error) (bytes : List ℕ) (size : ℕ) → length bytes ≡ size → IfOk r (λ b. (bytes ≡ frame hash128 b.header.block_type b.payload) × (b ≡ frame_block hash128 b.header.block_type b.payload)) → IfOk r (λ b. 33 + length b.payload ≡ size)
found_size hash128 (Ok b) bytes size l h = sym (length-frame hash128 b.header.block_type b.payload) ∙ sym (ap length (h.0)) ∙ l
found_size hash128 (Err e) bytes size l h = tt

-- a block that was checked is the block of its payload
pub checked_own : (hash128 : List ℕ → ℕ) (h : Header) (payload : List ℕ) (r : Result BlockParts Error) → h.data_length ≡ h.uncompressed_length → length payload ≡ h.data_length → r ≡ verified_block hash128 h payload → IfOk r (λ b. b ≡ frame_block hash128 b.header.block_type b.payload)
checked_own hash128 h payload (Err e) equal len s = tt
checked_own hash128 h payload (Ok b) equal len s =
    let found = block_of_takes hash128 h payload b (sym s) in
    let P : BlockParts → Type 0 = λ c. c ≡ frame_block hash128 c.header.block_type c.payload in
    subst P (found.1) (block_for_lem hash128 (record { header = h; payload = payload }) (record { equal = equal; len = len; sum = found.0 }))

-- what holds of all bytes where a result is Ok holds of these bytes
pub cells_if_ok : {A : Type 0} (P Q : List ℕ → Type 0) (r : Result A Error) → OnOk r ((bytes : List ℕ) → P bytes → Q bytes) → (bytes : List ℕ) → P bytes → IfOk r (λ _. Q bytes)
cells_if_ok P Q (Ok x) h bytes p = h bytes p
cells_if_ok P Q (Err e) h bytes p = tt
