-- The kind of a table is told by the header of the frame of its index.
use Rattle.std.proofs.Common.{◌≡◌, ℕ, ◌+◌, ◌≤◌, List, [], length, take, drop, refl, arith, sym, ◌∙◌, ap, Ok, Err, Bool, cond, true}
use Rattle.std.specs.Prelude.{min, nat_le}
use Rattle.std.proofs.lemmas.Bool.Decides.{nat_tests}
use Rattle.std.proofs.lemmas.List.{append-nil, take_at, take-take, length-take-le, length-drop}
use Rattle.sstable_blocks.specs.BlockLaws.{header_at-type, length-frame, length-header}
use Rattle.sstable_blocks.specs.BlockTypes.{BlockType}
use Rattle.sstable_blocks.specs.Prelude.{HandleParts, frame, header, header_at, header_for}
use Rattle.sstable_blocks.specs.Results.{◌>>=◌, BadHandle}
use Rattle.sstable_blocks.specs.RunReading.{Hashes, IsFramedAt, range_at}
use Rattle.sst_parts.specs.AnyTables.{header_place, is_meta, is_parted_at, is_top}

-- the header of a frame is its first 33 bytes
front_of_frame : (hash128 : List ℕ → ℕ) (t : BlockType) (p : List ℕ) → take 33 (frame hash128 t p) ≡ header hash128 (header_for hash128 t p)
unfolding frame
front_of_frame hash128 t p =
    let head = header hash128 (header_for hash128 t p) in
    take_at head p 33 (length-header hash128 (header_for hash128 t p))

-- so its kind is told
kind_in_frame : (hash128 : List ℕ → ℕ) (t : BlockType) (p : List ℕ) → is_top (header_at hash128 (take 33 (frame hash128 t p))) ≡ is_meta t
kind_in_frame hash128 t p =
    let h = header_for hash128 t p in
    let found = header_at-type hash128 h [] in
    ap (λ xs. is_top (header_at hash128 xs)) (front_of_frame hash128 t p ∙ sym (append-nil (header hash128 h))) ∙ ap is_top found.1 ∙ ap is_meta found.2

-- the frame in the range of a handle has its header in the first 33 bytes
header_in_range : (c : Hashes) (t : BlockType) (bytes : List ℕ) (h : HandleParts) (p : List ℕ) → IsFramedAt c t bytes h p → range_at bytes (header_place h) ≡ Ok (take 33 (frame c.hash128 t p))
unfolding range_at
header_in_range c t bytes h p is =
    let rest = length-drop h.offset bytes in
    let inside = is.inside in
    let cut = length-take-le h.size (drop h.offset bytes) (omega (arith, rest, inside)) in
    let framed = ap length is.whole ∙ length-frame c.hash128 t p in
    let long : 33 ≤ h.size = omega (arith, cut, framed) in
    let fits : nat_le (h.offset + 33) (length bytes) ≡ true = (let room : h.offset + 33 ≤ length bytes = omega (arith, long, inside) in grind (arith, nat_tests)) in
    let size : min h.size 33 ≡ 33 = omega (arith, long) in
    ap (λ n. range_at bytes (record { offset = h.offset; size = n })) size
    ∙ ap (λ b. cond b (Ok (take 33 (drop h.offset bytes))) (Err BadHandle)) fits
    ∙ ap (λ xs. Ok xs) (sym (take-take 33 h.size (drop h.offset bytes) long) ∙ ap (take 33) is.whole)

-- and that of a table, by the frame of its index
pub framed_kind : (c : Hashes) (t : BlockType) (bytes : List ℕ) (h : HandleParts) (p : List ℕ) → IsFramedAt c t bytes h p → is_parted_at c bytes h ≡ Ok (is_meta t)
framed_kind c t bytes h p is =
    ap (λ r. r >>= (λ (found : List ℕ). Ok (is_top (header_at c.hash128 found)))) (header_in_range c t bytes h p is)
    ∙ ap (λ b. Ok b) (kind_in_frame c.hash128 t p)
