-- Pointers that are read from their bytes.
use Rattle.std.proofs.Common.{◌≡◌, ℕ, ◌+◌, ◌-◌, ◌*◌, ◌/◌, ◌<◌, ◌≤◌, List, length, drop, get_or, ap, ◌∙◌, arith}
use Rattle.std.proofs.Math.Nat.{div-mul-le_self}
use Rattle.byteorder.specs.Endian.{little_number}
use Rattle.sst_block_core.specs.Pointers.{pointer_at, pointers_in}
use Rattle.sst_block_core.specs.PointerLaws.{length-each, get_or-each}

-- as many pointers as the bytes have room for
pub pointers_count : (w : ℕ) (bytes : List ℕ) → length (pointers_in w bytes) ≡ length bytes / w
pointers_count w bytes = length-each (pointer_at w bytes) 0 (length bytes / w)

-- a pointer is the number at its place
pub pointer_is : (w : ℕ) (bytes : List ℕ) (j d : ℕ) → j < length (pointers_in w bytes) → get_or (pointers_in w bytes) j d ≡ little_number w (drop (j * w) bytes)
pointer_is w bytes j d h =
    let n = length-each (pointer_at w bytes) 0 (length bytes / w) in
    get_or-each (pointer_at w bytes) 0 (length bytes / w) j d (omega (arith, h, n)) ∙ ap (pointer_at w bytes) (omega arith)

rows_within : (j n w len : ℕ) → j < n → n * w ≤ len → j * w + w ≤ len
rows_within j n w len h k =
    let d = n - (j + 1) in
    let e : n ≡ (j + 1) + d = omega (arith, h) in
    let m : n * w ≡ ((j + 1) + d) * w = ap (λ x. x * w) e in
    let s : ((j + 1) + d) * w ≡ (j * w + w) + d * w = omega arith in
    omega (arith, k, m, s)

-- its bytes are there
pub pointer_inside : (w : ℕ) (bytes : List ℕ) (j : ℕ) → j < length (pointers_in w bytes) → j * w + w ≤ length bytes
pointer_inside w bytes j h =
    let n = pointers_count w bytes in
    let k = div-mul-le_self (length bytes) w in
    rows_within j (length bytes / w) w (length bytes) (omega (arith, h, n)) (omega (arith, k))
