-- The fronts of keys: numbers by which a merge compares most versions.
use Rattle.std.specs.Prelude.{◌≡◌, ◌≢◌, ◌≤◌, ℕ, List, Option, Some, None, IfSome}
use Rattle.std.specs.Cmp.Lexicographic.{slice_cmp}
use Rattle.std.specs.Ordering.{nat_cmp}
use Rattle.byteorder.specs.Endian.{big_number}
use Rattle.sstable_blocks.specs.Prelude.{IsBytes}

-- the first 16 bytes of a key as a big-endian number, fewer than 16 being filled with 00
unfoldable pub key_front : List ℕ → ℕ
key_front key = big_number 16 key

-- a key has the order of its number beside each key whose front is another number
abbrev pub HasOrderOf : List ℕ → ℕ → Type 0
HasOrderOf key number = (other : List ℕ) → IsBytes other → number ≢ key_front other → nat_cmp number (key_front other) ≡ slice_cmp nat_cmp key other

-- the front of what a source holds, the greatest number of 128 bits where it holds nothing
abbrev pub held_front : {X : Type 0} → (X → ℕ) → Option X → ℕ
held_front number None = 340282366920938463463374607431768211455
held_front number (Some x) = number x

-- a number is the front of what is held
abbrev pub IsFrontOf : {X : Type 0} → (X → ℕ) → (X → Type 0) → Option X → ℕ → Type 0
IsFrontOf number IsNumbered held n = (n ≡ held_front number held) × IfSome held IsNumbered × (n ≤ 340282366920938463463374607431768211455)
