-- Laws of ranges of a payload: how long they are, and what is encoded where they begin.
use Rattle.std.proofs.Common.{◌≡◌, ◌<◌, ◌≤◌, ℕ, ◌-◌, List, drop, length, sym, ltb, true, arith, length-drop}
use Rattle.std.proofs.lemmas.List.{length-take-le, take-append-drop}
use Rattle.std.proofs.lemmas.Bool.{lt-ltb}
use Rattle.sst_base.specs.declared.table.util.SliceIndexes.{SliceIndexes}
use Rattle.sst_block_core.specs.Found.{range_bytes, IsEncodedAt}

-- how long a range is
pub length-range : (bytes : List ℕ) (range : SliceIndexes) → range.0 ≤ range.1 → range.1 ≤ length bytes → length (range_bytes bytes range) ≡ range.1 - range.0
length-range bytes range h k = length-take-le (range.1 - range.0) (drop range.0 bytes) (let d = length-drop range.0 bytes in omega arith)

some_between : (a b : ℕ) → a ≤ b → (a ≡ b → ⊥) → a < b
some_between a b h ne = omega arith

-- a range whose ends differ is not empty
pub range_some : (bytes : List ℕ) (range : SliceIndexes) → range.0 ≤ range.1 → range.1 ≤ length bytes → (range.0 ≡ range.1 → ⊥) → ltb 0 (length (range_bytes bytes range)) ≡ true
range_some bytes range h k ne = let l = length-range bytes range h k in lt-ltb _ _ (omega (arith, l, some_between range.0 range.1 h ne))

-- the bytes of a range are encoded at its start
pub range_encoded : (bytes : List ℕ) (range : SliceIndexes) → range.0 ≤ range.1 → range.1 ≤ length bytes → IsEncodedAt bytes range.0 (range_bytes bytes range)
range_encoded bytes range h k = record {
  inside = omega arith;
  after = drop (range.1 - range.0) (drop range.0 bytes);
  there = sym (take-append-drop (range.1 - range.0) (drop range.0 bytes));
}
