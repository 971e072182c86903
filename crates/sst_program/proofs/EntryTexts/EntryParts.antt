-- The entry that a line encodes, by what its parts encode.
use Rattle.std.proofs.Common.{◌≡◌, ℕ, ◌<◌, ◌≤◌, ◌^◌, List, ◌∷◌, ◌++◌, length, arith, refl, true, false, Bool, ◌⊎◌}
use Rattle.std.specs.Prelude.{Some, None, nat_eq, nat_le, nat_lt, ◌&&◌}
use Rattle.std.proofs.lemmas.Bool.Decides.{nat_tests}
use Rattle.sstable_blocks.specs.ValueTypes.{ValueType}
use Rattle.sstable_blocks.specs.Prelude.{plain_value}
use Rattle.sst_program.specs.Text.{number_of, hex_bytes}
use Rattle.sst_program.specs.Line.{Lacks, type_of_letters, entry_within_limits, entry_of_parts, entry_of_line}
use Rattle.sst_program.proofs.EntryTexts.Cuts.{cut-joined, cut-none}

pub line-without_space : (line : List ℕ) → Lacks 32 line → entry_of_line line ≡ None
unfolding entry_of_line
line-without_space line h = rw (cut-none 32 line h) refl

pub line-with_one_space : (line a b : List ℕ) → line ≡ a ++ (32 ∷ b) → Lacks 32 a → Lacks 32 b → entry_of_line line ≡ None
unfolding entry_of_line
line-with_one_space line a b e ha hb = rw (e, cut-joined 32 a b ha, cut-none 32 b hb) refl

pub line-with_two_spaces : (line a r b c : List ℕ) → line ≡ a ++ (32 ∷ r) → Lacks 32 a → r ≡ b ++ (32 ∷ c) → Lacks 32 b → Lacks 32 c → entry_of_line line ≡ None
unfolding entry_of_line
line-with_two_spaces line a r b c e ha f hb hc = rw (e, cut-joined 32 a r ha, f, cut-joined 32 b c hb, cut-none 32 c hc) refl

pub line-with_parts : (line a r b s c d : List ℕ) → line ≡ a ++ (32 ∷ r) → Lacks 32 a → r ≡ b ++ (32 ∷ s) → Lacks 32 b → s ≡ c ++ (32 ∷ d) → Lacks 32 c → entry_of_line line ≡ entry_of_parts a b c d
unfolding entry_of_line
line-with_parts line a r b s c d e ha f hb g hc = rw (e, cut-joined 32 a r ha, f, cut-joined 32 b s hb, g, cut-joined 32 c d hc) refl

pub parts-no_type : (letter number key value : List ℕ) → type_of_letters letter ≡ None → entry_of_parts letter number key value ≡ None
unfolding entry_of_parts
parts-no_type letter number key value h = rw h refl

pub parts-no_number : (letter number key value : List ℕ) (t : ValueType) → type_of_letters letter ≡ Some t → number_of number ≡ None → entry_of_parts letter number key value ≡ None
unfolding entry_of_parts
parts-no_number letter number key value t e h = rw (e, h) refl

pub parts-no_key : (letter number key value : List ℕ) (t : ValueType) (n : ℕ) → type_of_letters letter ≡ Some t → number_of number ≡ Some n → hex_bytes key ≡ None → entry_of_parts letter number key value ≡ None
unfolding entry_of_parts
parts-no_key letter number key value t n e f h = rw (e, f, h) refl

pub parts-no_value : (letter number key value : List ℕ) (t : ValueType) (n : ℕ) (k : List ℕ) → type_of_letters letter ≡ Some t → number_of number ≡ Some n → hex_bytes key ≡ Some k → hex_bytes value ≡ None → entry_of_parts letter number key value ≡ None
unfolding entry_of_parts
parts-no_value letter number key value t n k e f g h = rw (e, f, g, h) refl

pub parts-all : (letter number key value : List ℕ) (t : ValueType) (n : ℕ) (k v : List ℕ) → type_of_letters letter ≡ Some t → number_of number ≡ Some n → hex_bytes key ≡ Some k → hex_bytes value ≡ Some v
    → entry_of_parts letter number key value ≡ entry_within_limits t n k v
unfolding entry_of_parts
parts-all letter number key value t n k v e f g h = rw (e, f, g, h) refl

-- the test of the limits, where one is passed
pub limits-passed : (t : ValueType) (n : ℕ) (k v : List ℕ) → (length k ≡ 0) ⊎ ((65535 < length k) ⊎ (2 ^ 32 ≤ length v)) → entry_within_limits t n k v ≡ None
limits-passed t n k v h =
    let test : (nat_le 1 (length k) && nat_le (length k) 65535 && nat_lt (length v) (2 ^ 32)) ≡ false = grind (arith, nat_tests) in
    rw test refl

pub limits-kept : (t : ValueType) (n : ℕ) (k v : List ℕ) → 1 ≤ length k → length k ≤ 65535 → length v < 2 ^ 32
    → entry_within_limits t n k v ≡ Some (record { key = record { user_key = k; seqno = n; value_type = t }; value = plain_value t v })
limits-kept t n k v some short fits =
    let test : (nat_le 1 (length k) && nat_le (length k) 65535 && nat_lt (length v) (2 ^ 32)) ≡ true = grind (arith, nat_tests) in
    rw test refl

-- an empty list, by its test
pub length-from_empty : (n : ℕ) (b : Bool) → b ≡ nat_eq n 0 → b ≡ true → n ≡ 0
length-from_empty n b e h = grind (arith, nat_tests)
