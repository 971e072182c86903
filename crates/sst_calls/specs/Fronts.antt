-- The fronts of the end keys of an index: numbers that decide most of a search in it.
use Rattle.std.specs.Prelude.{◌≡◌, ℕ, ◌<◌, ◌^◌, ◌/◌, List, ◌++◌}
use Rattle.std.specs.List.{AllZip}
use Rattle.sstable_blocks.specs.Prelude.{Handle, IsBytes, front}

-- a number is the front of what follows a prefix in a key: its first eight bytes, without their last bit
pub record IsFront (prefix : List ℕ) (number : ℕ) (key : List ℕ) : Type 0 where
  pub rest : List ℕ
  pub whole : key ≡ prefix ++ rest
  pub bytes : IsBytes rest
  pub is : number ≡ front rest / 2
  pub small : number < 2 ^ 63

-- numbers are the fronts of the end keys of handles, all of which begin with a prefix
abbrev pub AreFronts : List ℕ → List ℕ → List Handle → Type 0
AreFronts prefix numbers hs = AllZip (λ n (h : Handle). IsFront prefix n h.end_key) numbers hs
