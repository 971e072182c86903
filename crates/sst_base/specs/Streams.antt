-- Streams that hash the bytes that pass through them.
use Rattle.std.specs.Prelude.{ℕ, List}

-- what is read or written, and the bytes that passed since it was wrapped
pub record HashedStream (S : Type 0) : Type 0 where
  pub inner : S
  pub passed : List ℕ
