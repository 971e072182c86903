-- What a stream knows of the bytes that it was given.
use Rattle.std.specs.Prelude.{◌≡◌, ℕ, ◌+◌, ◌-◌, ◌*◌, ◌%◌, ◌^◌, ◌<◌, ◌≤◌, true, false, List, length}
use Rattle.xxh3.specs.declared.state.State.{State}
use Rattle.xxh3.specs.Pieces.{IsSame}
use Rattle.xxh3.specs.Xxh3.{default_secret, first_sums, with_stripes}

-- the sums have n stripes of the message, and the bytes after them wait
pub record IsFedAt (s : State) (message : List ℕ) (n : ℕ) : Type 0 where
  pub length_is : length message ≡ 64 * n + s.filled
  pub total_is : s.total ≡ length message % 2 ^ 64
  pub place_is : s.place ≡ n % 16
  pub some : s.has_stripes ≡ true → 4 ≤ n
  pub none : s.has_stripes ≡ false → n ≡ 0
  pub sums_are : s.sums ≡ with_stripes default_secret first_sums message 0 0 n
  pub last : 4 ≤ n → IsSame s.window 0 message (64 * n - 64) 64
  pub behind : IsSame s.window 64 message (64 * n) s.filled

-- the stream was given the message. A byte waits wherever the sums have a stripe, since the last
-- stripe of a message is not of those.
pub record IsFed (s : State) (message : List ℕ) : Type 0 where
  pub stripes : ℕ
  pub at : IsFedAt s message stripes
  pub waits : s.has_stripes ≡ true → 0 < s.filled
