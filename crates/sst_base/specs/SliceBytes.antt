-- What a byte string holds, in place or shared.
use Rattle.std.specs.Prelude.{ℕ, List}
use Rattle.sst_base.specs.declared.slice.Held.{Held}
use Rattle.sst_base.specs.declared.slice.Held.TheVariants.{Short, Shared}

-- its bytes
abbrev pub held_bytes : Held → List ℕ
held_bytes (Short bytes) = bytes
held_bytes (Shared bytes) = bytes
