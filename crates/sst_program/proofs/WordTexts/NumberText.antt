use Rattle.std.specs.Prelude.{ℕ, List}
use Rattle.std.specs.Str.{IsUtf8}
use Rattle.std.proofs.lemmas.Str.{IsUtf8-from_ascii}
use Rattle.std.proofs.lemmas.Fmt.{IsAscii-from_digits}
use Rattle.sst_program.specs.Text.{IsNumberText}

-- decimal digits are text
pub IsUtf8-number : (text : List ℕ) → IsNumberText text → IsUtf8 text
IsUtf8-number text h = IsUtf8-from_ascii text (IsAscii-from_digits text h.0.1)
