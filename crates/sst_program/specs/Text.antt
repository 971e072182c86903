-- Numbers and byte strings as words and lines encode them.
use Rattle.std.specs.Prelude.{ℕ, ◌<◌, ◌^◌, ◌==◌, ◌&&◌, Bool, nat_eq, nat_lt, nat_le, if◌then◌else◌, List, [], ◌∷◌, length, Option, Some, None}
use Rattle.std.specs.Char.{digit_value}
use Rattle.std.specs.Cmp.Lexicographic.{pointwise}
use Rattle.std.specs.List.{list_all}
use Rattle.std.specs.Result.{result_ok}
use Rattle.std.specs.Str.Parse.{IsNumeral, digits_value}
use Rattle.hex.specs.Hex.{decode_of}
use Rattle.sstable_blocks.specs.Prelude.{◌>>=◌}

-- one or more decimal digits, of a number below 2 ^ 64
abbrev pub IsNumberText : List ℕ → Type 0
IsNumberText text = IsNumeral 10 text × (digits_value 10 text < 2 ^ 64)

-- the test of the same
abbrev pub is_number_text : List ℕ → Bool
is_number_text text = nat_lt 0 (length text) && list_all (λ c. nat_lt (digit_value c) 10) text && nat_lt (digits_value 10 text) (2 ^ 64)

-- the number below 2 ^ 64 that decimal digits encode
unfoldable pub number_of : List ℕ → Option ℕ
number_of text = if is_number_text text then Some (digits_value 10 text) else None

-- a number from `least` to `most`
abbrev pub between_limits : ℕ → ℕ → ℕ → Option ℕ
between_limits least most n = if nat_le least n && nat_le n most then Some n else None

-- the number from `least` to `most` that decimal digits encode
unfoldable pub number_within : ℕ → ℕ → List ℕ → Option ℕ
number_within least most text = number_of text >>= between_limits least most

-- the byte string that hex digits encode, or the empty one for a hyphen
abbrev pub hex_bytes : List ℕ → Option (List ℕ)
hex_bytes text =
    if pointwise nat_eq text (45 ∷ []) then Some []
    else if length text == 0 then None
    else result_ok (decode_of text)
