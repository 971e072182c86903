-- Entry lines: the letter of the type, the sequence number, the key and the value, with single spaces between.
use Rattle.std.specs.Prelude.{◌≡◌, ◌≢◌, ℕ, ◌<◌, ◌^◌, ◌==◌, ◌&&◌, nat_lt, nat_le, if◌then◌else◌, List, [], ◌∷◌, ◌++◌, length, slice_index, Option, Some, None, IsSomeAnd}
use Rattle.std.specs.Fmt.{decimal}
use Rattle.std.specs.Option.{option_map}
use Rattle.hex.specs.Hex.{encode_lower}
use Rattle.std.specs.Str.Parse.{digits_value}
use Rattle.sstable_blocks.specs.ValueTypes.{ValueType, Value, Tombstone, WeakTombstone, Indirection}
use Rattle.sstable_blocks.specs.Prelude.{Entry, IsEntry, plain_value, ◌>>=◌}
use Rattle.sst_program.specs.Text.{IsNumberText, number_of, hex_bytes}

-- the letter of a type: V, T, W, I
abbrev pub letter_of : ValueType → ℕ
letter_of Value = 86
letter_of Tombstone = 84
letter_of WeakTombstone = 87
letter_of Indirection = 73

-- the type that a letter names
abbrev pub type_of_letter : ℕ → Option ValueType
type_of_letter b =
    if b == 86 then Some Value
    else if b == 84 then Some Tombstone
    else if b == 87 then Some WeakTombstone
    else if b == 73 then Some Indirection
    else None

-- the type that bytes name: one letter
abbrev pub type_of_letters : List ℕ → Option ValueType
type_of_letters [] = None
type_of_letters (b ∷ []) = type_of_letter b
type_of_letters (b ∷ c ∷ bytes) = None

-- bytes in lower-case hex, or a hyphen for none
abbrev pub byte_text_of : List ℕ → List ℕ
byte_text_of [] = 45 ∷ []
byte_text_of (byte ∷ bytes) = encode_lower (byte ∷ bytes)

-- the line of an entry, without its line feed
abbrev pub entry_line_of : Entry → List ℕ
entry_line_of e =
    (letter_of e.key.value_type ∷ 32 ∷ []) ++ decimal e.key.seqno ++ (32 ∷ [])
    ++ encode_lower e.key.user_key ++ (32 ∷ []) ++ byte_text_of e.value

-- four parts with single spaces between
abbrev pub joined_by_spaces : List ℕ → List ℕ → List ℕ → List ℕ → List ℕ
joined_by_spaces a b c d = a ++ (32 ∷ (b ++ (32 ∷ (c ++ (32 ∷ d)))))

-- four parts encode an entry: a letter, a number and two byte strings, the second of which a tombstone drops
pub record IsLineOf (letter number key value : List ℕ) (e : Entry) : Type 0 where
  pub is_letter : letter ≡ letter_of e.key.value_type ∷ []
  pub is_number : IsNumberText number
  pub is_seqno : e.key.seqno ≡ digits_value 10 number
  pub is_key : hex_bytes key ≡ Some e.key.user_key
  pub is_value : IsSomeAnd (hex_bytes value) (λ bytes. (e.value ≡ plain_value e.key.value_type bytes) × (length bytes < 2 ^ 32))
  pub is_entry : IsEntry e

-- a line encodes an entry
abbrev pub Encodes : List ℕ → Entry → Type 0
Encodes line e = (letter number key value : List ℕ) × IsLineOf letter number key value e × (line ≡ joined_by_spaces letter number key value)

-- the bytes before the first one of this value, and those after it
unfoldable pub cut_at : ℕ → List ℕ → Option (List ℕ × List ℕ)
cut_at byte [] = None
cut_at byte (b ∷ bytes) = if b == byte then Some ([], bytes) else option_map (λ p. (b ∷ p.0, p.1)) (cut_at byte bytes)

-- no byte has this value
abbrev pub Lacks : ℕ → List ℕ → Type 0
Lacks byte bytes = (k : ℕ) → k < length bytes → slice_index bytes k ≢ byte

-- the entry of these four values, if it keeps the limits of keys and values
abbrev pub entry_within_limits : ValueType → ℕ → List ℕ → List ℕ → Option Entry
entry_within_limits value_type seqno key value =
    if nat_le 1 (length key) && nat_le (length key) 65535 && nat_lt (length value) (2 ^ 32)
    then Some (record { key = record { user_key = key; seqno = seqno; value_type = value_type }; value = plain_value value_type value })
    else None

-- the entry that four parts encode
unfoldable pub entry_of_parts : List ℕ → List ℕ → List ℕ → List ℕ → Option Entry
entry_of_parts letter number key value = do
  value_type ← type_of_letters letter
  seqno ← number_of number
  key_bytes ← hex_bytes key
  value_bytes ← hex_bytes value
  entry_within_limits value_type seqno key_bytes value_bytes

-- the entry that a line encodes: in the parts before, between and after its first three spaces
unfoldable pub entry_of_line : List ℕ → Option Entry
entry_of_line line = do
  letter ← cut_at 32 line
  number ← cut_at 32 letter.1
  key ← cut_at 32 number.1
  entry_of_parts letter.0 number.0 key.0 key.1
