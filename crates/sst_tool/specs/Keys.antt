-- Keys as words.
use Rattle.std.specs.Prelude.{ℕ, ◌+◌, List, [], ◌∷◌, drop, take, map, nat_eq, nat_lt, slice_get, codes, if◌then◌else◌, Option, Some, None}
use Rattle.std.specs.Cmp.Lexicographic.{pointwise}
use Rattle.std.specs.Result.{result_ok}
use Rattle.std.specs.declared.ops.Bound.TheVariants.{Included}
use Rattle.hex.specs.Hex.{decode_of}
use Rattle.sstable_blocks.specs.Prelude.{Entry, plain, entries, first_match}
use Rattle.sstable_blocks.specs.Scans.{KeyRange, within}

-- the key that a word names: the bytes that the hex digits after `hex:` encode, if they are pairs of such, or else the
-- bytes of the word
abbrev pub key_of_word : List ℕ → Option (List ℕ)
key_of_word word = if pointwise nat_eq (take 4 word) (codes "hex:") then result_ok (decode_of (drop 4 word)) else Some word

-- the range of one key
abbrev pub only_key : List ℕ → KeyRange
only_key key = record { from = Included key; to = Included key }

-- what is read of entries in order: the newest version of a key, or the newest below a sequence number
abbrev pub read_of : Option ℕ → List ℕ → List Entry → Option Entry
read_of None key items = slice_get (within (only_key key) (map plain items)) 0
read_of (Some at) key items = first_match entries key at items

abbrev pub first_or : ℕ → Option (List ℕ) → Option (List ℕ)
first_or x (Some xs) = Some (x ∷ xs)
first_or x None = if nat_lt x 255 then Some ((x + 1) ∷ []) else None

-- the least key above all that begin with a prefix: where some byte after the first is not 255, that of the rest after
-- the first; else the first byte greater by 1, if it is not 255
abbrev pub prefix_end : List ℕ → Option (List ℕ)
prefix_end [] = None
prefix_end (x ∷ xs) = first_or x (prefix_end xs)
