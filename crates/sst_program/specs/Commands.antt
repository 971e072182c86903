-- The words that encode a command.
use Rattle.std.specs.Prelude.{ℕ, ◌-◌, ◌^◌, nat_eq, if◌then◌else◌, codes, List, [], ◌∷◌, Option, Some, None}
use Rattle.std.specs.Cmp.Lexicographic.{pointwise}
use Rattle.std.specs.Option.{option_map}
use Rattle.std.specs.Str.{is_utf8}
use Rattle.sstable_blocks.specs.Prelude.{◌>>=◌, HashRatio}
use Rattle.sstable_blocks.specs.declared.run.RunConfig.{RunConfig}
use Rattle.sst_program.specs.Query.{Query, Packing, Lookup}
use Rattle.sst_program.specs.Text.{number_of, number_within, hex_bytes}
use Rattle.sst_program.specs.declared.words.Command.{Command}
use Rattle.sst_program.specs.declared.words.Command.TheVariants.{Point, Pack, Get, Walk, Check}
use Rattle.sst_program.specs.declared.words.Name.{Name}
use Rattle.sst_program.specs.declared.words.Name.TheVariants.{Point as PointName, Pack as PackName, Get as GetName, Walk as WalkName, Check as CheckName}

-- the command that a word names
unfoldable pub name_of : List ℕ → Option Name
name_of word =
    if pointwise nat_eq word (codes "point") then Some PointName
    else if pointwise nat_eq word (codes "pack") then Some PackName
    else if pointwise nat_eq word (codes "get") then Some GetName
    else if pointwise nat_eq word (codes "walk") then Some WalkName
    else if pointwise nat_eq word (codes "check") then Some CheckName
    else None

-- the file that a word names
abbrev pub file_of : List ℕ → Option (List ℕ)
file_of word = if is_utf8 word then Some word else None

-- INTERVAL KEYHEX SEQNO
unfoldable pub query_of : List ℕ → List ℕ → List ℕ → Option Query
query_of interval key seqno = do
  r ← number_within 1 255 interval
  s ← number_of seqno
  needle ← hex_bytes key
  Some (record { interval = r; needle = needle; seqno = s })

unfoldable pub point_of_words : List (List ℕ) → Option Query
point_of_words (interval ∷ key ∷ seqno ∷ []) = query_of interval key seqno
point_of_words words = None

-- NUM DEN
unfoldable pub ratio_of : List ℕ → List ℕ → Option HashRatio
ratio_of num den = do
  n ← number_within 0 (2 ^ 32 - 1) num
  d ← number_within 1 (2 ^ 32 - 1) den
  Some (record { num = n; den = d })

-- INTERVAL, a ratio, BITS and the index interval
unfoldable pub config_of : List ℕ → Option HashRatio → List ℕ → Option ℕ → Option RunConfig
config_of interval ratio bits index_interval = do
  r ← number_within 1 255 interval
  h ← ratio
  b ← number_within 0 (2 ^ 32 - 1) bits
  q ← index_interval
  Some (record { restart_interval = r; ratio = h; bits_per_key = b; index_interval = q })

-- [INDEX_INTERVAL], 1 in its absence
unfoldable pub index_interval_of : List (List ℕ) → Option ℕ
index_interval_of [] = Some 1
index_interval_of (word ∷ []) = number_within 1 255 word
index_interval_of (word ∷ other ∷ words) = None

-- a file, how it is written, and PER_BLOCK
unfoldable pub packing_of : List ℕ → Option RunConfig → List ℕ → Option Packing
packing_of file config per_block = do
  name ← file_of file
  c ← config
  n ← number_within 1 (2 ^ 32 - 1) per_block
  Some (record { file = name; config = c; per_block = n })

-- FILE INTERVAL NUM DEN BITS PER_BLOCK [INDEX_INTERVAL]
unfoldable pub pack_of_words : List (List ℕ) → Option Packing
pack_of_words (file ∷ interval ∷ num ∷ den ∷ bits ∷ per_block ∷ words) =
    packing_of file (config_of interval (ratio_of num den) bits (index_interval_of words)) per_block
pack_of_words words = None

-- FILE KEYHEX SEQNO
unfoldable pub find_of : List ℕ → List ℕ → List ℕ → Option Lookup
find_of file key seqno = do
  name ← file_of file
  s ← number_of seqno
  needle ← hex_bytes key
  Some (record { file = name; needle = needle; seqno = s })

unfoldable pub get_of_words : List (List ℕ) → Option Lookup
get_of_words (file ∷ key ∷ seqno ∷ []) = find_of file key seqno
get_of_words words = None

-- FILE
unfoldable pub file_of_words : List (List ℕ) → Option (List ℕ)
file_of_words (file ∷ []) = file_of file
file_of_words words = None

-- the command of this name that words encode
abbrev pub command_named : Option Name → List (List ℕ) → Option Command
command_named None words = None
command_named (Some PointName) words = option_map Point (point_of_words words)
command_named (Some PackName) words = option_map Pack (pack_of_words words)
command_named (Some GetName) words = option_map Get (get_of_words words)
command_named (Some WalkName) words = option_map Walk (file_of_words words)
command_named (Some CheckName) words = option_map Check (file_of_words words)

-- the command that words encode: its name, and its arguments
unfoldable pub command_of_words : List (List ℕ) → Option Command
command_of_words [] = None
command_of_words (name ∷ words) = command_named (name_of name) words
