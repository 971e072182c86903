-- What `point` prints: the block of all entries in hex, and the entry that is found in it.
use Rattle.std.specs.Prelude.{ℕ, List, [], ◌∷◌, ◌++◌, map, codes, Option, Some, None}
use Rattle.hex.specs.Hex.{encode_lower}
use Rattle.sstable_blocks.specs.Prelude.{Entry, plain, poly31, entries, data_payload, first_match}
use Rattle.sst_program.specs.Line.{entry_line_of}

-- the payload of the block: no buckets, so the hash plays no part
abbrev pub point_payload : List Entry → ℕ → List ℕ
point_payload items interval = data_payload (poly31 64) items interval 0

-- the line of what is found
abbrev pub answer_line_of : Option Entry → List ℕ
answer_line_of None = codes "none"
answer_line_of (Some e) = entry_line_of e

-- both lines, with their line feeds
abbrev pub point_text_of : List Entry → ℕ → List ℕ → ℕ → List ℕ
point_text_of items interval needle seqno =
    encode_lower (point_payload items interval) ++ (10 ∷ [])
    ++ answer_line_of (first_match entries needle seqno (map plain items)) ++ (10 ∷ [])
