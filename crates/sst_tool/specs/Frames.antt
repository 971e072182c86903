-- Frames that follow each other.
use Rattle.std.specs.Prelude.{ℕ, ◌+◌, ◌-◌, ◌^◌, ◌&&◌, min, nat_eq, Bool, true, List, [], ◌∷◌}
use Rattle.sstable_blocks.specs.Prelude.{HandleParts, Handle}
use Rattle.sstable_blocks.specs.Opened.{range_of}

-- the offset after a frame; none is greater than a file's
abbrev pub offset_after : HandleParts → ℕ
offset_after h = min (h.offset + h.size) (2 ^ 64 - 1)

-- the frames of data blocks follow each other from an offset on
abbrev pub follow_from : ℕ → List Handle → Bool
follow_from at [] = true
follow_from at (h ∷ hs) = nat_eq h.offset at && follow_from (offset_after (range_of h)) hs
