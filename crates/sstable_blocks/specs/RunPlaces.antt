-- Where a run lies in its source.
use Rattle.std.specs.Prelude.{◌≡◌, ◌≢◌, ◌⊎◌, ℕ, ◌+◌, ◌≤◌, ◌<◌, ◌^◌, nat_le, if◌then◌else◌, List, length, take, drop, Option, None, Some, IfSome, Result, IfErr}
use Rattle.std.specs.Option.{option_map}
use Rattle.sst_base.specs.BlockHandle.{HandleParts}
use Rattle.sst_base.specs.declared.error.Error.{Error}
use Rattle.sst_base.specs.declared.error.Error.TheVariants.{BadHandle}
use Rattle.sstable_blocks.specs.declared.run.place.RunPlace.{RunPlace}
use Rattle.sstable_blocks.specs.declared.run.place.RunPlace.TheVariants.{Whole, Part}

-- the bytes in the range of a handle
abbrev pub part_in : List ℕ → HandleParts → List ℕ
part_in bytes h = take h.size (drop h.offset bytes)

-- a part ends below 2^64, and inside the bytes of a source, if these are known
abbrev pub IsInside : HandleParts → Option (List ℕ) → Type 0
IsInside g bytes = (g.offset + g.size < 2 ^ 64) × IfSome bytes (λ all. g.offset + g.size ≤ length all)

-- the bytes of a run at a place, if those of the source are known
abbrev pub bytes_at : RunPlace → Option (List ℕ) → Option (List ℕ)
bytes_at Whole bytes = bytes
bytes_at (Part g) bytes = option_map (λ all. part_in all g) bytes

-- the same of bytes that are known
abbrev pub run_in : RunPlace → List ℕ → List ℕ
run_in Whole all = all
run_in (Part g) all = part_in all g

-- the same of a source
abbrev pub placed : {S : Type 0} → (S → Option (List ℕ)) → RunPlace → S → Option (List ℕ)
placed bytes p s = bytes_at p (bytes s)

-- a place is inside a source
abbrev pub IsPlaced : RunPlace → Option (List ℕ) → Type 0
IsPlaced Whole bytes = Unit {0}
IsPlaced (Part g) bytes = IsInside g bytes

-- the range in the source of a frame of a run: of a part only of one that is inside it
abbrev pub frame_of : RunPlace → HandleParts → Option HandleParts
frame_of Whole h = Some h
frame_of (Part g) h = if nat_le (h.offset + h.size) g.size then Some (record { offset = g.offset + h.offset; size = h.size }) else None

-- a run is the whole source
abbrev pub IsWhole : RunPlace → Type 0
IsWhole Whole = Unit {0}
IsWhole (Part g) = ⊥

-- So many frames are asked for, unless the run is a part of its source and a frame is refused since it is not inside.
abbrev pub AsksAll : {Y : Type 0} → RunPlace → ℕ → Result Y Error → ℕ → ℕ → Type 0
AsksAll p n result before after = IsWhole p ⊎ IfErr result (λ e. e ≢ BadHandle) → after ≡ before + n
