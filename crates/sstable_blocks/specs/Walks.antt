-- Walks over the handles of an index, a step for each: what is known after all of them, or the first error; and how many
-- frames the steps ask for.
use Rattle.std.specs.Prelude.{ℕ, ◌+◌, nat_eq, if◌then◌else◌, List, [], ◌∷◌, Result, Ok, Err}
use Rattle.sst_base.specs.Header.{◌>>=◌}
use Rattle.sst_base.specs.declared.error.Error.{Error}
use Rattle.sst_block_core.specs.Handles.{Handle}

-- a step for each handle, up to the first that fails
abbrev pub walked : {P : Type 0} → (P → Handle → Result P Error) → P → List Handle → Result P Error
walked step s [] = Ok s
walked step s (h ∷ hs) = do
  t ← step s h
  walked step t hs

-- how many frames are asked for after a reading: none where it fails
abbrev pub frames_after : {X : Type 0} → Result X Error → (X → ℕ) → ℕ
frames_after (Ok x) frames = frames x
frames_after (Err e) frames = 0

-- the frames of a walk, so many a step, up to the first that fails
abbrev pub walk_frames : {P : Type 0} → (P → Handle → Result P Error) → (P → Handle → ℕ) → P → List Handle → ℕ
walk_frames step frames s [] = 0
walk_frames step frames s (h ∷ hs) = frames s h + frames_after (step s h) (λ t. walk_frames step frames t hs)

-- the one frame of a handle that has to begin at an offset, and does
abbrev pub place_frames : ℕ → Handle → ℕ
place_frames offset h = if nat_eq h.offset offset then 1 else 0
