-- Where items are, by the first places of an array.
use Rattle.std.specs.Prelude.{◌≡◌, ℕ, List, length, drop, slice_get, Some}
use Rattle.sstable_blocks.specs.Prelude.{Entry}
use Rattle.sst_calls.specs.Blocks.{IsPlaceOf}
use Rattle.sst_calls.specs.declared.data_block.SstPlace.{SstPlace}

-- the first places of an array say where these items are, one place for each; the places after them are left as they were
pub record AreAt {F X : Type 0} (IsAt : F → X → Type 0) (items : List X) (old new : List F) : Type 0 where
  pub each : (i : ℕ) (f : F) (e : X) → slice_get new i ≡ Some f → slice_get items i ≡ Some e → IsAt f e
  pub others : drop (length items) new ≡ drop (length items) old
  pub kept : length new ≡ length old

-- the first places of an array say where these entries are in a payload
abbrev pub AreListed : List ℕ → List Entry → List SstPlace → List SstPlace → Type 0
AreListed p items old new = AreAt (IsPlaceOf p) items old new
