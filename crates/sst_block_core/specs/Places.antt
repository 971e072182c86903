-- What contracts see of the items of a block: the place of one, and what is decoded there.
use Rattle.std.specs.Prelude.{◌≡◌, ℕ, ◌<◌, List, length, slice_get, Some}
use Rattle.sst_block_core.specs.Kind.{Kind}
use Rattle.sst_block_core.specs.Scan.{Listed, IsPlace}
use Rattle.sst_block_core.specs.declared.table.block.place.Place.{Place}

-- a place is the place of an item of a block, not the place after the last item
pub record IsItemPlace {X : Type 0} (kind : Kind X) (list : Listed X) (at : Place) : Type 0 where
  pub inside : at.index < length list.items
  pub is_place : IsPlace kind list at

-- what was decoded is the item at an index of a list, and its ranges lie in the payload
pub record IsItemAt {X P : Type 0} (item_of : List ℕ → P → X) (is_found : List ℕ → P → Type 0) (list : Listed X) (index : ℕ) (p : P) : Type 0 where
  pub there : slice_get list.items index ≡ Some (item_of list.payload p)
  pub found : is_found list.payload p
