-- What contracts see of an item at which a search stopped.
use Rattle.std.specs.Prelude.{◌≡◌, ℕ, ◌+◌, ◌==◌, if◌then◌else◌, List, slice_get, Option, Some, None, IfSome}
use Rattle.std.specs.Option.{option_map}
use Rattle.std.specs.Ordering.{nat_cmp, is_eq}
use Rattle.std.specs.Cmp.Lexicographic.{slice_cmp}
use Rattle.sst_block_core.specs.Kind.{Kind}
use Rattle.sst_base.specs.Counted.{CountsBetween, found_item}
use Rattle.sst_block_core.specs.Scan.{Listed, Scan, IsPlace}
use Rattle.sst_block_core.specs.Window.{Window, Answer, item, next}
use Rattle.sst_block_core.specs.declared.table.block.candidate.Candidate.{Candidate}

-- the item at an index of a list was decoded, and the place after it is known
pub record IsHeldAt {X P : Type 0} (item_of : List ℕ → P → X) (is_found : List ℕ → P → Type 0) (kind : Kind X) (list : Listed X) (place : ℕ) (l : Candidate P) : Type 0 where
  pub there : slice_get list.items place ≡ Some (item_of list.payload l.item)
  pub found : is_found list.payload l.item
  pub next : l.after.index ≡ place + 1
  pub is_place : IsPlace kind list l.after

-- the same, with how its key compares with a needle
pub record IsCandidateAt {X P : Type 0} (item_of : List ℕ → P → X) (is_found : List ℕ → P → Type 0) (kind : Kind X) (needle : List ℕ) (list : Listed X) (place : ℕ) (l : Candidate P) : Type 0 where
  pub held : IsHeldAt item_of is_found kind list place l
  pub order_is : l.order ≡ slice_cmp nat_cmp (kind.key (item_of list.payload l.item)) needle

-- the item, if its key is the needle
abbrev pub with_needle : {P : Type 0} → Option (Candidate P) → Option P
with_needle None = None
with_needle (Some l) = if is_eq l.order then Some l.item else None

-- the most items that are decoded to find a place after its head: none where each item is a head
abbrev pub scan_cost : ℕ → ℕ
scan_cost r = if r == 1 then 0 else r

-- the list of a window, with its payload and interval
abbrev pub listed_of : {X : Type 0} → Scan X → Listed X
listed_of s = record { payload = s.payload; interval = s.interval; items = s.window.list }

-- a call of `next` is that step of the window, and counts at most an entry for an item
pub record GivesNextHeld {X P : Type 0} (item_of : List ℕ → P → X) (is_found : List ℕ → P → Type 0) (s : Scan X) (r : Option P) (t : Scan X) : Type 0 where
  pub payload : t.payload ≡ s.payload
  pub interval : t.interval ≡ s.interval
  pub step : ◌≡◌ {A = Window X × Answer X} (t.window, item (option_map (item_of s.payload) r)) (next s.window)
  pub found : IfSome r (is_found s.payload)
  pub counts : CountsBetween s.steps t.steps (0, 0) (0, found_item r)
