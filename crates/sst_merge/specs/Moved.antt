-- What clauses know of a source that is moved: its window, where its list is known, and why its steps fail.
use Rattle.std.specs.Prelude.{◌≡◌, ◌⊎◌, ℕ, ◌+◌, ◌-◌, ◌*◌, ◌≤◌, nat_eq, Bool, true, false, List, [], ◌∷◌, map, slice_get, Option, Some, None, Result, IfSome, OnErr, if◌then◌else◌}
use Rattle.std.specs.List.{count_by, sum_by}
use Rattle.std.specs.Option.{option_map}
use Rattle.std.specs.declared.cmp.Ordering.{Ordering}
use Rattle.sstable_blocks.specs.Prelude.{found_item, Step, Window, item, whole}
use Rattle.sstable_blocks.specs.Results.{Error}
use Rattle.sst_merge.specs.Movable.{IsFresh, item_before, merged_window}
use Rattle.sst_sources.specs.Sources.{IsAmong, before, errors_of}
use Rattle.sstable_blocks.specs.Scans.{EndsBy}

-- a source that is moved: its window, where its list is known and no error ended it; the errors that reading the list may
-- give, where they are known; the error that ended it, if one did; how many frames were asked for; from how many tables
-- its blocks are read; and, where the list of a table is known, the places in it at which another block than the first
-- begins
pub record Moved (X : Type 0) : Type 0 where
  pub window : Option (Window X)
  pub errors : Option (List Error)
  pub ended : Option Error
  pub reads : ℕ
  pub tables : ℕ
  pub starts : List ℕ

-- a source in memory: its window is known, reading it gives no error, and no frame is asked for
abbrev pub in_memory : {X : Type 0} → Window X → Moved X
in_memory w = record { window = Some w; errors = Some []; ended = None; reads = 0; tables = 0; starts = [] }

-- a window, an empty one where it is not known
abbrev pub window_or_empty : {X : Type 0} → Option (Window X) → Window X
window_or_empty None = whole []
window_or_empty (Some w) = w

-- the windows of sources
abbrev pub windows : {X : Type 0} → List (Moved X) → List (Window X)
windows {X = X} ms = map (λ (m : Moved X). window_or_empty m.window) ms

-- are the windows of all known?
abbrev pub all_some : {X : Type 0} → Option (Window X) → Bool → Bool
all_some None rest = false
all_some (Some w) rest = rest

abbrev pub are_known : {X : Type 0} → List (Moved X) → Bool
are_known [] = true
are_known (m ∷ ms) = all_some m.window (are_known ms)

-- what is known of a source, where no error ended it
abbrev pub unless_ended : {A : Type 0} → Option Error → Option A → Option A
unless_ended None known = known
unless_ended (Some e) known = None

-- the errors that a step may give beside those of a device: the one that ended the source, and those of reading its list
abbrev pub moved_errors : {X : Type 0} → Moved X → Option (List Error)
moved_errors m = option_map (before m.ended) m.errors

-- the merge of sources, where this error ended it, if one did
abbrev pub merged_moved : {X : Type 0} → (X → X → Ordering) → Option Error → List (Moved X) → Moved X
merged_moved {X = X} cmp ended ms = record {
  window = unless_ended ended (if are_known ms then Some (merged_window cmp (windows ms)) else None);
  errors = errors_of (map (λ (m : Moved X). moved_errors m) ms);
  ended = ended;
  reads = sum_by (λ (m : Moved X). m.reads) ms;
  tables = sum_by (λ (m : Moved X). m.tables) ms;
  starts = [];
}

-- a source that was not moved, where its list is known
abbrev pub IsFreshSource : {X : Type 0} → (X → X → Ordering) → Moved X → Type 0
IsFreshSource cmp m = IfSome m.window (IsFresh cmp)

-- a source, but for how many frames it asked for
abbrev pub but_reads : {X : Type 0} → Moved X → Moved X
but_reads m = record m { reads = 0 }

-- a step of the window, where it is known, gives this item, if it gives one; nothing else changes but the count of frames
pub record IsStep {X : Type 0} (step : Step X) (old : Moved X) (result : Option X) (new : Moved X) : Type 0 where
  pub moved : but_reads new ≡ but_reads (record old { window = option_map (λ w. (step w).0) old.window })
  pub item_is : IfSome old.window (λ w. item result ≡ (step w).1)

-- a search moves an end of the window, where it is known
abbrev pub sought : {X : Type 0} → (Window X → Window X) → Moved X → Moved X
sought f m = record m { window = option_map f m.window }

-- nothing else changes but the count of frames
abbrev pub IsSought : {X : Type 0} → (Window X → Window X) → Moved X → Moved X → Type 0
IsSought f old new = but_reads new ≡ sought f (but_reads old)

-- a step of a source that has ended returns its error again, and a step that fails ends the source
pub record StopsBy {X Y : Type 0} (old new : Moved X) (result : Result Y Error) : Type 0 where
  pub ends : EndsBy old.ended new.ended result
  pub lost : OnErr result (new.window ≡ None)

-- why a step fails: what every step of such a source may fail by, the error that ended it, or one of reading its list
abbrev pub MayStop : {X : Type 0} → (Error → Type 0) → Moved X → Error → Type 0
MayStop may_fail m e = may_fail e ⊎ IfSome (moved_errors m) (IsAmong e)

-- the item after the front, whatever the back is, which is then passed
abbrev pub step_front : {X : Type 0} → Step X
step_front w = (record w { lo = w.lo + found_item (slice_get w.list w.lo) }, item (slice_get w.list w.lo))

-- the item before the back, whatever the front is
abbrev pub step_back : {X : Type 0} → Step X
step_back w = (record w { hi = w.hi - found_item (item_before w.list w.hi) }, item (item_before w.list w.hi))

-- a call asks for at most so many frames, also where it fails, and a source that has ended for none
pub record AsksAtMost {X : Type 0} (n : ℕ) (old new : Moved X) : Type 0 where
  pub grows : old.reads ≤ new.reads
  pub most : new.reads ≤ old.reads + n
  pub none : IfSome old.ended (λ _. new.reads ≡ old.reads)

-- where the list is known, a call asks for exactly as many frames as is told by the tables, the places at which other blocks
-- begin, and the window after the call
abbrev pub AsksByPlace : {X : Type 0} → (ℕ → List ℕ → Window X → ℕ) → Moved X → Moved X → Type 0
AsksByPlace frames old new = IfSome new.window (λ w. new.reads ≡ old.reads + frames new.tables new.starts w)

-- 1 where another block begins at a place, else 0
abbrev pub begins_block : List ℕ → ℕ → ℕ
begins_block starts place = count_by (λ start. nat_eq start place) starts

-- a step asks for a frame where it brings its end to where another block begins
abbrev pub front_frames : {X : Type 0} → ℕ → List ℕ → Window X → ℕ
front_frames tables starts w = begins_block starts w.lo

abbrev pub back_frames : {X : Type 0} → ℕ → List ℕ → Window X → ℕ
back_frames tables starts w = begins_block starts w.hi

-- a search from the front asks for a frame where an item is after the front
abbrev pub seek_frames : {X : Type 0} → ℕ → List ℕ → Window X → ℕ
seek_frames tables starts w = tables * found_item (slice_get w.list w.lo)

-- one from the back asks for a frame where the list has an item, and for one more where the block that it looks into has
-- no such key: another block begins at the back then
abbrev pub seek_upper_frames : {X : Type 0} → ℕ → List ℕ → Window X → ℕ
seek_upper_frames tables starts w = tables * found_item (slice_get w.list 0) + begins_block starts w.hi
