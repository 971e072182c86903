-- Tables whose ends are moved: their blocks, where they are known, and what is held at the ends.
use Rattle.std.specs.Prelude.{◌≡◌, ◌⊎◌, ℕ, ◌+◌, ◌-◌, ◌&&◌, Bool, true, false, List, [], ◌∷◌, ◌++◌, length, map, slice_get, Option, Some, None, Result, Ok, Err, IfSome, if◌then◌else◌}
use Rattle.std.specs.Cmp.Lexicographic.{slice_cmp}
use Rattle.std.specs.Option.{option_map}
use Rattle.std.specs.Ordering.{is_eq, nat_cmp}
use Rattle.sstable_blocks.specs.Prelude.{found_item, Entry, is_in_order, Handle, Scan, Window, items_left}
use Rattle.sstable_blocks.specs.Results.{Error, Memory}
use Rattle.sstable_blocks.specs.Blocks.{joined}
use Rattle.sstable_blocks.specs.Opened.{range_of}
use Rattle.sstable_blocks.specs.RunReading.{Hashes, block_items_at}
use Rattle.sstable_blocks.specs.Tables.{TableParts}
use Rattle.sst_sources.specs.Merge.{entry_cmp}
use Rattle.sst_merge.specs.Movable.{item_before}
use Rattle.sst_merge.specs.MovableBlocks.{HoldsBack, HoldsFront, back_place, front_place, window_of}
use Rattle.sst_merge.specs.Moved.{Moved, unless_ended}
use Rattle.sst_sources.specs.Sources.{IsAmong}
use Rattle.sst_sources.specs.Stored.{MayFailAnyTime, reported}
use Rattle.sst_merge.specs.declared.movable_blocks.Open.{Open}
use Rattle.sst_merge.specs.declared.open_end.OpenEnd.{OpenEnd}

-- what is read of each block
abbrev pub block_reads : Hashes → List ℕ → List Handle → List (Result (List Entry) Error)
block_reads c bytes index = map (λ (h : Handle). block_items_at c bytes (range_of h)) index

-- the blocks, where each is read
abbrev pub with_block : Result (List Entry) Error → Option (List (List Entry)) → Option (List (List Entry))
with_block (Err e) rest = None
with_block (Ok block) None = None
with_block (Ok block) (Some blocks) = Some (block ∷ blocks)

abbrev pub read_blocks : List (Result (List Entry) Error) → Option (List (List Entry))
read_blocks [] = Some []
read_blocks (r ∷ reads) = with_block r (read_blocks reads)

-- has a block an entry, and its last one the key of its handle?
abbrev pub ends_with : Handle → Option Entry → Bool
ends_with h None = false
ends_with h (Some e) = is_eq (slice_cmp nat_cmp h.end_key e.key.user_key)

abbrev pub have_ends : List Handle → List (List Entry) → Bool
have_ends [] [] = true
have_ends [] (block ∷ blocks) = false
have_ends (h ∷ index) [] = false
have_ends (h ∷ index) (block ∷ blocks) = ends_with h (item_before block (length block)) && have_ends index blocks

-- from which number on a search over the ends of blocks passes the sought key: from none, or from the least
abbrev pub search_from : Bool → Option ℕ
search_from false = None
search_from true = Some 0

-- blocks, where the entries of all are in order, and each ends with its handle's key
abbrev pub fit_blocks : List Handle → Option (List (List Entry)) → Option (List (List Entry))
fit_blocks index None = None
fit_blocks index (Some blocks) = if is_in_order entry_cmp (joined blocks) && have_ends index blocks then Some blocks else None

-- the blocks of a table, where its bytes are known, each is read, and they fit together as the index says
unfoldable pub table_blocks : Hashes → Option (List ℕ) → List Handle → Option (List (List Entry))
table_blocks c None index = None
table_blocks c (Some bytes) index = fit_blocks index (read_blocks (block_reads c bytes index))

-- the errors that reading the blocks may give
abbrev pub errors_in : List (Result (List Entry) Error) → List Error
errors_in [] = []
errors_in (Ok block ∷ reads) = errors_in reads
errors_in (Err e ∷ reads) = reported e ++ errors_in reads

unfoldable pub table_errors : Hashes → Option (List ℕ) → List Handle → Option (List Error)
table_errors c bytes index = option_map (λ all. errors_in (block_reads c all index)) bytes

-- what every step may fail by: an allocation, or a device
abbrev pub AnyStepFails : {S : Type 0} → (S → Type 0) → Error → Type 0
AnyStepFails is_reliable e = (e ≡ Memory) ⊎ MayFailAnyTime is_reliable e

-- why a block is not read: a step's, or the block's error
abbrev pub TableStops : {S : Type 0} → Hashes → (S → Option (List ℕ)) → (S → Type 0) → TableParts S → Error → Type 0
TableStops c bytes is_reliable t e = AnyStepFails is_reliable e ⊎ IfSome (table_errors c (bytes t.source) t.index) (IsAmong e)

-- a table stays as it is, but for its source, whose bytes stay
pub record KeepsTable {S : Type 0} (bytes : S → Option (List ℕ)) (old new : TableParts S) : Type 0 where
  pub kept : new ≡ record old { source = new.source }
  pub same : bytes new.source ≡ bytes old.source

-- a block that is open at an end of a table
abbrev pub TableEnd : Type 0
TableEnd = OpenEnd (Scan Entry)

-- what is held at an end, as at an end of blocks that are all open
abbrev pub end_of : TableEnd → Open
end_of e = record { block = e.block; at = e.at; views = items_left e.left.window; held = e.held }

abbrev pub end_in : Option TableEnd → Option Open
end_in None = None
end_in (Some e) = Some (end_of e)

-- the block that is open at an end is the one at its index, all of it
abbrev pub IsWholeBlock : List (List Entry) → Option TableEnd → Type 0
IsWholeBlock blocks None = Unit {0}
IsWholeBlock blocks (Some e) = slice_get blocks e.block ≡ Some e.left.window.list

-- the front of a table at a place of its list, and the back
pub record IsFrontAt (blocks : List (List Entry)) (place : ℕ) (front : Option TableEnd) : Type 0 where
  pub holds : HoldsFront blocks (end_in front)
  pub whole : IsWholeBlock blocks front
  pub place_is : front_place blocks (end_in front) ≡ place

pub record IsBackAt (blocks : List (List Entry)) (place : ℕ) (back : Option TableEnd) : Type 0 where
  pub holds : HoldsBack blocks (end_in back)
  pub place_is : back_place blocks (end_in back) ≡ place

-- the ends of a table
pub record AreTableEnds (front back : Option TableEnd) (blocks : List (List Entry)) : Type 0 where
  pub front_holds : HoldsFront blocks (end_in front)
  pub front_whole : IsWholeBlock blocks front
  pub back_holds : HoldsBack blocks (end_in back)

-- the entry at the front is taken, and the front moved after it
pub record GoesForth (old new : Option TableEnd) (result : Option Entry) (blocks : List (List Entry)) : Type 0 where
  pub item_is : result ≡ slice_get (joined blocks) (front_place blocks (end_in old))
  pub front : IsFrontAt blocks (front_place blocks (end_in old) + found_item result) new

-- the entry before the back is taken, and the back moved before it
pub record GoesBack (old new : Option TableEnd) (result : Option Entry) (blocks : List (List Entry)) : Type 0 where
  pub item_is : result ≡ item_before (joined blocks) (back_place blocks (end_in old))
  pub back : IsBackAt blocks (back_place blocks (end_in old) - found_item result) new

-- what holds of the blocks of a table, where they are known
abbrev pub OfBlocks : {S : Type 0} → Hashes → (S → Option (List ℕ)) → TableParts S → (List (List Entry) → Type 0) → Type 0
OfBlocks c bytes t holds = IfSome (table_blocks c (bytes t.source) t.index) holds

-- the places at which blocks begin, the first of them at this one
abbrev pub starts_from : ℕ → List (List Entry) → List ℕ
starts_from place [] = []
starts_from place (block ∷ blocks) = place ∷ starts_from (place + length block) blocks

-- the places of a list in blocks at which another block than the first begins, where the blocks are known
abbrev pub later_starts : Option (List (List Entry)) → List ℕ
later_starts None = []
later_starts (Some []) = []
later_starts (Some (block ∷ blocks)) = starts_from (length block) blocks

-- a table whose ends were moved
abbrev pub table_moved : {S : Type 0} → Hashes → (S → Option (List ℕ)) → (S → ℕ) → TableParts S → Option TableEnd → Option TableEnd → Option Error → Moved Entry
table_moved c bytes reads t front back ended = record {
  window = unless_ended ended (option_map (λ blocks. window_of blocks (end_in front) (end_in back)) (table_blocks c (bytes t.source) t.index));
  errors = table_errors c (bytes t.source) t.index;
  ended = ended;
  reads = reads t.source;
  tables = 1;
  starts = later_starts (table_blocks c (bytes t.source) t.index);
}

-- how many frames were asked for before and after a call: one more, where a block is there to be read, and else no more
pub record AsksWhere (There : Type 0) (before after : ℕ) : Type 0 where
  pub one : There → after ≡ before + 1
  pub none : (There → ⊥) → after ≡ before

-- where the blocks are known, a call asks for exactly as many frames as is told by where they begin and where its ends
-- stand after it
abbrev pub AsksByEnds : {S : Type 0} → Hashes → (S → Option (List ℕ)) → (S → ℕ) → (ℕ → List ℕ → Window Entry → ℕ) → TableParts S → TableParts S → Option TableEnd → Option TableEnd → Type 0
AsksByEnds c bytes reads frames old new front back = OfBlocks c bytes old (λ blocks. reads new.source ≡ reads old.source + frames 1 (later_starts (Some blocks)) (window_of blocks (end_in front) (end_in back)))
