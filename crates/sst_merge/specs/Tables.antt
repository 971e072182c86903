-- Tables that are written of what is left of a source.
use Rattle.std.specs.Prelude.{◌≡◌, ◌≢◌, ◌∷◌, ◌++◌, ℕ, ◌+◌, ◌-◌, ◌^◌, ◌<◌, ◌≤◌, ◌⊎◌, min, List, [], length, map, take, drop, slice_get, Option, Some, None, IfSome}
use Rattle.std.specs.Option.{option_map}
use Rattle.std.specs.List.{sum_by, AllByRecursion}
use Rattle.sstable_blocks.specs.Prelude.{Entry, body, entries, IsOrdered}
use Rattle.sstable_blocks.specs.Results.{Error, Io, OutOfOrder, TooLong}
use Rattle.sstable_blocks.specs.Blocks.{joined}
use Rattle.sstable_blocks.specs.Writing.{Follows}
use Rattle.sstable_blocks.specs.declared.run.RunHandles.{RunHandles}
use Rattle.sst_sources.specs.Sources.{IsTaken, Left, MayGive, MeetsNoMore}
use Rattle.sstable_blocks.specs.TableKinds.{TableKind}
use Rattle.sst_merge.specs.declared.writing.Sizes.{Sizes}

-- the last of these entries and the first one after them, if both are there, have different user keys
abbrev pub IsApart : List Entry → List Entry → Type 0
IsApart xs rest = (last next : Entry) → slice_get xs (length xs - 1) ≡ Some last → slice_get rest 0 ≡ Some next → last.key.user_key ≢ next.key.user_key

-- the bytes of a block's entries as they are encoded at a restart interval
abbrev pub block_len : ℕ → List Entry → ℕ
block_len r block = length (body entries r block)

-- the bytes of the entries of all blocks
abbrev pub blocks_len : ℕ → List (List Entry) → ℕ
blocks_len r blocks = sum_by (block_len r) blocks

-- a sum that stays at the greatest number of 64 bits
abbrev pub capped : ℕ → ℕ
capped n = min n (2 ^ 64 - 1)

-- a length reaches a size, or nothing is left after it
abbrev pub Reaches : ℕ → ℕ → Option (List Entry) → Type 0
Reaches size len rest = (size ≤ len) ⊎ IfSome rest (λ xs. xs ≡ [])

-- a block ends with the entry with which it reaches its size: no fewer of its entries, but for none, reach it
pub record IsFilled (r size : ℕ) (rest : Option (List Entry)) (block : List Entry) : Type 0 where
  pub reaches : Reaches size (block_len r block) rest
  pub below : (n : ℕ) → 1 ≤ n → n < length block → block_len r (take n block) < size

-- no fewer of the blocks, but for none, both reach a size and end before another user key
abbrev pub IsShortest : ℕ → ℕ → List (List Entry) → Type 0
IsShortest r size blocks = (n : ℕ) → 1 ≤ n → n < length blocks → IsApart (joined (take n blocks)) (joined (drop n blocks)) → blocks_len r (take n blocks) < size

-- the entries for which the items of a list stand, where these are known
abbrev pub entries_in : {X : Type 0} → (X → Entry) → Option (List X) → Option (List Entry)
entries_in entry items = option_map (map entry) items

-- the items of a block were taken from what is left of a source: they end with the one with which they reach a size, and
-- are at least one, if one was left
pub record TakesBlock {X : Type 0} (entry : X → Entry) (r size : ℕ) (before : Left X) (block : List X) (after : Left X) : Type 0 where
  pub taken : IsTaken before.list block after.list
  pub filled : IsFilled r size (entries_in entry after.list) (map entry block)
  pub some : (1 ≤ length block) ⊎ IfSome after.list (λ xs. xs ≡ [])
  pub most : after.most + length block ≤ before.most
  pub ended : after.ended ≡ before.ended
  pub no_more : MeetsNoMore before after

-- a block that was taken is not the next one of a table: the blocks do not fit with it, or it is not in order
abbrev pub IsNoBlock : TableKind → List (List Entry) → List Entry → Error → Type 0
IsNoBlock t blocks block e = ((e ≡ TooLong) × (t.fits (blocks ++ block ∷ []) → ⊥)) ⊎ ((e ≡ OutOfOrder) × (Follows blocks block → ⊥))

-- why the next block of a table is not written: its source fails, or the writer, or the items taken are no block of it
abbrev pub MayNotAdd : {X : Type 0} → (Error → Type 0) → Type 0 → (X → Entry) → TableKind → List (List Entry) → ℕ → Left X → List X → Left X → Error → Type 0
MayNotAdd may_fail writer_fails entry t blocks size before block after e =
    MayGive may_fail before e ⊎ (((e ≡ Io) × writer_fails) ⊎ (TakesBlock entry t.interval size before block after × IsNoBlock t blocks (map entry block) e))

-- the first entries of a list, cut into blocks by their size, do not fit a table
pub record IsTooLong (t : TableKind) (size : ℕ) (given : Option (List Entry)) : Type 0 where
  pub blocks : List (List Entry)
  pub rest : Option (List Entry)
  pub taken : IsTaken given (joined blocks) rest
  pub filled : AllByRecursion (IsFilled t.interval size rest) blocks
  pub long : t.fits blocks → ⊥

-- a known list is not in order
abbrev pub IsOutOfOrder : Option (List Entry) → Type 0
IsOutOfOrder given = IfSome given (λ xs. IsOrdered entries xs → ⊥)

-- why the next table of a source is not written: its source fails, or the writer, or its blocks do not fit, or the
-- entries are not in order
abbrev pub MayNotWrite : {X : Type 0} → (Error → Type 0) → Type 0 → (X → Entry) → TableKind → ℕ → Left X → Error → Type 0
MayNotWrite may_fail writer_fails entry t size s e =
    MayGive may_fail s e ⊎ (((e ≡ Io) × writer_fails) ⊎ (((e ≡ TooLong) × IsTooLong t size (entries_in entry s.list)) ⊎ ((e ≡ OutOfOrder) × IsOutOfOrder (entries_in entry s.list))))

-- a writer's known bytes grew by a table, whose entries were taken from a list. Each block ends with the entry
-- with which it reaches its size, and the table with the first block with which it reaches its own and after which
-- another user key comes; both may be smaller only where nothing is left
pub record IsTableOf (t : TableKind) (sizes : Sizes) (old new : Option (List ℕ)) (handles : RunHandles) (before after : Option (List Entry)) : Type 0 where
  pub blocks : List (List Entry)
  pub layout : t.appends blocks old new handles
  pub some : 1 ≤ length (joined blocks)
  pub taken : IsTaken before (joined blocks) after
  pub apart : IfSome after (IsApart (joined blocks))
  pub filled : AllByRecursion (IsFilled t.interval sizes.block after) blocks
  pub reaches : Reaches sizes.table (blocks_len t.interval blocks) after
  pub shortest : IfSome before (λ _. IsShortest t.interval sizes.table blocks)
