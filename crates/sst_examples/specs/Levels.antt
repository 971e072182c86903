-- What a store holds: versions in memory and in tables.
use Rattle.std.specs.Prelude.{◌≡◌, ◌≢◌, ℕ, ◌+◌, ◌^◌, ◌<◌, ◌≤◌, ◌⊎◌, List, [], Option, Some, None}
use Rattle.std.specs.List.{AllByRecursion}
use Rattle.sstable_blocks.specs.Prelude.{Entry, plain, entries, IsOrdered, first_match}
use Rattle.sstable_blocks.specs.Results.{Error, Memory, TooLong}
use Rattle.sstable_blocks.specs.ValueTypes.{ValueType}
use Rattle.sst_sources.specs.Merge.{entry_cmp, merge}
use Rattle.sst_merge.specs.Snapshot.{seen}

-- what clauses see of a store: the versions in memory and those of its tables, both in order, the next sequence number, and
-- the snapshots that are open
pub record Levels : Type 0 where
  pub memory : List Entry
  pub stored : List Entry
  pub next : ℕ
  pub snapshots : List ℕ

-- all versions, in order
abbrev pub versions : Levels → List Entry
versions store = merge entry_cmp store.memory store.stored

-- what a read of a key sees of the versions below a sequence number: none where the newest one is a tombstone
abbrev pub read : Levels → List ℕ → ℕ → Option Entry
read store key seqno = seen (first_match entries key seqno (versions store))

-- a version of a key
abbrev pub version : List ℕ → ℕ → ValueType → List ℕ → Entry
version key seqno value_type value = record { key = record { user_key = key; seqno = seqno; value_type = value_type }; value = value }

-- A version of a key was written with the next sequence number: reads of the key above that number see this, and all
-- other reads what they saw.
pub record IsVersionWritten (old new : Levels) (key : List ℕ) (shown : Option Entry) : Type 0 where
  pub next : new.next ≡ old.next + 1
  pub snapshots : new.snapshots ≡ old.snapshots
  pub above : (seqno : ℕ) → old.next < seqno → read new key seqno ≡ shown
  pub below : (seqno : ℕ) → seqno ≤ old.next → read new key seqno ≡ read old key seqno
  pub others : (other : List ℕ) (seqno : ℕ) → other ≢ key → read new other seqno ≡ read old other seqno

-- why a write fails: the sequence numbers are used up, or an allocation failed
abbrev pub IsFull : Levels → Error → Type 0
IsFull store e = ((e ≡ TooLong) × (2 ^ 64 ≤ store.next + 1)) ⊎ (e ≡ Memory)

-- versions have numbers below the next sequence number
abbrev pub AreBelow : ℕ → List Entry → Type 0
AreBelow next items = AllByRecursion (λ x. x.key.seqno < next) items

-- each of these versions is newer than each of those
abbrev pub AreNewer : List Entry → List Entry → Type 0
AreNewer newer older = AllByRecursion (λ x. AreBelow x.key.seqno older) newer

-- versions are as decoded: tombstones have no value
abbrev pub ArePlain : List Entry → Type 0
ArePlain items = AllByRecursion (λ x. plain x ≡ x) items

-- entries, where they are known
abbrev pub or_none : Option (List Entry) → List Entry
or_none None = []
or_none (Some items) = items

-- the levels of a store: versions in memory, those of the tables, the next sequence number, and the open snapshots
abbrev pub levels : List Entry → Option (List Entry) → ℕ → List ℕ → Levels
levels memory tables next snapshots = record { memory = memory; stored = or_none tables; next = next; snapshots = snapshots }

-- both levels are in order, with numbers below the next one; the versions in memory are newer, and as decoded; those of
-- the tables are known
pub record AreLevels (memory : List Entry) (tables : Option (List Entry)) (next : ℕ) : Type 0 where
  pub memory_ordered : IsOrdered entries memory
  pub memory_plain : ArePlain memory
  pub memory_below : AreBelow next memory
  pub older : List Entry
  pub known : tables ≡ Some older
  pub older_ordered : IsOrdered entries older
  pub older_below : AreBelow next older
  pub newer : AreNewer memory older
