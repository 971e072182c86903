-- Snapshots of lists of entries.
use Rattle.std.specs.Prelude.{ℕ, nat_lt, Bool, false, not, ◌&&◌, if◌then◌else◌, List, [], ◌∷◌, Option, Some, None}
use Rattle.std.specs.Ordering.{nat_cmp, is_eq}
use Rattle.std.specs.Cmp.Lexicographic.{slice_cmp}
use Rattle.std.specs.List.{list_any}
use Rattle.sstable_blocks.specs.Prelude.{Entry, is_tombstone}

-- what a reader sees of a version: none of a tombstone
abbrev pub seen : Option Entry → Option Entry
seen None = None
seen (Some e) = if is_tombstone e.key.value_type then None else Some e

-- the items that pass a test, which sees those before an item, the nearest first, the item, and those after it
abbrev pub kept_between : {X : Type 0} → (List X → X → List X → Bool) → List X → List X → List X
kept_between test before [] = []
kept_between test before (x ∷ xs) = if test before x xs then x ∷ kept_between test (x ∷ before) xs else kept_between test (x ∷ before) xs

-- the items that pass a test, which sees those before an item, and the item
abbrev pub kept_after : {X : Type 0} → (List X → X → Bool) → List X → List X → List X
kept_after test = kept_between (λ before x behind. test before x)

module _ {X : Type 0} (entry : X → Entry) where
  -- does a version have the last key?
  abbrev pub has_last_key : Option (List ℕ) → X → Bool
  has_last_key None e = false
  has_last_key (Some last) e = is_eq (slice_cmp nat_cmp (entry e).key.user_key last)

  -- a version before others, unless it is a tombstone
  abbrev pub unless_deleted : X → List X → List X
  unless_deleted e es = if is_tombstone (entry e).key.value_type then es else e ∷ es

  -- is this the first version of its key below a sequence number, after those of the last key?
  abbrev pub is_newest : ℕ → Option (List ℕ) → X → Bool
  is_newest seqno last e = nat_lt (entry e).key.seqno seqno && not (has_last_key last e)

  -- for each key but the last one, the first version below a sequence number, unless it is a tombstone
  abbrev pub visible_from : ℕ → Option (List ℕ) → List X → List X
  visible_from seqno last [] = []
  visible_from seqno last (e ∷ es) = if is_newest seqno last e then unless_deleted e (visible_from seqno (Some (entry e).key.user_key) es) else visible_from seqno last es

  -- for each user key the first version below a sequence number; a tombstone hides its key
  abbrev pub snapshot : ℕ → List X → List X
  snapshot seqno items = visible_from seqno None items

  -- is one of these a version of the same key below a sequence number?
  abbrev pub has_version : ℕ → List X → X → Bool
  has_version seqno items e = list_any (λ d. nat_lt (entry d).key.seqno seqno && has_last_key (Some (entry d).key.user_key) e) items

  -- does a snapshot show a version, where these are before it? It is below the sequence number, none of its key that is
  -- below the number is before it, and it is no tombstone
  abbrev pub is_shown : ℕ → List X → X → Bool
  is_shown seqno before e = nat_lt (entry e).key.seqno seqno && (not (has_version seqno before e) && not (is_tombstone (entry e).key.value_type))

  -- the versions of an ordered list that a snapshot shows
  abbrev pub shown : ℕ → List X → List X
  shown seqno items = kept_after (is_shown seqno) [] items
