-- Compactions of ordered lists of versions, for several snapshots: `staying` says of each version whether it stays, by
-- those before it and after it, and `compacted` by the last one that a snapshot sees and the next one that it does not
-- hide; `StayLaws` has that these are the same.
use Rattle.std.specs.Prelude.{ℕ, ◌≤◌, nat_lt, nat_le, nat_eq, Bool, true, false, not, ◌&&◌, ◌||◌, ◌⊎◌, ◌≡◌, if◌then◌else◌, List, [], ◌∷◌, Option, Some, None}
use Rattle.std.specs.List.{list_any, list_all}
use Rattle.std.specs.Option.{option_map}
use Rattle.sstable_blocks.specs.Prelude.{Entry, is_tombstone}
use Rattle.sst_merge.specs.Snapshot.{has_last_key, kept_between}
use Rattle.sst_sources.specs.Sources.{Left}

-- does a snapshot see a version with this number? It sees those strictly below its own
abbrev pub is_seen : List ℕ → ℕ → Bool
is_seen snapshots seqno = list_any (λ s. nat_lt seqno s) snapshots

-- does a snapshot see a version with the first number, and not one with the second?
abbrev pub is_parted : List ℕ → ℕ → ℕ → Bool
is_parted snapshots seqno newer = list_any (λ s. nat_lt seqno s && nat_le s newer) snapshots

-- does every snapshot see a version with this number?
abbrev pub is_below_all : List ℕ → ℕ → Bool
is_below_all snapshots seqno = list_all (λ s. nat_lt seqno s) snapshots

-- a read at this number is one of those that a compaction for these snapshots keeps: it is at a snapshot, or at or above all
abbrev pub IsKeptRead : List ℕ → ℕ → Type 0
IsKeptRead snapshots r = (list_any (λ s. nat_eq s r) snapshots ≡ true) ⊎ (list_all (λ s. nat_le s r) snapshots ≡ true)

module _ {X : Type 0} (entry : X → Entry) where
  -- does every snapshot that sees a version see a newer one of its key too? The user key and the number of the last version
  -- that some snapshot sees are known
  abbrev pub is_hidden : List ℕ → Option (List ℕ × ℕ) → X → Bool
  is_hidden snapshots None e = false
  is_hidden snapshots (Some last) e = has_last_key entry (Some last.0) e && not (is_parted snapshots (entry e).key.seqno last.1)

  -- does a snapshot see a version of the last key and not the last version?
  abbrev pub is_parted_from : List ℕ → List ℕ × ℕ → X → Bool
  is_parted_from snapshots last e = has_last_key entry (Some last.0) e && is_parted snapshots (entry e).key.seqno last.1

  -- is a version of the last key left under the last version? The first one that it does not hide decides
  abbrev pub is_left_under : List ℕ → List ℕ × ℕ → List X → Bool
  is_left_under snapshots last [] = false
  is_left_under snapshots last (e ∷ es) =
      if is_seen snapshots (entry e).key.seqno && is_hidden snapshots (Some last) e then is_left_under snapshots last es else is_parted_from snapshots last e

  -- does a version go that some snapshot sees, where these are after it? It is a tombstone at the bottom of its key, and no
  -- version of the key is left under it
  abbrev pub is_dropped : List ℕ → (List ℕ → Bool) → X → List X → Bool
  is_dropped snapshots bottom e behind =
      is_tombstone (entry e).key.value_type && (bottom (entry e).key.user_key && not (is_left_under snapshots ((entry e).key.user_key, (entry e).key.seqno) behind))

  -- a version before others, unless it is a tombstone that goes
  abbrev pub unless_dropped : List ℕ → (List ℕ → Bool) → X → List X → List X → List X
  unless_dropped snapshots bottom e behind es = if is_dropped snapshots bottom e behind then es else e ∷ es

  -- A list without the versions that no read at a snapshot, or at or above all, can see: of those that some snapshot sees
  -- only those stay that a snapshot sees which sees no newer one of the key.
  abbrev pub compact_from : List ℕ → (List ℕ → Bool) → Option (List ℕ × ℕ) → List X → List X
  compact_from snapshots bottom last [] = []
  compact_from snapshots bottom last (e ∷ es) =
      if is_seen snapshots (entry e).key.seqno
      then (if is_hidden snapshots last e then compact_from snapshots bottom last es
      else unless_dropped snapshots bottom e es (compact_from snapshots bottom (Some ((entry e).key.user_key, (entry e).key.seqno)) es))
      else e ∷ compact_from snapshots bottom last es

  -- of what is left only versions were taken that the last version hides
  abbrev pub PassesHidden : List ℕ → List ℕ × ℕ → Left X → Left X → Type 0
  PassesHidden snapshots last s t =
      ((bottom : List ℕ → Bool) → option_map (compact_from snapshots bottom (Some last)) t.list ≡ option_map (compact_from snapshots bottom (Some last)) s.list) × (t.most ≤ s.most)

  abbrev pub compacted : List ℕ → (List ℕ → Bool) → List X → List X
  compacted snapshots bottom items = compact_from snapshots bottom None items

  -- is one of these a version of the same key that every snapshot sees that sees this one?
  abbrev pub has_newer : List ℕ → List X → X → Bool
  has_newer snapshots before e = list_any (λ d. has_last_key entry (Some (entry d).key.user_key) e && not (is_parted snapshots (entry e).key.seqno (entry d).key.seqno)) before

  -- is one of these a version of the same key that a snapshot sees which does not see this one?
  abbrev pub has_older : List ℕ → List X → X → Bool
  has_older snapshots behind e = list_any (is_parted_from snapshots ((entry e).key.user_key, (entry e).key.seqno)) behind

  -- does a version stay between those before it and those after it? No snapshot sees it; or one sees it that sees none of
  -- its key before it, and it is no tombstone at the bottom, or a snapshot sees one of its key after it and not it
  abbrev pub stays : List ℕ → (List ℕ → Bool) → List X → X → List X → Bool
  stays snapshots bottom before e behind =
      not (is_seen snapshots (entry e).key.seqno)
      || (not (has_newer snapshots before e) && not (is_tombstone (entry e).key.value_type && (bottom (entry e).key.user_key && not (has_older snapshots behind e))))

  -- the versions of an ordered list that a compaction for these snapshots leaves
  abbrev pub staying : List ℕ → (List ℕ → Bool) → List X → List X
  staying snapshots bottom items = kept_between (stays snapshots bottom) [] items
