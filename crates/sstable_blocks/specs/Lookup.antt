-- Looking up in blocks: the one block that can hold the first match.
use Rattle.std.specs.Prelude.{◌≡◌, ℕ, List, [], ◌∷◌, ◌++◌, slice_get, Option, Some, None}
use Rattle.sst_block_core.specs.Kind.{Kind}
use Rattle.sst_block_core.specs.Window.{count_from, first_match}

-- a handle has the key and the sequence number of the last item of a block
pub record IsEnd {X Y : Type 0} (kind : Kind X) (ends : Kind Y) (block : List X) (h : Y) : Type 0 where
  pub front : List X
  pub last : X
  pub whole : block ≡ front ++ last ∷ []
  pub key : ends.key h ≡ kind.key last
  pub seqno : ends.seqno h ≡ kind.seqno last

-- the first match of a block, if there is one
abbrev pub first_in : {X : Type 0} → Kind X → List ℕ → ℕ → Option (List X) → Option X
first_in kind needle seqno None = None
first_in kind needle seqno (Some block) = first_match kind needle seqno block

-- the index of the block that can hold the needle below a sequence number, by the handles: where an index seek stops
abbrev pub place_for : {Y : Type 0} → Kind Y → List ℕ → ℕ → List Y → ℕ
place_for ends needle seqno hs = count_from ends needle seqno hs

-- the handle at that index, if there is one
abbrev pub handle_for : {Y : Type 0} → Kind Y → List ℕ → ℕ → List Y → Option Y
handle_for ends needle seqno hs = slice_get hs (place_for ends needle seqno hs)
