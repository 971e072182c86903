-- Laws of snapshots.
use Rattle.std.proofs.Common.{◌≡◌, ℕ, true, false, List, ◌∷◌, Option, Some, refl}
use Rattle.sstable_blocks.specs.Prelude.{Entry}
use Rattle.sst_merge.specs.Snapshot.{visible_from, is_newest, unless_deleted}

module _ {X : Type 0} (entry : X → Entry) where
  -- a version that is not the first of its key below the number is passed over
  pub visible-passed : (seqno : ℕ) (last : Option (List ℕ)) (e : X) (es : List X) → is_newest entry seqno last e ≡ false → visible_from entry seqno last (e ∷ es) ≡ visible_from entry seqno last es
  visible-passed seqno last e es h = rw h refl

  -- one that is hides the later ones
  pub visible-newest : (seqno : ℕ) (last : Option (List ℕ)) (e : X) (es : List X) → is_newest entry seqno last e ≡ true → visible_from entry seqno last (e ∷ es) ≡ unless_deleted entry e (visible_from entry seqno (Some (entry e).key.user_key) es)
  visible-newest seqno last e es h = rw h refl
