-- Laws of a compaction's steps over what is left of a source, also where its list is not known.
use Rattle.std.proofs.Common.{◌≡◌, ℕ, Bool, true, false, not, cond, ◌&&◌, List, ◌∷◌, Option, Some, None, refl, sym, ap, subst, ◌∙◌}
use Rattle.std.specs.Option.{option_map}
use Rattle.sstable_blocks.specs.Prelude.{Entry, is_tombstone}
use Rattle.sst_merge.specs.Compact.{is_seen, is_hidden, is_left_under, compact_from}
use Rattle.sst_merge.specs.CompactLaws.{newest}
use Rattle.sst_sources.specs.Sources.{list_held}

module _ {X Y : Type 0} (f : List X → Y) where
  -- an item before others that changes nothing is passed
  pub mapped_step : (x : X) (o given next : Option (List X)) → option_map f o ≡ option_map f given → o ≡ option_map (λ xs. x ∷ xs) next → ((xs : List X) → f (x ∷ xs) ≡ f xs) → option_map f next ≡ option_map f given
  mapped_step x o given None so_far is same = sym (ap (option_map f) is) ∙ so_far
  mapped_step x o given (Some xs) so_far is same = ap Some (sym (same xs)) ∙ sym (ap (option_map f) is) ∙ so_far

module _ {X : Type 0} (entry : X → Entry) (ss : List ℕ) (bottom : List ℕ → Bool) where
  abbrev go : Option (List ℕ × ℕ) → Option (List X) → Option (List X)
  go last = option_map (compact_from entry ss bottom last)

  abbrev key_of : X → List ℕ
  key_of x = (entry x).key.user_key

  abbrev num : X → ℕ
  num x = (entry x).key.seqno

  -- whether it goes, as the code tells it
  abbrev Tells : X → Bool → List ℕ × ℕ → Option (List X) → Type 0
  Tells x goes last next = (xs : List X) → next ≡ Some xs → goes ≡ (is_tombstone (entry x).key.value_type && (bottom last.0 && not (is_left_under entry ss last xs)))

  -- it is held before others unless it goes
  abbrev unless : Bool → X → Option (List X) → Option (List X)
  unless goes x = list_held (cond goes None (Some x))

  unless_none : (goes : Bool) (x : X) → unless goes x None ≡ None
  unless_none true x = refl
  unless_none false x = refl

  unless_some : (goes : Bool) (x : X) (xs : List X) → unless goes x (Some xs) ≡ Some (cond goes xs (x ∷ xs))
  unless_some true x xs = refl
  unless_some false x xs = refl

  fresh_at : (last : Option (List ℕ × ℕ)) (x : X) (o next after : Option (List X)) (goes : Bool) → is_seen ss (num x) ≡ true → is_hidden entry ss last x ≡ false → o ≡ option_map (λ xs. x ∷ xs) next
      → Tells x goes (key_of x, num x) next → go (Some (key_of x, num x)) after ≡ go (Some (key_of x, num x)) next → go last o ≡ unless goes x (go (Some (key_of x, num x)) after)
  fresh_at last x o None after goes seen fresh is found same = ap (go last) is ∙ sym (ap (unless goes x) same ∙ unless_none goes x)
  fresh_at last x o (Some xs) after goes seen fresh is found same =
      let behind = compact_from entry ss bottom (Some (key_of x, num x)) xs in
      ap (go last) is
      ∙ ap Some (newest entry ss bottom last x xs seen fresh)
      ∙ ap (λ b. Some (cond b behind (x ∷ behind))) (sym (found xs refl))
      ∙ sym (ap (unless goes x) same ∙ unless_some goes x behind)

  -- a version that some snapshot sees and the last one does not hide, where versions after it may have been taken ahead
  pub fresh_step : (last : Option (List ℕ × ℕ)) (k : List ℕ) (n : ℕ) (x : X) (o next after : Option (List X)) (goes : Bool) → key_of x ≡ k → num x ≡ n → is_seen ss (num x) ≡ true → is_hidden entry ss last x ≡ false
      → o ≡ option_map (λ xs. x ∷ xs) next → Tells x goes (k, n) next → go (Some (k, n)) after ≡ go (Some (k, n)) next → go last o ≡ unless goes x (go (Some (k, n)) after)
  fresh_step last k n x o next after goes key number seen fresh is =
      let P = λ (l : List ℕ × ℕ). Tells x goes l next → go (Some l) after ≡ go (Some l) next → go last o ≡ unless goes x (go (Some l) after) in
      subst P (ap (λ (j : List ℕ). (j, num x)) key ∙ ap (λ (m : ℕ). (k, m)) number) (fresh_at last x o next after goes seen fresh is)
