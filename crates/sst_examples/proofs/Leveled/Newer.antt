-- Reads of newer and older versions.
use Rattle.std.proofs.Common.{◌≡◌, ℕ, ◌<◌, Bool, true, false, cond, List, [], ◌∷◌, map, filter, slice_get, Option, Some, None, refl, sym, ap, subst, ◌∙◌, inl, inr}
use Rattle.std.proofs.lemmas.Bool.{cases_Bool}
use Rattle.std.specs.Cmp.{nat_cmp_is}
use Rattle.std.specs.Cmp.Lexicographic.{slice_cmp}
use Rattle.std.specs.List.{AllByRecursion}
use Rattle.std.specs.Option.{option_map, IfSome}
use Rattle.std.specs.Ordering.{nat_cmp, is_lt, ordering_then}
use Rattle.std.specs.declared.cmp.Ordering.TheVariants.{Equal, Greater}
use Rattle.sstable_blocks.specs.Prelude.{Entry, plain, entries, IsOrdered, first_match, is_version}
use Rattle.sstable_blocks.specs.BlockLaws.{slice_cmp-equal}
use Rattle.sst_merge.specs.Compact.{compact_from, is_seen, is_hidden, is_dropped, unless_dropped}
use Rattle.sst_sources.specs.Merge.{entry_cmp, lesser, merge}
use Rattle.sst_sources.specs.RangeLaws.{version_key}
use Rattle.sst_merge.specs.ReadLaws.{merge_match}
use Rattle.sst_examples.specs.Levels.{AreBelow, AreNewer}

module _ (P : Entry → Type 0) where
  -- of all that a compaction leaves
  pub all_compact : (ss : List ℕ) (bottom : List ℕ → Bool) (last : Option (List ℕ × ℕ)) (xs : List Entry) → AllByRecursion P xs → AllByRecursion P (compact_from (λ (e : Entry). e) ss bottom last xs)
  all_compact ss bottom last [] all = tt
  all_compact ss bottom last (x ∷ xs) all =
      let at : Option (List ℕ × ℕ) = Some (x.key.user_key, x.key.seqno) in
      let same = all_compact ss bottom last xs all.1 in
      let next = all_compact ss bottom at xs all.1 in
      let go = compact_from (λ (e : Entry). e) ss bottom in
      let fresh = unless_dropped (λ (e : Entry). e) ss bottom x xs (go at xs) in
      elim (is_seen ss x.key.seqno) as (λ b. AllByRecursion P (cond b (cond (is_hidden (λ (e : Entry). e) ss last x) (go last xs) fresh) (x ∷ go last xs))) [
        | false ↦ (all.0, same)
        | true ↦ elim (is_hidden (λ (e : Entry). e) ss last x) as (λ b. AllByRecursion P (cond b (go last xs) fresh)) [
          | true ↦ same
          | false ↦ elim (is_dropped (λ (e : Entry). e) ss bottom x xs) as (λ b. AllByRecursion P (cond b (go at xs) (x ∷ go at xs))) [
            | true ↦ next
            | false ↦ (all.0, next)
          ]
        ]
      ]

  -- and of all of a list, as decoded
  pub all_plain : ((x : Entry) → P x → P (plain x)) → (xs : List Entry) → AllByRecursion P xs → AllByRecursion P (map plain xs)
  all_plain keeps [] all = tt
  all_plain keeps (x ∷ xs) all = (keeps x all.0, all_plain keeps xs all.1)

-- what holds of all holds of all for which it implies more
pub all_weaker : {X : Type 0} (P Q : X → Type 0) (xs : List X) → ((x : X) → P x → Q x) → AllByRecursion P xs → AllByRecursion Q xs
all_weaker P Q [] weaker all = tt
all_weaker P Q (x ∷ xs) weaker all = (weaker x all.0, all_weaker P Q xs weaker all.1)

-- the earlier of two first matches, if there is one
abbrev pub or_older : Option Entry → Option Entry → Option Entry
or_older None b = b
or_older (Some a) b = Some a

pub or_older_both : (a b c : Option Entry) → or_older (or_older a b) c ≡ or_older a (or_older b c)
or_older_both None b c = refl
or_older_both (Some a) b c = refl

module _ (needle : List ℕ) (s : ℕ) where
  -- a first match is a member as decoded, of which P holds, and a version of the needle below the number
  pub record IsFirstMatch (P : Entry → Type 0) (e : Entry) : Type 0 where
    pub member : Entry
    pub holds : P member
    pub is : plain member ≡ e
    pub passes : is_version entries needle s member ≡ true

  found_by : (P : Entry → Type 0) (xs : List Entry) → AllByRecursion P xs → IfSome (option_map plain (slice_get (filter (is_version entries needle s) xs) 0)) (IsFirstMatch P)
  found_by P [] all = tt
  found_by P (x ∷ xs) all =
      let rest = filter (is_version entries needle s) xs in
      let Goal : Bool → Type 0 = λ b. IfSome (option_map plain (slice_get (cond b (x ∷ rest) rest) 0)) (IsFirstMatch P) in
      elim (cases_Bool (is_version entries needle s x)) [
        | inl hit ↦ subst Goal (sym hit) (record { member = x; holds = all.0; is = refl; passes = hit })
        | inr miss ↦ subst Goal (sym miss) (found_by P xs all.1)
      ]

  found : (P : Entry → Type 0) (xs : List Entry) → AllByRecursion P xs → IfSome (first_match entries needle s xs) (IsFirstMatch P)
  unfolding first_match
  found P xs all = found_by P xs all

  -- an older version of the same key sorts after a newer one
  sorts_after : (a b : Entry) → is_version entries needle s a ≡ true → is_version entries needle s b ≡ true → b.key.seqno < a.key.seqno → is_lt (entry_cmp b a) ≡ false
  sorts_after a b here there less =
      let same : slice_cmp nat_cmp b.key.user_key a.key.user_key ≡ Equal = (slice_cmp-equal b.key.user_key a.key.user_key).1 (version_key needle s b there ∙ sym (version_key needle s a here)) in
      ap (λ o. is_lt (ordering_then o (nat_cmp a.key.seqno b.key.seqno))) same ∙ ap is_lt (sym (nat_cmp_is a.key.seqno b.key.seqno Greater less))

  pick : (older : List Entry) (a b : Option Entry) → IfSome a (IsFirstMatch (λ x. AreBelow x.key.seqno older)) → ((n : ℕ) → AreBelow n older → IfSome b (IsFirstMatch (λ y. y.key.seqno < n))) → lesser entry_cmp a b ≡ or_older a b
  pick older None b h k = refl
  pick older (Some a) None h k = refl
  pick older (Some a) (Some b) h k =
      let g = k h.member.key.seqno h.holds in
      let after : is_lt (entry_cmp b a) ≡ false =
      ap (λ y. is_lt (entry_cmp y a)) (sym g.is) ∙ ap (λ x. is_lt (entry_cmp (plain g.member) x)) (sym h.is) ∙ sorts_after h.member g.member h.passes g.passes g.holds in
      ap (λ t. cond t (Some b) (Some a)) after

  -- a read of newer and older versions finds the first newer one, if there is one
  pub newer_read : (newer older : List Entry) → IsOrdered entries newer → IsOrdered entries older → AreNewer newer older → first_match entries needle s (merge entry_cmp newer older) ≡ or_older (first_match entries needle s newer) (first_match entries needle s older)
  newer_read newer older up down all =
      merge_match needle s newer older up down
      ∙ pick older (first_match entries needle s newer) (first_match entries needle s older) (found (λ x. AreBelow x.key.seqno older) newer all) (λ n h. found (λ y. y.key.seqno < n) older h)

  -- a read of one version
  pub one_read : (e : Entry) → first_match entries needle s (e ∷ []) ≡ cond (is_version entries needle s e) (Some (plain e)) None
  unfolding first_match
  one_read e = elim (is_version entries needle s e) as (λ t. option_map plain (slice_get (cond t (e ∷ []) []) 0) ≡ cond t (Some (plain e)) None) [ true ↦ refl | false ↦ refl ]
