-- Laws of lists of items that stand for entries.
use Rattle.std.proofs.Common.{◌≡◌, ◌≢◌, ◌∙◌, ◌-◌, ℕ, List, [], length, map, Option, Some, None, refl, sym, ap, subst, true, map-id, IfSome}
use Rattle.std.proofs.lemmas.List.{length-map}
use Rattle.std.proofs.lemmas.Option.{slice_get-map}
use Rattle.std.proofs.lemmas.Cmp.{nat_list_cmp_total}
use Rattle.std.specs.Cmp.Lexicographic.{slice_cmp}
use Rattle.std.specs.List.{slice_get}
use Rattle.std.specs.Option.{option_map}
use Rattle.std.specs.Ordering.{is_eq, nat_cmp, ordering_reverse}
use Rattle.std.specs.declared.cmp.Ordering.{Ordering}
use Rattle.std.specs.declared.cmp.Ordering.TheVariants.{Less, Equal, Greater}
use Rattle.sstable_blocks.specs.Prelude.{Entry}
use Rattle.sst_merge.specs.Tables.{IsApart, entries_in}

self_equal : (o : Ordering) → o ≡ ordering_reverse o → is_eq o ≡ true
self_equal Less e = cc
self_equal Equal e = refl
self_equal Greater e = cc

-- one key compares as equal
pub keys_alike : (a b : List ℕ) → a ≡ b → is_eq (slice_cmp nat_cmp a b) ≡ true
keys_alike a b e = subst (λ k. is_eq (slice_cmp nat_cmp a k) ≡ true) e (self_equal (slice_cmp nat_cmp a a) (nat_list_cmp_total.antisymm a a))

same_item : (x y : Entry) → Some x ≡ Some y → x ≡ y
same_item x y e = cc

module _ {X : Type 0} (entry : X → Entry) where
  -- no items have no entries
  pub none_entries : (s : Option (List X)) → IfSome s (λ xs. xs ≡ []) → IfSome (entries_in entry s) (λ xs. xs ≡ [])
  none_entries None e = tt
  none_entries (Some xs) e = ap (map entry) e

  pub after_entries : (s : Option (List X)) → ◌≡◌ {A = Option (List Entry)} (option_map (λ _. []) (entries_in entry s)) (option_map (λ _. []) s)
  after_entries None = refl
  after_entries (Some xs) = refl

  last_entry : (block : List X) (last : X) → Some last ≡ slice_get block (length block - 1) → slice_get (map entry block) (length (map entry block) - 1) ≡ Some (entry last)
  last_entry block last at = ap (λ n. slice_get (map entry block) (n - 1)) (length-map block entry) ∙ slice_get-map entry block (length block - 1) ∙ ap (option_map entry) (sym at)

  first_entry : (xs : List X) (next : X) → Some next ≡ slice_get xs 0 → slice_get (map entry xs) 0 ≡ Some (entry next)
  first_entry xs next at = slice_get-map entry xs 0 ∙ ap (option_map entry) (sym at)

  -- the last of a block and the first that is left have different keys
  pub apart_entries : (list : Option (List X)) (block : List X) (next last : X) → IfSome list (λ xs. Some next ≡ slice_get xs 0) → Some last ≡ slice_get block (length block - 1) → (entry last).key.user_key ≢ (entry next).key.user_key → IfSome (entries_in entry list) (IsApart (map entry block))
  apart_entries None block next last first at differ = tt
  apart_entries (Some xs) block next last first at differ = λ l n is_last is_next same.
      let l_is = same_item (entry last) l (sym (last_entry block last at) ∙ is_last) in
      let n_is = same_item (entry next) n (sym (first_entry xs next first) ∙ is_next) in
      differ (ap (λ (e : Entry). e.key.user_key) l_is ∙ same ∙ ap (λ (e : Entry). e.key.user_key) (sym n_is))

  -- they have one key
  pub together_entries : (P : List Entry → Type 0) (list : Option (List X)) (block : List X) (next last : X) → IfSome list (λ xs. Some next ≡ slice_get xs 0) → Some last ≡ slice_get block (length block - 1) → (entry last).key.user_key ≡ (entry next).key.user_key → IfSome (entries_in entry list) (λ rest. IsApart (map entry block) rest → P rest)
  together_entries P None block next last first at same = tt
  together_entries P (Some xs) block next last first at same = λ apart. absurd (apart (entry last) (entry next) (last_entry block last at) (first_entry xs next first) same)

  -- nothing is left
  pub apart_none : (list : Option (List X)) (block : List X) → IfSome list (λ xs. xs ≡ []) → IfSome (entries_in entry list) (IsApart (map entry block))
  apart_none None block none = tt
  apart_none (Some xs) block none = λ l n is_last is_next same. let no : slice_get (map entry xs) 0 ≡ None = ap (λ ys. slice_get (map entry ys) 0) none in let wrong = sym no ∙ is_next in cc

-- entries stand for themselves
pub entries_themselves : (list : Option (List Entry)) → entries_in (λ e. e) list ≡ list
entries_themselves None = refl
entries_themselves (Some xs) = ap (λ ys. Some ys) (map-id xs)
