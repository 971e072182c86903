-- The filter of a run rules out none of its keys.
use Rattle.std.proofs.Common.{◌≡◌, ℕ, ◌+◌, ◌*◌, ◌/◌, ◌<◌, ◌≤◌, ◌^◌, inl, inr, cond, ltb, List, [], ◌∷◌, length, filter, arith, sym, ◌∙◌, ap, subst, Some, None, Result, Ok}
use Rattle.std.proofs.lemmas.Bool.{eq-eqb, ne_eqb, cases_Bool, and_parts}
use Rattle.std.proofs.lemmas.List.{length-map}
use Rattle.std.specs.List.{AllByRecursion, slice_get}
use Rattle.std.specs.Option.{option_map}
use Rattle.std.specs.Cmp.Lexicographic.{slice_cmp}
use Rattle.std.specs.Cmp.{Equal-is}
use Rattle.std.specs.Ordering.{nat_cmp, is_eq}
use Rattle.sst_base.specs.KeyOrderLaws.{slice_cmp-equal}
use Rattle.sst_base.specs.BlockHandle.{HandleParts}
use Rattle.sst_base.specs.Entry.{Entry}
use Rattle.sst_base.specs.Frame.{frame}
use Rattle.sst_base.specs.declared.error.Error.{Error}
use Rattle.sst_base.specs.declared.table.block.block_type.BlockType.TheVariants as types
use Rattle.sst_block_core.specs.Entries.{entries}
use Rattle.sst_block_core.specs.Window.{first_match, is_version}
use Rattle.sstable_blocks.specs.Blocks.{joined}
use Rattle.sstable_blocks.specs.Filter.{Filter, filter_at, MayContain, bit_count}
use Rattle.sstable_blocks.specs.FilterLaws.{filter_at-payload}
use Rattle.sstable_blocks.specs.Run.{Form, block_frames, filter_frame, index_frame, run_handles, key_hashes, IsFilterText}
use Rattle.sst_block_core.specs.ListLaws.{first_filter}
use Rattle.sst_base.specs.TestLaws.{none_from}

-- a first match has the needle as its key, so what holds of the hash of each key holds of the needle's
match_satisfies : (hash : List ℕ → ℕ) (P : ℕ → Type 0) (needle : List ℕ) (s : ℕ) (xs : List Entry) (x : Entry) → slice_get (filter (is_version entries needle s) xs) 0 ≡ Some x → AllByRecursion (λ y. P (hash y.key.user_key)) xs → P (hash needle)
match_satisfies hash P needle s [] x e all = cc
match_satisfies hash P needle s (y ∷ ys) x e all = elim (cases_Bool (is_version entries needle s y)) [
  | inl found ↦ (
      let both = and_parts (ltb y.key.seqno s) (is_eq (slice_cmp nat_cmp y.key.user_key needle)) found in
      let same : y.key.user_key ≡ needle = (slice_cmp-equal y.key.user_key needle).0 ((Equal-is (slice_cmp nat_cmp y.key.user_key needle)).0 both.1) in
      subst (λ k. P (hash k)) same all.0)
  | inr other ↦
      match_satisfies hash P needle s ys x (sym (first_filter (is_version entries needle s) y ys ∙ ap (λ b. cond b (Some y) (slice_get (filter (is_version entries needle s) ys) 0)) other) ∙ e) all.1
]

-- a key that a filter of all keys rules out has no match
pub denied : (hash : List ℕ → ℕ) (items : List Entry) (p needle : List ℕ) (s : ℕ) (own : Filter) → AllByRecursion (λ y. MayContain own (hash y.key.user_key)) items
    → filter_at p ≡ Ok own → (x : Filter) → filter_at p ≡ Ok x → (MayContain x (hash needle) → ⊥) → first_match entries needle s items ≡ None
unfolding first_match
denied hash items p needle s own all reads x read denies =
    let same : own ≡ x = (let e : ◌≡◌ {A = Result Filter Error} (Ok own) (Ok x) = sym reads ∙ read in cc) in
    let none : slice_get (filter (is_version entries needle s) items) 0 ≡ None = none_from _ (λ y found.
    denies (subst (λ q. MayContain q (hash needle)) same (match_satisfies hash (MayContain own) needle s items y found all))) in
    ap (option_map entries.plain) none

module _ (f : Form) where
  -- where the filter of a run is
  abbrev pub filter_handle : List (List Entry) → List ℕ → HandleParts
  filter_handle blocks p = record { offset = length (block_frames f blocks) + length (index_frame f blocks); size = length (filter_frame f p) }

  pub no_filter : (blocks : List (List Entry)) (p : List ℕ) → f.config.bits_per_key ≡ 0 → (run_handles f blocks p).filter ≡ None
  unfolding run_handles
  no_filter blocks p e = ap (λ b. cond b None (Some (filter_handle blocks p))) (eq-eqb _ _ e)

  pub some_filter : (blocks : List (List Entry)) (p : List ℕ) → (f.config.bits_per_key ≡ 0 → ⊥) → (run_handles f blocks p).filter ≡ Some (filter_handle blocks p)
  unfolding run_handles
  some_filter blocks p e = ap (λ b. cond b None (Some (filter_handle blocks p))) (ne_eqb _ _ e)

  pub filter_framed : (p : List ℕ) → (f.config.bits_per_key ≡ 0 → ⊥) → filter_frame f p ≡ frame f.hash128 types.Filter p
  filter_framed p e = ap (λ b. cond b [] (frame f.hash128 types.Filter p)) (ne_eqb _ _ e)

  -- the filter of a run is decoded from its payload
  pub filter_reads : (blocks : List (List Entry)) (p : List ℕ) (is : IsFilterText (key_hashes f.hash64 (joined blocks)) f.config.bits_per_key p) → length (joined blocks) * f.config.bits_per_key ≤ 34359737920 → filter_at p ≡ Ok is.filter
  filter_reads blocks p is bits =
      let count : length (key_hashes f.hash64 (joined blocks)) ≡ length (joined blocks) = length-map (joined blocks) (λ e. f.hash64 e.key.user_key) in
      let m : is.filter.m ≡ (length (joined blocks) * f.config.bits_per_key + 7) / 8 * 8 = is.m ∙ ap (λ n. bit_count n f.config.bits_per_key) count in
      let fits : is.filter.m < 2 ^ 64 = omega arith in
      ap filter_at is.text ∙ filter_at-payload is.filter is.inserted.sized fits
