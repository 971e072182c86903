-- The place of a run where the keys end of which a test holds that holds of each lesser key: by the ends of the blocks, and
-- then in one block.
use Rattle.std.proofs.Common.{◌≡◌, ◌≢◌, ◌∙◌, ℕ, suc, ◌+◌, ◌<◌, ◌^◌, Bool, true, false, cond, List, [], ◌∷◌, ◌++◌, length, map, take, refl, sym, ap, arith, subst, inl, inr, Some, None, length-append}
use Rattle.std.specs.Prelude.{slice_get, ◌⊎◌}
use Rattle.std.specs.List.{AllZip}
use Rattle.std.specs.declared.ops.Bound.TheVariants.{Included}
use Rattle.std.proofs.lemmas.Bool.{cases_Bool, ne_eqb}
use Rattle.std.proofs.lemmas.List.{map-append}
use Rattle.sstable_blocks.specs.BlockTypes as types
use Rattle.sstable_blocks.specs.Prelude.{Entry, Handle, IsIndexBlock, IsOrdered, KeyRange, entries, handles, items_in, items_left, plain}
use Rattle.sstable_blocks.specs.Blocks.{joined}
use Rattle.sstable_blocks.specs.BoundLaws.{joined_plain, plain_ordered}
use Rattle.sstable_blocks.specs.EndLaws.{back_in_order, block_behind, ends_in_order, front_in_order, tail_in_order}
use Rattle.sstable_blocks.specs.Lookup.{IsEnd}
use Rattle.sstable_blocks.specs.Opened.{Opened, index_in}
use Rattle.sstable_blocks.specs.OpeningLaws.{frame_range, stored_ends}
use Rattle.sstable_blocks.specs.RisingLaws.{IsLower, KeysRise, counted, counted-cons, lower_before, none_counted, ordered_rise}
use Rattle.sstable_blocks.specs.RunReading.{Hashes}
use Rattle.sstable_blocks.specs.Scans.{is_before, is_up_to, within}
use Rattle.sstable_blocks.specs.Sound.{IsSound}
use Rattle.sstable_blocks.specs.declared.run.RunHandles.{RunHandles}
use Rattle.sst_calls.specs.Ranges.{IsWindowOf, key_given}
use Rattle.sst_calls.specs.Windows.{IsWindow, blocks_in, left_in, stored}
use Rattle.sst_calls.specs.declared.window.SstWindow.{SstWindow}
use Rattle.sstable_blocks.specs.KeyRangeLaws.{within_between}
use Rattle.sst_calls.proofs.Lists.RunBlockLists.{blocks_stored}

-- blocks as they are stored have the same ends
pub stored_have_ends : (blocks : List (List Entry)) (hs : List Handle) → AllZip (IsEnd entries handles) blocks hs → AllZip (IsEnd entries handles) (stored blocks) hs
stored_have_ends [] [] zip = tt
stored_have_ends [] (h ∷ hs) zip = absurd zip
stored_have_ends (b ∷ bs) [] zip = absurd zip
stored_have_ends (b ∷ bs) (h ∷ hs) zip =
    let i = zip.0 in (
      record { front = map plain i.front; last = plain i.last; whole = ap (map plain) i.whole ∙ map-append plain i.front (i.last ∷ []); key = i.key; seqno = i.seqno },
      stored_have_ends bs hs zip.1,
    )

-- the number of keys of which a test holds, by the number of blocks of whose last key it holds: up to in the block after those, or all
abbrev pub IsCounted : (List ℕ → Bool) → List (List Entry) → ℕ → Type 0
IsCounted p blocks n =
    ((n ≡ length blocks) × (counted entries.key p (joined blocks) ≡ length (joined blocks)))
    ⊎ ((xs : List Entry) × (slice_get blocks n ≡ Some xs) × (counted entries.key p (joined blocks) ≡ length (joined (take n blocks)) + counted entries.key p xs))

module _ (p : List ℕ → Bool) (lower : IsLower p) where
  counted-append : (xs ys : List Entry) → counted entries.key p (xs ++ ys) ≡ counted entries.key p xs + counted entries.key p ys
  counted-append [] ys = omega arith
  counted-append (x ∷ xs) ys =
      let both = counted-cons entries.key p x (xs ++ ys) (p (entries.key x)) refl in
      let one = counted-cons entries.key p x xs (p (entries.key x)) refl in
      let more = counted-append xs ys in
      omega (arith, both, one, more)

  -- the test holds of each key before one of which it holds
  holds_before : (x : Entry) (front : List Entry) (last : Entry) → KeysRise entries.key (x ∷ (front ++ last ∷ [])) → p (entries.key last) ≡ true → p (entries.key x) ≡ true
  holds_before x [] last rise holds = lower (entries.key x) (entries.key last) rise.0 holds
  holds_before x (y ∷ front) last rise holds = lower (entries.key x) (entries.key y) rise.0 (holds_before y front last rise.1 holds)

  all_counted : (front : List Entry) (last : Entry) → KeysRise entries.key (front ++ last ∷ []) → p (entries.key last) ≡ true → counted entries.key p (front ++ last ∷ []) ≡ length (front ++ last ∷ [])
  all_counted [] last rise holds = let one = counted-cons entries.key p last [] true holds in omega (arith, one)
  all_counted (x ∷ []) last rise holds =
      let one = counted-cons entries.key p x (last ∷ []) true (holds_before x [] last rise holds) in
      let more = all_counted [] last rise.1 holds in
      omega (arith, one, more)
  all_counted (x ∷ y ∷ front) last rise holds =
      let one = counted-cons entries.key p x (y ∷ front ++ last ∷ []) true (holds_before x (y ∷ front) last rise holds) in
      let more = all_counted (y ∷ front) last rise.1 holds in
      omega (arith, one, more)

  pub counted_by_ends : (blocks : List (List Entry)) (hs : List Handle) → AllZip (IsEnd entries handles) blocks hs → IsOrdered entries (joined blocks) → IsCounted p blocks (counted handles.key p hs)
  counted_by_ends [] [] zip order = inl (refl, refl)
  counted_by_ends [] (h ∷ hs) zip order = absurd zip
  counted_by_ends (b ∷ bs) [] zip order = absurd zip
  counted_by_ends (b ∷ bs) (h ∷ hs) zip order =
      let i = zip.0 in
      let whole : b ++ joined bs ≡ i.front ++ i.last ∷ joined bs = block_behind entries handles b h i (joined bs) in
      let after : IsOrdered entries (i.last ∷ joined bs) = back_in_order _ i.front (i.last ∷ joined bs) (subst (IsOrdered entries) whole order) in
      let here : IsOrdered entries (i.front ++ i.last ∷ []) = subst (IsOrdered entries) i.whole (front_in_order _ b (joined bs) order) in
      let sum = counted-append b (joined bs) in
      elim (cases_Bool (p (entries.key i.last))) [
        | inl holds ↦ (
            let one = counted-cons handles.key p h hs true (ap p i.key ∙ holds) in
            let all : counted entries.key p b ≡ length b = ap (counted entries.key p) i.whole ∙ all_counted i.front i.last (ordered_rise entries (i.front ++ i.last ∷ []) here) holds ∙ sym (ap (λ (xs : List Entry). length xs) i.whole) in
            subst (IsCounted p (b ∷ bs)) (sym one) (more b bs (counted handles.key p hs) all sum (counted_by_ends bs hs zip.1 (tail_in_order _ i.last (joined bs) after))))
        | inr fails ↦ (
            let rise = ordered_rise handles (h ∷ hs) (ends_in_order entries handles (b ∷ bs) (h ∷ hs) zip order) in
            let no = ap p i.key ∙ fails in
            let none : counted handles.key p (h ∷ hs) ≡ 0 = counted-cons handles.key p h hs false no ∙ ap (λ n. 0 + n) (none_counted handles.key p lower h hs rise no) in
            let past = none_counted entries.key p lower i.last (joined bs) (ordered_rise entries (i.last ∷ joined bs) after) fails in
            subst (IsCounted p (b ∷ bs)) (sym none) (inr (b, refl, omega (arith, sum, past))))
      ]
    where
      more : (b : List Entry) (bs : List (List Entry)) (n : ℕ) → counted entries.key p b ≡ length b → counted entries.key p (b ++ joined bs) ≡ counted entries.key p b + counted entries.key p (joined bs) → IsCounted p bs n → IsCounted p (b ∷ bs) (1 + n)
      more b bs n all sum (inl whole) = inl (omega (arith, whole.0), omega (arith, sum, all, whole.1, length-append b (joined bs)))
      more b bs n all sum (inr found) =
          let next : 1 + n ≡ suc n = omega arith in
          subst (IsCounted p (b ∷ bs)) (sym next) (inr (found.0, found.1, omega (arith, sum, all, found.2, length-append b (joined (take n bs)))))

-- the same of the blocks of a sound run, by its index
pub run_counted : (c : Hashes) (blocks : List (List Entry)) (bytes : List ℕ) (h : RunHandles) (key : List ℕ) → IsSound c blocks bytes h → Opened c.hash64 blocks bytes h
    → ((r : ℕ) (p : List ℕ) (items : List Handle) → length p < 2 ^ 32 → IsIndexBlock p items r → items_in handles p ≡ items)
    → IsCounted (is_before (Included key)) (blocks_in bytes h) (counted handles.key (is_before (Included key)) (index_in bytes h.index))
run_counted c blocks bytes h key s o read =
    let p = is_before (Included key) in
    let frame = frame_range c types.Index bytes s.index.payload h.index s.index.frame in
    let hs : index_in bytes h.index ≡ s.handles = ap (items_in handles) frame.1 ∙ read s.index.interval s.index.payload s.handles (omega (arith, s.index.framed)) s.index.is_block in
    let ends = stored_have_ends blocks s.handles (stored_ends c bytes blocks s.handles s.stored) in
    let order : IsOrdered entries (joined (stored blocks)) = subst (IsOrdered entries) (sym (joined_plain blocks)) (plain_ordered (joined blocks) s.ordered) in
    let there = counted_by_ends p (lower_before (Included key)) (stored blocks) s.handles ends order in
    subst (λ (bs : List (List Entry)). IsCounted p bs (counted handles.key p (index_in bytes h.index))) (sym (blocks_stored c.hash64 blocks bytes h o))
    (subst (λ (xs : List Handle). IsCounted p (stored blocks) (counted handles.key p xs)) (sym hs) there)

-- a key that is not given, and one that is
pub given_none : (n : ℕ) (key : List ℕ) → n ≡ 0 → key_given n key ≡ None
given_none n key none = ap (λ k. key_given k key) none

pub given_some : (n : ℕ) (key : List ℕ) → n ≢ 0 → key_given n key ≡ Some key
given_some n key some = ap (λ b. cond b None (Some key)) (ne_eqb n 0 some)

-- a window between the places where the keys of a range begin and end has its entries left
pub window_of_range : (blocks stored_blocks : List (List Entry)) (r : KeyRange) (w : SstWindow) (lo hi : ℕ) → stored_blocks ≡ stored blocks → IsOrdered entries (joined blocks) → IsWindow stored_blocks w
    → left_in stored_blocks w ≡ items_left (record { list = joined stored_blocks; lo = lo; hi = hi }) → lo ≡ counted entries.key (is_before r.from) (joined stored_blocks)
    → hi ≡ counted entries.key (is_up_to r.to) (joined stored_blocks) → IsWindowOf blocks r w
window_of_range blocks bs r w lo hi same order window left first last =
    let all : joined bs ≡ map plain (joined blocks) = ap (λ (v : List (List Entry)). joined v) same ∙ joined_plain blocks in
    let rises : IsOrdered entries (joined bs) = subst (IsOrdered entries) (sym all) (plain_ordered (joined blocks) order) in
    let here : left_in bs w ≡ within r (map plain (joined blocks)) =
    left ∙ ap (λ n. items_left (record { list = joined bs; lo = n; hi = hi })) first
    ∙ ap (λ n. items_left (record { list = joined bs; lo = counted entries.key (is_before r.from) (joined bs); hi = n })) last
    ∙ sym (within_between r (joined bs) rises) ∙ ap (λ (v : List Entry). within r v) all in
    record {
      window = subst (λ (v : List (List Entry)). IsWindow v w) same window;
      left = ap (λ (v : List (List Entry)). left_in v w) (sym same) ∙ here;
    }
