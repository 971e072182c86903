-- What is read of the blocks, or of the parts, that can have a key in a range: their entries within it.
use Rattle.std.proofs.Common.{◌≡◌, ℕ, inl, inr, ◌+◌, ◌-◌, min, Bool, true, false, cond, not, ◌&&◌, List, [], ◌∷◌, ◌++◌, length, map, take, drop, filter, refl, arith, sym, ◌∙◌, ap, subst, append-nil, Ok}
use Rattle.std.proofs.lemmas.Bool.{cases_Bool}
use Rattle.std.proofs.lemmas.List.{map-append}
use Rattle.std.proofs.lemmas.List.Elements.{filter-append}
use Rattle.std.specs.List.{AllZip}
use Rattle.sst_base.specs.Entry.{Entry, plain}
use Rattle.sst_block_core.specs.Entries.{entries}
use Rattle.sst_block_core.specs.Handles.{Handle, handles}
use Rattle.sst_block_core.specs.Kind.{IsOrdered}
use Rattle.sstable_blocks.specs.Blocks.{joined}
use Rattle.sstable_blocks.specs.EndLaws.{ends_in_order, block_behind, back_in_order, tail_in_order}
use Rattle.sstable_blocks.specs.Lookup.{IsEnd}
use Rattle.sstable_blocks.specs.RisingLaws.{KeysRise, rise_tail, falls, counted, counted-cons, none_counted, between, between-more, between-none, between-first, lower_before, lower_up_to, ordered_rise}
use Rattle.sstable_blocks.specs.Scans.{KeyRange, Read, entries_read, is_before, is_up_to, in_range, within, handles_within}

-- the entries of what is read of entries
pub entries_again : (xs : List Entry) → entries_read (map Ok xs) ≡ xs
entries_again [] = refl
entries_again (x ∷ xs) = ap (λ ys. x ∷ ys) (entries_again xs)

-- what is read of entries
abbrev pub read_all : KeyRange → List Entry → List Read
read_all r xs = map Ok (within r (map plain xs))

within-append : (r : KeyRange) (xs ys : List Entry) → within r (xs ++ ys) ≡ within r xs ++ within r ys
unfolding within
within-append r xs ys = filter-append (λ x. in_range r x.key.user_key) xs ys

read_all-append : (r : KeyRange) (xs ys : List Entry) → read_all r (xs ++ ys) ≡ read_all r xs ++ read_all r ys
read_all-append r xs ys =
    ap (λ zs. map Ok (within r zs)) (map-append plain xs ys) ∙ ap (map Ok) (within-append r (map plain xs) (map plain ys))
    ∙ map-append Ok (within r (map plain xs)) (within r (map plain ys))

-- an entry that is not in the range is left out
within-out : (r : KeyRange) (x : Entry) (xs : List Entry) → in_range r x.key.user_key ≡ false → within r (map plain (x ∷ xs)) ≡ within r (map plain xs)
unfolding within
within-out r x xs e = ap (λ t. cond t (plain x ∷ filter (λ y. in_range r y.key.user_key) (map plain xs)) (filter (λ y. in_range r y.key.user_key) (map plain xs))) e

within-nil : (r : KeyRange) → within r [] ≡ []
unfolding within
within-nil r = refl

out_before : (a b : Bool) → a ≡ true → (not a && b) ≡ false
out_before a b e = ap (λ t. not t && b) e

out_after : (a b : Bool) → b ≡ false → (not a && b) ≡ false
out_after true b e = refl
out_after false b e = e

module _ (r : KeyRange) where
  -- the keys before one that is before the start
  first_before : (x : Entry) (front : List Entry) (last : Entry) (rest : List Entry) → KeysRise entries.key (x ∷ (front ++ last ∷ rest)) → is_before r.from last.key.user_key ≡ true → is_before r.from x.key.user_key ≡ true
  first_before x [] last rest h e = lower_before r.from x.key.user_key last.key.user_key h.0 e
  first_before x (y ∷ front) last rest h e = lower_before r.from x.key.user_key y.key.user_key h.0 (first_before y front last rest h.1 e)

  -- what ends before the start
  before_start : (front : List Entry) (last : Entry) (rest : List Entry) → KeysRise entries.key (front ++ last ∷ rest) → is_before r.from last.key.user_key ≡ true → within r (map plain (front ++ last ∷ [])) ≡ []
  before_start [] last rest h e =
      within-out r last [] (out_before (is_before r.from last.key.user_key) (is_up_to r.to last.key.user_key) e) ∙ within-nil r
  before_start (x ∷ front) last rest h e =
      within-out r x (front ++ last ∷ []) (out_before (is_before r.from x.key.user_key) (is_up_to r.to x.key.user_key) (first_before x front last rest h e))
      ∙ before_start front last rest (rise_tail entries.key x (front ++ last ∷ rest) h) e

  -- what comes after the end
  after_end : (z : Entry) (xs : List Entry) → KeysRise entries.key (z ∷ xs) → is_up_to r.to z.key.user_key ≡ false → within r (map plain xs) ≡ []
  after_end z [] h e = within-nil r
  after_end z (x ∷ xs) h e =
      let fails = falls entries.key (is_up_to r.to) (lower_up_to r.to) z x xs h e in
      within-out r x xs (out_after (is_before r.from x.key.user_key) (is_up_to r.to x.key.user_key) fails) ∙ after_end x xs h.1 fails

  -- what is read of one handle, and of handles, in order
  module _ (one : Handle → List Read) (all : List Handle → List Read) (all_none : all [] ≡ []) (all_more : (h : Handle) (hs : List Handle) → all (h ∷ hs) ≡ one h ++ all hs) where
    abbrev starts : List Handle → ℕ
    starts hs = counted handles.key (is_before r.from) hs

    abbrev stops : List Handle → ℕ
    stops hs = counted handles.key (is_up_to r.to) hs

    abbrev opened : List Handle → List Handle
    opened hs = between handles.key (starts hs) (min (length hs) (stops hs + 1)) hs

    -- a handle has the end of these entries, of which those in the range are read
    pub record IsRead (items : List Entry) (h : Handle) : Type 0 where
      pub end : IsEnd entries handles items h
      pub read : one h ≡ read_all r items

    read_ends : (blocks : List (List Entry)) (hs : List Handle) → AllZip IsRead blocks hs → AllZip (IsEnd entries handles) blocks hs
    read_ends [] [] zip = tt
    read_ends [] (h ∷ hs) zip = absurd zip
    read_ends (b ∷ bs) [] zip = absurd zip
    read_ends (b ∷ bs) (h ∷ hs) zip = (zip.0.end, read_ends bs hs zip.1)

    read_opened : (blocks : List (List Entry)) (hs : List Handle) → AllZip IsRead blocks hs → IsOrdered entries (joined blocks) → all (opened hs) ≡ read_all r (joined blocks)
    read_opened [] [] stored order = all_none ∙ sym (ap (map Ok) (within-nil r))
    read_opened [] (h ∷ hs) stored order = absurd stored
    read_opened (b ∷ bs) [] stored order = absurd stored
    read_opened (b ∷ bs) (h ∷ hs) stored order =
        let i = stored.0.end in
        let whole : b ++ joined bs ≡ i.front ++ i.last ∷ joined bs = block_behind entries handles b h i (joined bs) in
        let o : IsOrdered entries (i.front ++ i.last ∷ joined bs) = subst (IsOrdered entries) whole order in
        let after : IsOrdered entries (i.last ∷ joined bs) = back_in_order _ i.front (i.last ∷ joined bs) o in
        let ih = read_opened bs hs stored.1 (tail_in_order _ i.last (joined bs) after) in
        let rise : KeysRise handles.key (h ∷ hs) = ordered_rise handles (h ∷ hs) (ends_in_order entries handles (b ∷ bs) (h ∷ hs) (read_ends (b ∷ bs) (h ∷ hs) stored) order) in
        let parts = read_all-append r b (joined bs) in
        let here = stored.0.read in
        let n = length hs in
        let P = starts hs in
        let Q = stops hs in
        let counts : (x y : Bool) → is_before r.from h.end_key ≡ x → is_up_to r.to h.end_key ≡ y → opened (h ∷ hs) ≡ between handles.key (cond x 1 0 + P) (min (length (h ∷ hs)) (cond y 1 0 + Q + 1)) (h ∷ hs) =
        (λ x y px qy.
        ap (λ k. between handles.key k (min (length (h ∷ hs)) (stops (h ∷ hs) + 1)) (h ∷ hs)) (counted-cons handles.key (is_before r.from) h hs x px)
        ∙ ap (λ k. between handles.key (cond x 1 0 + P) (min (length (h ∷ hs)) (k + 1)) (h ∷ hs)) (counted-cons handles.key (is_up_to r.to) h hs y qy)) in
        let none_before : is_before r.from h.end_key ≡ true → read_all r b ≡ [] =
        (λ px. ap (map Ok) (ap (λ xs. within r (map plain xs)) i.whole ∙ before_start i.front i.last (joined bs) (ordered_rise entries (i.front ++ i.last ∷ joined bs) o) (ap (is_before r.from) (sym i.key) ∙ px))) in
        let none_after : is_up_to r.to h.end_key ≡ false → read_all r (joined bs) ≡ [] =
        (λ qy. ap (map Ok) (after_end i.last (joined bs) (ordered_rise entries (i.last ∷ joined bs) after) (ap (is_up_to r.to) (sym i.key) ∙ qy))) in
        elim (cases_Bool (is_before r.from h.end_key)) [
          | inl pt ↦ elim (cases_Bool (is_up_to r.to h.end_key)) [
            | inl qt ↦ (
                let more : min (length (h ∷ hs)) (1 + Q + 1) ≡ 1 + min n (Q + 1) = omega arith in
                ap all (counts true true pt qt ∙ ap (λ k. between handles.key (1 + P) k (h ∷ hs)) more ∙ between-more handles.key P (min n (Q + 1)) h hs)
                ∙ ih ∙ sym (ap (λ xs. xs ++ read_all r (joined bs)) (none_before pt)) ∙ sym parts)
            | inr qf ↦ (
                let none : Q ≡ 0 = none_counted handles.key (is_up_to r.to) (lower_up_to r.to) h hs rise qf in
                let size : min (length (h ∷ hs)) (0 + Q + 1) - (1 + P) ≡ 0 = omega arith in
                ap all (counts true false pt qf ∙ ap (λ k. take k (drop (1 + P) (h ∷ hs))) size) ∙ all_none
                ∙ sym (ap (λ xs. xs ++ read_all r (joined bs)) (none_before pt) ∙ none_after qf) ∙ sym parts)
          ]
          | inr pf ↦ (
              let bare : P ≡ 0 = none_counted handles.key (is_before r.from) (lower_before r.from) h hs rise pf in
              elim (cases_Bool (is_up_to r.to h.end_key)) [
                | inl qt ↦ (
                    let more : min (length (h ∷ hs)) (1 + Q + 1) ≡ 1 + min n (Q + 1) = omega arith in
                    ap all (counts false true pf qt ∙ ap (λ k. between handles.key (0 + k) (min (length (h ∷ hs)) (1 + Q + 1)) (h ∷ hs)) bare ∙ ap (λ k. between handles.key 0 k (h ∷ hs)) more ∙ between-first handles.key (min n (Q + 1)) h hs) ∙ all_more h (between handles.key 0 (min n (Q + 1)) hs)
                    ∙ ap (λ xs. xs ++ all (between handles.key 0 (min n (Q + 1)) hs)) here
                    ∙ ap (λ xs. read_all r b ++ xs) (ap (λ k. all (between handles.key k (min n (Q + 1)) hs)) (sym bare) ∙ ih) ∙ sym parts)
                | inr qf ↦ (
                    let none : Q ≡ 0 = none_counted handles.key (is_up_to r.to) (lower_up_to r.to) h hs rise qf in
                    let single : min (length (h ∷ hs)) (0 + Q + 1) ≡ 1 + 0 = omega arith in
                    ap all (counts false false pf qf ∙ ap (λ k. between handles.key (0 + k) (min (length (h ∷ hs)) (0 + Q + 1)) (h ∷ hs)) bare ∙ ap (λ k. between handles.key 0 k (h ∷ hs)) single ∙ between-first handles.key 0 h hs ∙ ap (λ ks. h ∷ ks) (between-none handles.key 0 hs)) ∙ all_more h [] ∙ ap (λ xs. one h ++ xs) all_none
                    ∙ append-nil (one h) ∙ here
                    ∙ sym (append-nil (read_all r b)) ∙ ap (λ xs. read_all r b ++ xs) (sym (none_after qf)) ∙ sym parts)
              ])
        ]

    pub reads_within : (blocks : List (List Entry)) (hs : List Handle) → AllZip IsRead blocks hs → IsOrdered entries (joined blocks) → all (handles_within r hs) ≡ read_all r (joined blocks)
    unfolding handles_within
    reads_within blocks hs stored order = read_opened blocks hs stored order
