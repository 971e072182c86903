-- The order of two keys, by the ranges of their parts.
use Rattle.std.proofs.Common.{◌≡◌, ◌≢◌, ℕ, ◌+◌, ◌-◌, ◌≤◌, ◌<◌, List, [], ◌∷◌, get_or, ◌++◌, length, take, drop, refl, sym, ap, subst, ◌∙◌, arith, append_assoc, length-drop, take-add}
use Rattle.std.proofs.lemmas.List.{append-nil, drop-drop, length-take-le, take-append-drop}
use Rattle.std.specs.Prelude.{Option, Some, None, IfSome}
use Rattle.byteorder.specs.Endian.{big_number}
use Rattle.byteorder.specs.Numbers.{big_from-take}
use Rattle.sst_base.specs.Bytes.{IsBytes}
use Rattle.sst_base.specs.BytesLaws.{IsBytes-take}
use Rattle.std.proofs.lemmas.Cmp.{nat_list_cmp_total, ranked}
use Rattle.std.specs.Cmp.Lexicographic.{slice_cmp}
use Rattle.std.specs.Ordering.{nat_cmp, ordering_then, ordering_reverse}
use Rattle.std.specs.declared.cmp.Ordering.{Ordering}
use Rattle.std.specs.declared.cmp.Ordering.TheVariants.{Less, Equal, Greater}
use Rattle.sst_base.specs.declared.table.util.SliceIndexes.{SliceIndexes}
use Rattle.sst_base.specs.KeyOrderLaws.{slice_cmp-equal}
use Rattle.sst_base.specs.NumberLaws.{slice_cmp-big_number}
use Rattle.sst_base.specs.OrderLaws.{slice_cmp-append}
use Rattle.sst_block_core.specs.Found.{range_bytes, IsRange}
use Rattle.sst_block_core.specs.KeyRanges.{key_by, version_cmp}
use Rattle.sst_block_core.specs.declared.table.block.check.keys.KeyRanges.{KeyRanges}
use Rattle.sst_block_core.specs.declared.table.block.check.keys.KeyVersion.{KeyVersion}

pub decided : (o w : Ordering) → o ≢ Equal → o ≡ ordering_then o w
decided Less w n = refl
decided Equal w n = absurd (n refl)
decided Greater w n = refl

-- the first four bytes decide where they differ
pub first_four : (a b : List ℕ) (x y : ℕ) → IsBytes a → IsBytes b → 4 ≤ length a → 4 ≤ length b → x ≡ big_number 4 a → y ≡ big_number 4 b → x ≢ y → nat_cmp x y ≡ slice_cmp nat_cmp a b
first_four a b x y c d h k p q ne =
    let la : length (take 4 a) ≡ 4 = length-take-le 4 a h in
    let lb : length (take 4 b) ≡ 4 = length-take-le 4 b k in
    let rest = slice_cmp nat_cmp (drop 4 a) (drop 4 b) in
    let fours : slice_cmp nat_cmp (take 4 a) (take 4 b) ≡ nat_cmp x y =
    slice_cmp-big_number 4 (take 4 a) (take 4 b) (IsBytes-take 4 a c) (IsBytes-take 4 b d) la lb
    ∙ (λ j. nat_cmp ((big_from-take 0 4 4 a (omega arith) ∙ sym p) j) ((big_from-take 0 4 4 b (omega arith) ∙ sym q) j)) in
    decided (nat_cmp x y) rest (λ e. ne (ranked x y Equal (sym e)))
    ∙ ap (λ o. ordering_then o rest) (sym fours)
    ∙ sym (slice_cmp-append (take 4 a) (take 4 b) (drop 4 a) (drop 4 b) (la ∙ sym lb))
    ∙ (λ i. slice_cmp nat_cmp (take-append-drop 4 a i) (take-append-drop 4 b i))

-- what a result implies, by something that implies it
pub answer_says : (o : Option Ordering) (P Q : Ordering → Type 0) → ((w : Ordering) → P w → Q w) → IfSome o P → IfSome o Q
answer_says None P Q to h = h
answer_says (Some w) P Q to h = to w h

-- the first bytes decide where they differ
pub first_decides : (more rest tail : List ℕ) → 0 < length more → 0 < length rest → get_or more 0 0 ≢ get_or rest 0 0 → nat_cmp (get_or more 0 0) (get_or rest 0 0) ≡ slice_cmp nat_cmp (more ++ tail) rest
first_decides [] rest tail h k ne = absurd (omega arith)
first_decides (x ∷ more) [] tail h k ne = absurd (omega arith)
first_decides (x ∷ more) (y ∷ rest) tail h k ne = decided (nat_cmp x y) (slice_cmp nat_cmp (more ++ tail) rest) (λ e. ne (ranked x y Equal (sym e)))

-- the same for two byte strings that are whole
pub rests_decided : (a b : List ℕ) (o : Ordering) → ((tail : List ℕ) → o ≡ slice_cmp nat_cmp (a ++ tail) b) → o ≡ slice_cmp nat_cmp a b
rests_decided a b o h = h [] ∙ ap (λ xs. slice_cmp nat_cmp xs b) (append-nil a)

-- the range after the first n bytes of a range
abbrev pub behind : SliceIndexes → ℕ → SliceIndexes
behind range n = record { 0 = range.0 + n; 1 = range.1 }

range_split : (payload : List ℕ) (range : SliceIndexes) (n : ℕ) → n ≤ range.1 - range.0 → range_bytes payload range ≡ take n (drop range.0 payload) ++ range_bytes payload (behind range n)
range_split payload range n h =
    let e : range.1 - range.0 ≡ n + (range.1 - (range.0 + n)) = omega arith in
    ap (λ k. take k (drop range.0 payload)) e ∙ take-add n (range.1 - (range.0 + n)) (drop range.0 payload)
    ∙ ap (λ ys. take n (drop range.0 payload) ++ take (range.1 - (range.0 + n)) ys) (drop-drop n range.0 payload)

prefix_length : (payload : List ℕ) (range : SliceIndexes) (n : ℕ) → IsRange payload range → n ≤ range.1 - range.0 → length (take n (drop range.0 payload)) ≡ n
prefix_length payload range n is h = length-take-le n (drop range.0 payload) (let d = length-drop range.0 payload in let i = is.inside in let o = is.order in omega arith)

module _ (payload : List ℕ) (a b : KeyRanges) (left : IsRange payload a.prefix) (right : IsRange payload b.prefix) where
  split : (n : ℕ) → n ≤ a.prefix.1 - a.prefix.0 → n ≤ b.prefix.1 - b.prefix.0
      → slice_cmp nat_cmp (key_by payload a) (key_by payload b)
      ≡ ordering_then (slice_cmp nat_cmp (take n (drop a.prefix.0 payload)) (take n (drop b.prefix.0 payload)))
      (slice_cmp nat_cmp (range_bytes payload (behind a.prefix n) ++ range_bytes payload a.rest) (range_bytes payload (behind b.prefix n) ++ range_bytes payload b.rest))
  split n h k =
      let x = take n (drop a.prefix.0 payload) in
      let y = take n (drop b.prefix.0 payload) in
      let same : length x ≡ length y = prefix_length payload a.prefix n left h ∙ sym (prefix_length payload b.prefix n right k) in
      let u : key_by payload a ≡ x ++ (range_bytes payload (behind a.prefix n) ++ range_bytes payload a.rest) =
      ap (λ f. f ++ range_bytes payload a.rest) (range_split payload a.prefix n h) ∙ append_assoc x (range_bytes payload (behind a.prefix n)) (range_bytes payload a.rest) in
      let v : key_by payload b ≡ y ++ (range_bytes payload (behind b.prefix n) ++ range_bytes payload b.rest) =
      ap (λ f. f ++ range_bytes payload b.rest) (range_split payload b.prefix n k) ∙ append_assoc y (range_bytes payload (behind b.prefix n)) (range_bytes payload b.rest) in
      (λ i. slice_cmp nat_cmp (u i) (v i)) ∙ slice_cmp-append x y _ _ same

  none_behind : (range : SliceIndexes) (rest : List ℕ) → range_bytes payload (behind range (range.1 - range.0)) ++ rest ≡ rest
  none_behind range rest = let z : range.1 - (range.0 + (range.1 - range.0)) ≡ 0 = omega arith in ap (λ n. take n (drop (range.0 + (range.1 - range.0)) payload) ++ rest) z

  -- the prefixes decide
  pub prefixes_decide : (n : ℕ) (o : Ordering) → n ≤ a.prefix.1 - a.prefix.0 → n ≤ b.prefix.1 - b.prefix.0
      → o ≡ slice_cmp nat_cmp (take n (drop a.prefix.0 payload)) (take n (drop b.prefix.0 payload)) → o ≢ Equal → o ≡ slice_cmp nat_cmp (key_by payload a) (key_by payload b)
  prefixes_decide n o h k e ne =
      let w = slice_cmp nat_cmp (range_bytes payload (behind a.prefix n) ++ range_bytes payload a.rest) (range_bytes payload (behind b.prefix n) ++ range_bytes payload b.rest) in
      decided o w ne ∙ ap (λ p. ordering_then p w) e ∙ sym (split n h k)

  -- the prefixes are one
  pub same_prefixes : (o w : Ordering) (ra rb : List ℕ) → a.prefix.1 - a.prefix.0 ≡ b.prefix.1 - b.prefix.0
      → o ≡ slice_cmp nat_cmp (take (a.prefix.1 - a.prefix.0) (drop a.prefix.0 payload)) (take (a.prefix.1 - a.prefix.0) (drop b.prefix.0 payload)) → o ≡ Equal
      → ra ≡ range_bytes payload a.rest → rb ≡ range_bytes payload b.rest → w ≡ slice_cmp nat_cmp ra rb → w ≡ slice_cmp nat_cmp (key_by payload a) (key_by payload b)
  same_prefixes o w ra rb h e tie p q cw =
      let n = a.prefix.1 - a.prefix.0 in
      let s = split n (omega arith) (omega arith) in
      let other : range_bytes payload (behind b.prefix n) ++ range_bytes payload b.rest ≡ range_bytes payload b.rest = ap (λ m. range_bytes payload (behind b.prefix m) ++ range_bytes payload b.rest) h ∙ none_behind b.prefix (range_bytes payload b.rest) in
      cw ∙ (λ i. slice_cmp nat_cmp (p i) (q i))
      ∙ (λ i. slice_cmp nat_cmp (sym (none_behind a.prefix (range_bytes payload a.rest)) i) (sym other i))
      ∙ ap (λ t. ordering_then t (slice_cmp nat_cmp (range_bytes payload (behind a.prefix n) ++ range_bytes payload a.rest) (range_bytes payload (behind b.prefix n) ++ range_bytes payload b.rest))) (sym tie ∙ e)
      ∙ sym s

  -- the prefixes are one range
  pub one_prefix : (w : Ordering) (ra rb : List ℕ) → a.prefix.0 ≡ b.prefix.0 → a.prefix.1 ≡ b.prefix.1
      → ra ≡ range_bytes payload a.rest → rb ≡ range_bytes payload b.rest → w ≡ slice_cmp nat_cmp ra rb → w ≡ slice_cmp nat_cmp (key_by payload a) (key_by payload b)
  one_prefix w ra rb s e p q cw =
      let n = a.prefix.1 - a.prefix.0 in
      let same = (slice_cmp-equal (take n (drop a.prefix.0 payload)) (take n (drop b.prefix.0 payload))).1 (ap (λ k. take n (drop k payload)) s) in
      same_prefixes Equal w ra rb (omega (arith, s, e)) (sym same) refl p q cw

  -- the left prefix is the shorter, and the right one begins with it
  pub left_shorter : (o w v : Ordering) (more ra rb : List ℕ) → a.prefix.1 - a.prefix.0 ≤ b.prefix.1 - b.prefix.0
      → o ≡ slice_cmp nat_cmp (take (a.prefix.1 - a.prefix.0) (drop a.prefix.0 payload)) (take (a.prefix.1 - a.prefix.0) (drop b.prefix.0 payload)) → o ≡ Equal
      → more ≡ range_bytes payload (behind b.prefix (a.prefix.1 - a.prefix.0)) → ra ≡ range_bytes payload a.rest → rb ≡ range_bytes payload b.rest
      → w ≡ slice_cmp nat_cmp (more ++ rb) ra → v ≡ ordering_reverse w → v ≡ slice_cmp nat_cmp (key_by payload a) (key_by payload b)
  left_shorter o w v more ra rb h e tie m p q cw cv =
      let n = a.prefix.1 - a.prefix.0 in
      let s = split n (omega arith) h in
      cv ∙ ap ordering_reverse (cw ∙ (λ i. slice_cmp nat_cmp (m i ++ q i) (p i)))
      ∙ sym (nat_list_cmp_total.antisymm (range_bytes payload a.rest) (range_bytes payload (behind b.prefix n) ++ range_bytes payload b.rest))
      ∙ ap (λ x. slice_cmp nat_cmp x (range_bytes payload (behind b.prefix n) ++ range_bytes payload b.rest)) (sym (none_behind a.prefix (range_bytes payload a.rest)))
      ∙ ap (λ t. ordering_then t (slice_cmp nat_cmp (range_bytes payload (behind a.prefix n) ++ range_bytes payload a.rest) (range_bytes payload (behind b.prefix n) ++ range_bytes payload b.rest))) (sym tie ∙ e)
      ∙ sym s

  -- the right prefix is the shorter
  pub right_shorter : (o w : Ordering) (more ra rb : List ℕ) → b.prefix.1 - b.prefix.0 ≤ a.prefix.1 - a.prefix.0
      → o ≡ slice_cmp nat_cmp (take (b.prefix.1 - b.prefix.0) (drop a.prefix.0 payload)) (take (b.prefix.1 - b.prefix.0) (drop b.prefix.0 payload)) → o ≡ Equal
      → more ≡ range_bytes payload (behind a.prefix (b.prefix.1 - b.prefix.0)) → ra ≡ range_bytes payload a.rest → rb ≡ range_bytes payload b.rest
      → w ≡ slice_cmp nat_cmp (more ++ ra) rb → w ≡ slice_cmp nat_cmp (key_by payload a) (key_by payload b)
  right_shorter o w more ra rb h e tie m p q cw =
      let n = b.prefix.1 - b.prefix.0 in
      let s = split n h (omega arith) in
      cw ∙ (λ i. slice_cmp nat_cmp (m i ++ p i) (q i))
      ∙ ap (slice_cmp nat_cmp (range_bytes payload (behind a.prefix n) ++ range_bytes payload a.rest)) (sym (none_behind b.prefix (range_bytes payload b.rest)))
      ∙ ap (λ t. ordering_then t (slice_cmp nat_cmp (range_bytes payload (behind a.prefix n) ++ range_bytes payload a.rest) (range_bytes payload (behind b.prefix n) ++ range_bytes payload b.rest))) (sym tie ∙ e)
      ∙ sym s

  -- the prefixes begin at one offset
  prefix_at_one_place : (n : ℕ) → a.prefix.0 ≡ b.prefix.0 → Equal ≡ slice_cmp nat_cmp (take n (drop a.prefix.0 payload)) (take n (drop b.prefix.0 payload))
  prefix_at_one_place n place = sym ((slice_cmp-equal (take n (drop a.prefix.0 payload)) (take n (drop b.prefix.0 payload))).1 (ap (λ k. take n (drop k payload)) place))

  pub left_behind : (w v : Ordering) (more ra rb : List ℕ) → a.prefix.0 ≡ b.prefix.0 → a.prefix.1 < b.prefix.1
      → more ≡ range_bytes payload (record { 0 = a.prefix.1; 1 = b.prefix.1 }) → ra ≡ range_bytes payload a.rest → rb ≡ range_bytes payload b.rest
      → w ≡ slice_cmp nat_cmp (more ++ rb) ra → v ≡ ordering_reverse w → v ≡ slice_cmp nat_cmp (key_by payload a) (key_by payload b)
  left_behind w v more ra rb place shorter m p q cw cv =
      let n = a.prefix.1 - a.prefix.0 in
      let o = left.order in
      let at : a.prefix.1 ≡ b.prefix.0 + n = omega (arith, place, o) in
      left_shorter Equal w v more ra rb (omega (arith, place, shorter)) (prefix_at_one_place n place) refl (m ∙ (λ i. range_bytes payload (record { 0 = at i; 1 = b.prefix.1 }))) p q cw cv

  pub right_behind : (w : Ordering) (more ra rb : List ℕ) → a.prefix.0 ≡ b.prefix.0 → b.prefix.1 ≤ a.prefix.1
      → more ≡ range_bytes payload (record { 0 = b.prefix.1; 1 = a.prefix.1 }) → ra ≡ range_bytes payload a.rest → rb ≡ range_bytes payload b.rest
      → w ≡ slice_cmp nat_cmp (more ++ ra) rb → w ≡ slice_cmp nat_cmp (key_by payload a) (key_by payload b)
  right_behind w more ra rb place shorter m p q cw =
      let n = b.prefix.1 - b.prefix.0 in
      let o = right.order in
      let at : b.prefix.1 ≡ a.prefix.0 + n = omega (arith, place, o) in
      right_shorter Equal w more ra rb (omega (arith, place, shorter)) (prefix_at_one_place n place) refl (m ∙ (λ i. range_bytes payload (record { 0 = at i; 1 = a.prefix.1 }))) p q cw

-- where the prefix is empty, the key is what is after it
pub whole_key : (payload : List ℕ) (k : KeyRanges) → k.prefix.1 - k.prefix.0 ≡ 0 → key_by payload k ≡ range_bytes payload k.rest
whole_key payload k e = ap (λ n. take n (drop k.prefix.0 payload) ++ range_bytes payload k.rest) e

-- the same key as a prefix with nothing after it
pub prefix_alone : (payload : List ℕ) (k : KeyRanges) → k.prefix.1 - k.prefix.0 ≡ 0 → key_by payload k ≡ key_by payload (record { prefix = k.rest; rest = record { 0 = k.rest.1; 1 = k.rest.1 } })
prefix_alone payload k e =
    let none : k.rest.1 - k.rest.1 ≡ 0 = omega arith in
    whole_key payload k e ∙ sym (append-nil (range_bytes payload k.rest)) ∙ sym (ap (λ n. range_bytes payload k.rest ++ take n (drop k.rest.1 payload)) none)

not_less : (m s : ℕ) → s ≤ m → nat_cmp m s ≢ Less
not_less m s h e = let r = ranked m s Less (sym e) in omega (arith, r, h)

-- nothing sorts before the empty key with the greatest sequence number
pub not_before : (keys : List ℕ) (m s : ℕ) → s ≤ m → ordering_then (slice_cmp nat_cmp keys []) (nat_cmp m s) ≢ Less
not_before [] m s h = not_less m s h
not_before (k ∷ ks) m s h = λ e. cc e

-- the same of versions
pub not_before_least : (payload : List ℕ) (last v : KeyVersion) → key_by payload last.key ≡ [] → last.seqno ≡ 18446744073709551615 → v.seqno ≤ 18446744073709551615 → version_cmp payload v last ≢ Less
not_before_least payload last v none most small =
    subst (λ key. ordering_then (slice_cmp nat_cmp (key_by payload v.key) key) (nat_cmp last.seqno v.seqno) ≢ Less) (sym none)
    (not_before (key_by payload v.key) last.seqno v.seqno (omega (arith, most, small)))

-- the key of a head is its prefix
pub head_key : (payload : List ℕ) (key : KeyRanges) → key.rest.0 ≡ key.rest.1 → range_bytes payload key.prefix ≡ key_by payload key
head_key payload key e =
    let none : key.rest.1 - key.rest.0 ≡ 0 = omega (arith, e) in
    sym ((λ i. range_bytes payload key.prefix ++ take (none i) (drop key.rest.0 payload)) ∙ append-nil (range_bytes payload key.prefix))
