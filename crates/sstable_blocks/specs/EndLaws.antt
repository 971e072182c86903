-- Ordered lists in blocks: each block is ordered, and so are the last items of the blocks.
use Rattle.std.proofs.Common.{◌≡◌, ◌≢◌, false, List, [], ◌∷◌, ◌++◌, refl, sym, ◌∙◌, ap, subst, append_assoc}
use Rattle.std.proofs.lemmas.Cmp.{upto}
use Rattle.std.specs.List.{AllZip, AllByRecursion}
use Rattle.std.specs.Ordering.{is_gt, ordering_reverse, nat_cmp, ordering_then}
use Rattle.std.specs.Cmp.Lexicographic.{slice_cmp}
use Rattle.std.specs.declared.cmp.Ordering.{Ordering}
use Rattle.std.specs.declared.cmp.Ordering.TheVariants.{Less, Equal, Greater}
use Rattle.sst_base.specs.Order.{IsInOrder}
use Rattle.sst_base.specs.KeyOrderLaws.{versions_cmp_total}
use Rattle.sst_block_core.specs.Kind.{Kind, IsOrdered, item_cmp}
use Rattle.sstable_blocks.specs.Blocks.{joined}
use Rattle.sstable_blocks.specs.Lookup.{IsEnd}

-- what is not less is not greater the other way round
pub turned : (o : Ordering) → o ≢ Less → is_gt (ordering_reverse o) ≡ false
turned Less h = absurd (h refl)
turned Equal h = refl
turned Greater h = refl

pub turned_back : (o : Ordering) → is_gt (ordering_reverse o) ≡ false → o ≢ Less
turned_back Less h = λ e. cc
turned_back Equal h = λ e. cc
turned_back Greater h = λ e. cc

-- the parts of an ordered list are ordered
pub tail_in_order : {X : Type 0} (cmp : X → X → Ordering) (x : X) (xs : List X) → IsInOrder cmp (x ∷ xs) → IsInOrder cmp xs
tail_in_order cmp x [] h = tt
tail_in_order cmp x (y ∷ ys) h = h.1

pub front_in_order : {X : Type 0} (cmp : X → X → Ordering) (xs ys : List X) → IsInOrder cmp (xs ++ ys) → IsInOrder cmp xs
front_in_order cmp [] ys h = tt
front_in_order cmp (x ∷ []) ys h = tt
front_in_order cmp (x ∷ y ∷ xs) ys h = (h.0, front_in_order cmp (y ∷ xs) ys h.1)

pub back_in_order : {X : Type 0} (cmp : X → X → Ordering) (xs ys : List X) → IsInOrder cmp (xs ++ ys) → IsInOrder cmp ys
back_in_order cmp [] ys h = h
back_in_order cmp (x ∷ xs) ys h = back_in_order cmp xs ys (tail_in_order cmp x (xs ++ ys) h)

-- what holds of all items of a list, and of one more
pub all_push : {X : Type 0} (P : X → Type 0) (xs : List X) (x : X) → AllByRecursion P xs → P x → AllByRecursion P (xs ++ x ∷ [])
all_push P [] x all p = (p, tt)
all_push P (y ∷ ys) x all p = (all.0, all_push P ys x all.1 p)

-- what holds of all items of a list holds of those of its parts
pub all_front : {X : Type 0} (P : X → Type 0) (xs ys : List X) → AllByRecursion P (xs ++ ys) → AllByRecursion P xs
all_front P [] ys h = tt
all_front P (x ∷ xs) ys h = (h.0, all_front P xs ys h.1)

pub all_back : {X : Type 0} (P : X → Type 0) (xs ys : List X) → AllByRecursion P (xs ++ ys) → AllByRecursion P ys
all_back P [] ys h = h
all_back P (x ∷ xs) ys h = all_back P xs ys h.1

module _ {X : Type 0} (kind : Kind X) where
  -- sorting before is passed on
  pub chain : (x y z : X) → item_cmp kind y x ≢ Less → item_cmp kind z y ≢ Less → item_cmp kind z x ≢ Less
  chain x y z h k =
      let o = versions_cmp_total kind.key kind.seqno in
      let a : is_gt (item_cmp kind x y) ≡ false = ap is_gt (o.antisymm x y) ∙ turned (item_cmp kind y x) h in
      let b : is_gt (item_cmp kind y z) ≡ false = ap is_gt (o.antisymm y z) ∙ turned (item_cmp kind z y) k in
      turned_back (item_cmp kind z x) (sym (ap is_gt (o.antisymm x z)) ∙ upto o x y z a b)

  -- no item of an ordered list sorts before its first one
  pub behind : (x : X) (front : List X) (last : X) (rest : List X) → IsOrdered kind (x ∷ (front ++ last ∷ rest)) → item_cmp kind last x ≢ Less
  behind x [] last rest h = h.0
  behind x (y ∷ front) last rest h = chain x y last h.0 (behind y front last rest h.1)

  module _ {Y : Type 0} (ends : Kind Y) where
    -- a block and a list after it
    pub block_behind : (block : List X) (h : Y) (e : IsEnd kind ends block h) (rest : List X) → block ++ rest ≡ e.front ++ e.last ∷ rest
    block_behind block h e rest = ap (λ xs. xs ++ rest) e.whole ∙ append_assoc e.front (e.last ∷ []) rest

    -- handles compare as the last items of their blocks
    pub ends_cmp : (b : List X) (y : Y) (e : IsEnd kind ends b y) (c : List X) (z : Y) (g : IsEnd kind ends c z) → item_cmp ends z y ≡ item_cmp kind g.last e.last
    ends_cmp b y e c z g =
        ap (λ k. ordering_then (slice_cmp nat_cmp k (ends.key y)) (nat_cmp (ends.seqno y) (ends.seqno z))) g.key
        ∙ ap (λ k. ordering_then (slice_cmp nat_cmp (kind.key g.last) k) (nat_cmp (ends.seqno y) (ends.seqno z))) e.key
        ∙ ap (λ n. ordering_then (slice_cmp nat_cmp (kind.key g.last) (kind.key e.last)) (nat_cmp n (ends.seqno z))) e.seqno
        ∙ ap (λ n. ordering_then (slice_cmp nat_cmp (kind.key g.last) (kind.key e.last)) (nat_cmp (kind.seqno e.last) n)) g.seqno

    -- the handles of an ordered list's blocks are ordered
    pub ends_in_order : (blocks : List (List X)) (hs : List Y) → AllZip (IsEnd kind ends) blocks hs → IsOrdered kind (joined blocks) → IsOrdered ends hs
    ends_in_order [] [] zip h = tt
    ends_in_order [] (y ∷ hs) zip h = absurd zip
    ends_in_order (b ∷ bs) [] zip h = absurd zip
    ends_in_order (b ∷ []) (y ∷ []) zip h = tt
    ends_in_order (b ∷ []) (y ∷ z ∷ hs) zip h = absurd zip.1
    ends_in_order (b ∷ c ∷ bs) (y ∷ []) zip h = absurd zip.1
    ends_in_order (b ∷ c ∷ bs) (y ∷ z ∷ hs) zip h =
        let e = zip.0 in
        let g = zip.1.0 in
        let first : IsOrdered kind (e.front ++ e.last ∷ joined (c ∷ bs)) = subst (IsOrdered kind) (block_behind b y e (joined (c ∷ bs))) h in
        let second : IsOrdered kind (e.last ∷ joined (c ∷ bs)) = back_in_order (item_cmp kind) e.front (e.last ∷ joined (c ∷ bs)) first in
        let third : IsOrdered kind (e.last ∷ (g.front ++ g.last ∷ joined bs)) = subst (λ xs. IsOrdered kind (e.last ∷ xs)) (block_behind c z g (joined bs)) second in
        let ne : item_cmp kind g.last e.last ≢ Less = behind e.last g.front g.last (joined bs) third in (
          (λ less. ne (sym (ends_cmp b y e c z g) ∙ less)),
          ends_in_order (c ∷ bs) (z ∷ hs) zip.1 (tail_in_order (item_cmp kind) e.last (joined (c ∷ bs)) second),
        )
