-- Lists of entries one after the other, each with its end in a handle: in order as a whole where each is, and none begins
-- before the end of the one before.
use Rattle.std.proofs.Common.{◌≡◌, ◌≢◌, ℕ, Bool, true, false, not, eqb, List, [], ◌∷◌, ◌++◌, refl, sym, ◌∙◌, ap, subst, Option, Some, None, Result, Ok, ◌&&◌}
use Rattle.std.proofs.lemmas.Bool.{eqb-true, eq-eqb, and_parts, and_from}
use Rattle.std.specs.Cmp.Lexicographic.{slice_cmp}
use Rattle.std.specs.Cmp.{Equal-is}
use Rattle.std.specs.Ordering.{nat_cmp, ordering_then, is_eq, is_lt}
use Rattle.std.specs.declared.cmp.Ordering.{Ordering}
use Rattle.std.specs.declared.cmp.Ordering.TheVariants.{Less, Equal, Greater}
use Rattle.sst_base.specs.Entry.{Entry}
use Rattle.sst_base.specs.Frame.{demand}
use Rattle.sst_base.specs.Header.{◌>>=◌}
use Rattle.sst_base.specs.KeyOrderLaws.{slice_cmp-equal}
use Rattle.sst_base.specs.Order.{IsInOrder}
use Rattle.sst_base.specs.declared.error.Error.{Error}
use Rattle.sst_block_core.specs.Entries.{entries}
use Rattle.sst_block_core.specs.Handles.{Handle, handles}
use Rattle.sst_block_core.specs.Kind.{IsOrdered, item_cmp}
use Rattle.sstable_blocks.specs.EndLaws.{back_in_order, block_behind, tail_in_order}
use Rattle.sstable_blocks.specs.Lookup.{IsEnd}
use Rattle.sstable_blocks.specs.RunChecks.{end_cmp}

-- what a test that went on says
pub demand_ok : {A : Type 0} (b : Bool) (e : Error) (k : Unit {0} → Result A Error) (y : A) → (demand b e >>= k) ≡ Ok y → (b ≡ true) × (k tt ≡ Ok y)
demand_ok true e k y h = (refl, h)
demand_ok false e k y h = cc

pub demand_to : {A : Type 0} (b : Bool) (e : Error) (k : Unit {0} → Result A Error) (y : A) → b ≡ true → k tt ≡ Ok y → (demand b e >>= k) ≡ Ok y
demand_to true e k y b h = h
demand_to false e k y b h = cc

pub not_lt : (o : Ordering) → not (is_lt o) ≡ true → o ≢ Less
not_lt Less h = cc
not_lt Equal h = λ e. cc
not_lt Greater h = λ e. cc

pub lt_not : (o : Ordering) → o ≢ Less → not (is_lt o) ≡ true
lt_not Less h = absurd (h refl)
lt_not Equal h = refl
lt_not Greater h = refl

-- a test whether a key and a sequence number are those of a handle
pub end_same : (h : Handle) (key : List ℕ) (seqno : ℕ) → (eqb seqno h.seqno && is_eq (slice_cmp nat_cmp key h.end_key)) ≡ true → (h.end_key ≡ key) × (h.seqno ≡ seqno)
end_same h key seqno e =
    let both = and_parts (eqb seqno h.seqno) (is_eq (slice_cmp nat_cmp key h.end_key)) e in
    (sym ((slice_cmp-equal key h.end_key).0 ((Equal-is (slice_cmp nat_cmp key h.end_key)).0 both.1)), sym (eqb-true seqno h.seqno both.0))

pub same_end : (h : Handle) (key : List ℕ) (seqno : ℕ) → h.end_key ≡ key → h.seqno ≡ seqno → (eqb seqno h.seqno && is_eq (slice_cmp nat_cmp key h.end_key)) ≡ true
same_end h key seqno same same_no =
    and_from (eqb seqno h.seqno) (is_eq (slice_cmp nat_cmp key h.end_key))
    (eq-eqb seqno h.seqno (sym same_no))
    ((Equal-is (slice_cmp nat_cmp key h.end_key)).1 ((slice_cmp-equal key h.end_key).1 (sym same)))

-- no item sorts before the end of the list before, if there is one
abbrev pub FollowsEnd : Option Handle → List Entry → Type 0
FollowsEnd None xs = Unit {0}
FollowsEnd (Some h) [] = Unit {0}
FollowsEnd (Some h) (x ∷ xs) = end_cmp h x ≢ Less

pub follows_none : (o : Option Handle) → FollowsEnd o []
follows_none None = tt
follows_none (Some h) = tt

-- two ordered lists that meet in an item, as one
order_join : {X : Type 0} (cmp : X → X → Ordering) (front : List X) (last : X) (rest : List X) → IsInOrder cmp (front ++ last ∷ []) → IsInOrder cmp (last ∷ rest) → IsInOrder cmp (front ++ last ∷ rest)
order_join cmp [] last rest h k = k
order_join cmp (x ∷ []) last rest h k = (h.0, k)
order_join cmp (x ∷ y ∷ front) last rest h k = (h.0, order_join cmp (y ∷ front) last rest h.1 k)

module _ (block : List Entry) (h : Handle) (i : IsEnd entries handles block h) where
  -- a handle compares as the last entry of its list
  end_cmp-last : (x : Entry) → end_cmp h x ≡ item_cmp entries x i.last
  end_cmp-last x =
      ap (λ k. ordering_then (slice_cmp nat_cmp x.key.user_key k) (nat_cmp h.seqno x.key.seqno)) i.key
      ∙ ap (λ n. ordering_then (slice_cmp nat_cmp x.key.user_key i.last.key.user_key) (nat_cmp n x.key.seqno)) i.seqno

  after_last : (rest : List Entry) → FollowsEnd (Some h) rest → IsOrdered entries rest → IsOrdered entries (i.last ∷ rest)
  after_last [] c o = tt
  after_last (y ∷ ys) c o = ((λ less. c (end_cmp-last y ∙ less)), o)

  -- an ordered list that follows an ordered list, as one
  pub ordered_join : (rest : List Entry) → IsOrdered entries block → FollowsEnd (Some h) rest → IsOrdered entries rest → IsOrdered entries (block ++ rest)
  ordered_join rest a c b =
      subst (IsOrdered entries) (sym (block_behind entries handles block h i rest))
      (order_join (item_cmp entries) i.front i.last rest (subst (IsOrdered entries) i.whole a) (after_last rest c b))

  follows_last : (rest : List Entry) → IsOrdered entries (i.last ∷ rest) → FollowsEnd (Some h) rest
  follows_last [] o = tt
  follows_last (y ∷ ys) o = λ less. o.0 (sym (end_cmp-last y) ∙ less)

  -- and the other way round
  pub ordered_cut : (rest : List Entry) → IsOrdered entries (block ++ rest) → FollowsEnd (Some h) rest × IsOrdered entries rest
  ordered_cut rest o =
      let after = back_in_order (item_cmp entries) i.front (i.last ∷ rest) (subst (IsOrdered entries) (block_behind entries handles block h i rest) o) in
      (follows_last rest after, tail_in_order (item_cmp entries) i.last rest after)
