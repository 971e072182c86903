-- Laws of the bounds of searches, of entries as decoded, and of handles that are found.
use Rattle.std.proofs.Common.{◌≡◌, ℕ, ◌+◌, Bool, true, false, cond, List, [], ◌∷◌, ◌++◌, length, map, refl, arith, sym, ◌∙◌, ap, Option, Some, None}
use Rattle.std.proofs.lemmas.Bool.{le-leb}
use Rattle.std.proofs.lemmas.List.{map-append}
use Rattle.std.proofs.lemmas.List.Sums.{sum_by-cons}
use Rattle.std.specs.List.{count_by}
use Rattle.std.specs.Cmp.Lexicographic.{slice_cmp}
use Rattle.std.specs.Option.{option_map}
use Rattle.std.specs.Ordering.{nat_cmp, is_lt, is_le}
use Rattle.std.specs.declared.cmp.Ordering.{Ordering}
use Rattle.std.specs.declared.cmp.Ordering.TheVariants.{Less, Equal, Greater}
use Rattle.std.specs.declared.ops.Bound.{Bound}
use Rattle.std.specs.declared.ops.Bound.TheVariants.{Included, Excluded, Unbounded}
use Rattle.sst_base.specs.Counted.{found_item}
use Rattle.sst_base.specs.Entry.{Entry, plain}
use Rattle.sst_block_core.specs.Entries.{entries}
use Rattle.sst_block_core.specs.Handles.{Handle, handles}
use Rattle.sst_block_core.specs.Kind.{Kind, IsOrdered}
use Rattle.sst_block_core.specs.Window.{passes, passes_cmp, count_passed}
use Rattle.sstable_blocks.specs.Blocks.{joined}
use Rattle.sstable_blocks.specs.Opened.{range_of}
use Rattle.sstable_blocks.specs.Scans.{is_before, is_up_to}

-- tests that are the same of each count the same
pub count_same : {X : Type 0} (p q : X → Bool) → ((x : X) → p x ≡ q x) → (xs : List X) → count_by p xs ≡ count_by q xs
count_same p q same [] = refl
count_same p q same (x ∷ xs) =
    sum_by-cons (λ y. cond (p y) 1 0) x xs ∙ ap (λ b. cond b 1 0 + count_by p xs) (same x) ∙ ap (λ n. cond (q x) 1 0 + n) (count_same p q same xs)
    ∙ sym (sum_by-cons (λ y. cond (q y) 1 0) x xs)

-- a bound without a number passes the lesser keys, one from 0 on equal ones too
pub below_is : (o : Ordering) (s : ℕ) → passes_cmp o None s ≡ is_lt o
below_is Less s = refl
below_is Equal s = refl
below_is Greater s = refl

pub up_to_is : (o : Ordering) (s : ℕ) → passes_cmp o (Some 0) s ≡ is_le o
up_to_is Less s = refl
up_to_is Equal s = le-leb 0 s (omega arith)
up_to_is Greater s = refl

-- the keys that a bound passes, by their order
pub passed_below : {X : Type 0} (kind : Kind X) (k : List ℕ) (xs : List X) → count_passed kind k None xs ≡ count_by (λ x. is_lt (slice_cmp nat_cmp (kind.key x) k)) xs
unfolding count_passed
passed_below kind k xs = count_same (λ x. passes k None (kind.key x) (kind.seqno x)) (λ x. is_lt (slice_cmp nat_cmp (kind.key x) k)) (λ x. below_is (slice_cmp nat_cmp (kind.key x) k) (kind.seqno x)) xs

pub passed_up_to : {X : Type 0} (kind : Kind X) (k : List ℕ) (xs : List X) → count_passed kind k (Some 0) xs ≡ count_by (λ x. is_le (slice_cmp nat_cmp (kind.key x) k)) xs
unfolding count_passed
passed_up_to kind k xs = count_same (λ x. passes k (Some 0) (kind.key x) (kind.seqno x)) (λ x. is_le (slice_cmp nat_cmp (kind.key x) k)) (λ x. up_to_is (slice_cmp nat_cmp (kind.key x) k) (kind.seqno x)) xs

-- none, and all
pub count_none : {X : Type 0} (xs : List X) → count_by (λ x. false) xs ≡ 0
count_none [] = refl
count_none (x ∷ xs) = sum_by-cons (λ y. 0) x xs ∙ ap (λ n. 0 + n) (count_none xs)

pub count_all : {X : Type 0} (xs : List X) → count_by (λ x. true) xs ≡ length xs
count_all [] = refl
count_all (x ∷ xs) = sum_by-cons (λ y. 1) x xs ∙ (let more = count_all xs in omega arith)

-- positions in an index
module _ (hs : List Handle) (p : ℕ) (n k : List ℕ) (f : Option ℕ) where
  pub before_included : (b : Bound (List ℕ)) → p ≡ count_passed handles n f hs → n ≡ k → f ≡ None → b ≡ Included k → p ≡ count_by (λ (h : Handle). is_before b h.end_key) hs
  before_included b at same none is =
      at ∙ ap (λ x. count_passed handles x f hs) same ∙ ap (λ o. count_passed handles k o hs) none ∙ passed_below handles k hs ∙ ap (λ (v : Bound (List ℕ)). count_by (λ (h : Handle). is_before v h.end_key) hs) (sym is)

  pub before_excluded : (b : Bound (List ℕ)) → p ≡ count_passed handles n f hs → n ≡ k → f ≡ Some 0 → b ≡ Excluded k → p ≡ count_by (λ (h : Handle). is_before b h.end_key) hs
  before_excluded b at same none is =
      at ∙ ap (λ x. count_passed handles x f hs) same ∙ ap (λ o. count_passed handles k o hs) none ∙ passed_up_to handles k hs ∙ ap (λ (v : Bound (List ℕ)). count_by (λ (h : Handle). is_before v h.end_key) hs) (sym is)

  pub up_to_included : (b : Bound (List ℕ)) → p ≡ count_passed handles n f hs → n ≡ k → f ≡ Some 0 → b ≡ Included k → p ≡ count_by (λ (h : Handle). is_up_to b h.end_key) hs
  up_to_included b at same none is =
      at ∙ ap (λ x. count_passed handles x f hs) same ∙ ap (λ o. count_passed handles k o hs) none ∙ passed_up_to handles k hs ∙ ap (λ (v : Bound (List ℕ)). count_by (λ (h : Handle). is_up_to v h.end_key) hs) (sym is)

  pub up_to_excluded : (b : Bound (List ℕ)) → p ≡ count_passed handles n f hs → n ≡ k → f ≡ None → b ≡ Excluded k → p ≡ count_by (λ (h : Handle). is_up_to b h.end_key) hs
  up_to_excluded b at same none is =
      at ∙ ap (λ x. count_passed handles x f hs) same ∙ ap (λ o. count_passed handles k o hs) none ∙ passed_below handles k hs ∙ ap (λ (v : Bound (List ℕ)). count_by (λ (h : Handle). is_up_to v h.end_key) hs) (sym is)

pub none_before : (hs : List Handle) (b : Bound (List ℕ)) → b ≡ Unbounded → 0 ≡ count_by (λ (h : Handle). is_before b h.end_key) hs
none_before hs b is = sym (ap (λ (v : Bound (List ℕ)). count_by (λ (h : Handle). is_before v h.end_key) hs) is ∙ count_none hs)

pub all_up_to : (hs : List Handle) (b : Bound (List ℕ)) (n : ℕ) → n ≡ length hs → b ≡ Unbounded → n ≡ count_by (λ (h : Handle). is_up_to b h.end_key) hs
all_up_to hs b n len is = len ∙ sym (ap (λ (v : Bound (List ℕ)). count_by (λ (h : Handle). is_up_to v h.end_key) hs) is ∙ count_all hs)

-- decoding changes no order
pub plain_ordered : (xs : List Entry) → IsOrdered entries xs → IsOrdered entries (map plain xs)
plain_ordered [] up = tt
plain_ordered (x ∷ []) up = tt
plain_ordered (x ∷ y ∷ ys) up = (up.0, plain_ordered (y ∷ ys) up.1)

-- and is done block by block
pub joined_plain : (blocks : List (List Entry)) → joined (map (map plain) blocks) ≡ map plain (joined blocks)
joined_plain [] = refl
joined_plain (b ∷ blocks) = ap (λ xs. map plain b ++ xs) (joined_plain blocks) ∙ sym (map-append plain b (joined blocks))

-- a handle is found where its range is
pub found_by : (o : Option Handle) → found_item (option_map range_of o) ≡ found_item o
found_by None = refl
found_by (Some h) = refl
