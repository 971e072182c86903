-- Blocks after parts that are closed.
use Rattle.std.proofs.Common.{◌≡◌, ℕ, ◌+◌, ◌-◌, ◌≤◌, ◌||◌, ◌&&◌, Bool, true, false, cond, inl, inr, List, [], ◌∷◌, ◌++◌, length, take, refl, arith, sym, ◌∙◌, ap, subst, append_assoc, length-append, Option, Some, None}
use Rattle.std.proofs.lemmas.Bool.{cases_Bool, cases_lt}
use Rattle.std.proofs.lemmas.Bool.Decides.{nat_tests}
use Rattle.std.proofs.lemmas.List.{append-nil, length_push, map-append, take-append-le, take_all}
use Rattle.std.proofs.lemmas.List.Sums.{sum_by-append}
use Rattle.std.specs.Prelude.{nat_le}
use Rattle.sstable_blocks.specs.Prelude.{Entry, entries, IsOrdered, item_cmp}
use Rattle.sst_parts.specs.PartCopies.{ClosedView, IsLastKey, IsNextPart, IsOpenPart, known_blocks, known_parts}
use Rattle.sst_parts.specs.PartWriting.{AreCut, IsFirstFull, IsLastOf, data_len, is_full, reaches}
use Rattle.sst_parts.specs.declared.closed.PartEnd.{PartEnd}
use Rattle.sst_parts.specs.declared.closed.PartOrigin.{PartOrigin}
use Rattle.sst_parts.specs.declared.closed.PartOrigin.TheVariants.{Made}
use Rattle.sst_parts.specs.declared.writer.PartSizes.{PartSizes}
use Rattle.sst_parts.proofs.Writing.Joins.{joined-append}
use Rattle.sstable_blocks.specs.EndLaws.{all_push, back_in_order}
use Rattle.sstable_blocks.specs.Blocks.{joined}
use Rattle.sstable_blocks.specs.Run.{IsWritable}
use Rattle.sstable_blocks.specs.RunLaws.{joined_push}
use Rattle.sstable_blocks.specs.Writing.{Follows, IsSameRun, Writing}

pub full_by : (sizes : PartSizes) (blocks : List (List Entry)) (a b : Bool) → a ≡ reaches sizes.blocks (length blocks) → b ≡ reaches sizes.bytes (data_len (joined blocks)) → is_full sizes blocks ≡ (a || b)
unfolding is_full
full_by sizes blocks a b e h = ap (λ x. x || reaches sizes.bytes (data_len (joined blocks))) (sym e) ∙ ap (λ x. a || x) (sym h)

module _ (parts : List (List (List Entry))) (blocks : List (List Entry)) (items : List Entry) where
  whole : joined ((joined parts ++ blocks) ++ items ∷ []) ≡ joined (joined parts) ++ (joined blocks ++ items)
  whole = joined_push (joined parts ++ blocks) items ∙ ap (λ xs. xs ++ items) (joined-append (joined parts) blocks) ∙ append_assoc (joined (joined parts)) (joined blocks) items

  -- what follows all blocks follows those of the current part
  pub follows_part : Follows (joined parts ++ blocks) items → Follows blocks items
  follows_part f = record {
    some = f.some;
    ordered = subst (IsOrdered entries) (sym (joined_push blocks items)) (back_in_order (item_cmp entries) (joined (joined parts)) (joined blocks ++ items) (subst (IsOrdered entries) whole f.ordered));
  }

-- the parts with the current one, in order
pub ordered_push : (parts : List (List (List Entry))) (blocks : List (List Entry)) → IsOrdered entries (joined (joined parts ++ blocks)) → IsOrdered entries (joined (joined (parts ++ blocks ∷ [])))
ordered_push parts blocks ordered = subst (λ bs. IsOrdered entries (joined bs)) (sym (joined_push parts blocks)) ordered

-- a part without blocks is not full
reaches_none : (limit : ℕ) → reaches limit 0 ≡ false
reaches_none limit = elim (cases_Bool (nat_le 1 limit)) [
  | inl some ↦ (let no : nat_le limit 0 ≡ false = grind (arith, nat_tests) in ap (λ b. b && nat_le limit 0) some ∙ no)
  | inr none ↦ ap (λ b. b && nat_le limit 0) none
]

pub full_some : (sizes : PartSizes) (blocks : List (List Entry)) → is_full sizes blocks ≡ true → 1 ≤ length blocks
unfolding is_full
full_some sizes [] full =
    let none : is_full sizes [] ≡ false = ap (λ b. b || reaches sizes.bytes 0) (reaches_none sizes.blocks) ∙ reaches_none sizes.bytes in
    cc
full_some sizes (b ∷ bs) full = omega arith

-- what follows the blocks before follows those of the part that it is added to
pub follows_next : (full : Bool) (parts : List (List (List Entry))) (blocks : List (List Entry)) (items : List Entry) → Follows (joined parts ++ blocks) items → Follows (cond full [] blocks) items
follows_next false parts blocks items f = follows_part parts blocks items f
follows_next true parts blocks items f =
    let ordered = (follows_part parts blocks items f).ordered in
    record {
      some = f.some;
      ordered = subst (IsOrdered entries) (sym (append-nil items)) (back_in_order (item_cmp entries) (joined blocks) items (subst (IsOrdered entries) (joined_push blocks items) ordered));
    }

-- the last of blocks is that of the last block
last_behind : (blocks : List (List Entry)) (items : List Entry) (key : List ℕ) (seqno : ℕ) → IsLastOf items key seqno → IsLastOf (joined (blocks ++ items ∷ [])) key seqno
last_behind blocks items key seqno l = record {
  front = joined blocks ++ l.front;
  last = l.last;
  whole = joined_push blocks items ∙ ap (λ xs. joined blocks ++ xs) l.whole ∙ sym (append_assoc (joined blocks) l.front (l.last ∷ []));
  key_is = l.key_is;
  seqno_is = l.seqno_is;
  short = l.short;
}

-- and that of blocks after others
pub last_key_behind : (before blocks : List (List Entry)) (key : List ℕ) (seqno : ℕ) → IsLastOf (joined blocks) key seqno → IsLastKey (joined (before ++ blocks)) (Some (key, seqno))
last_key_behind before blocks key seqno l =
    let whole : joined (before ++ blocks) ≡ (joined before ++ l.front) ++ l.last ∷ [] = joined-append before blocks ∙ ap (λ xs. joined before ++ xs) l.whole ∙ sym (append_assoc (joined before) l.front (l.last ∷ [])) in
    (joined before ++ l.front, l.last, whole, l.key_is, l.seqno_is)

data_len-append : (xs ys : List Entry) → data_len (xs ++ ys) ≡ data_len xs + data_len ys
data_len-append xs ys = sum_by-append (λ (e : Entry). length e.key.user_key + length e.value) xs ys

left_behind : (full : Bool) (bytes left left' : ℕ) (blocks : List (List Entry)) (items : List Entry) → left ≡ bytes - data_len (joined blocks) → left' ≡ cond full bytes left - data_len items → left' ≡ bytes - data_len (joined (cond full [] blocks ++ items ∷ []))
left_behind true bytes left left' blocks items is e = e ∙ ap (λ xs. bytes - data_len xs) (sym (append-nil items))
left_behind false bytes left left' blocks items is e =
    let both = ap data_len (joined_push blocks items) ∙ data_len-append (joined blocks) items in
    omega (arith, is, e, both)

-- the blocks of all parts are the same
pub same_blocks : (full : Bool) (parts : List (List (List Entry))) (blocks : List (List Entry)) → joined (cond full (parts ++ blocks ∷ []) parts) ++ cond full [] blocks ≡ joined parts ++ blocks
same_blocks true parts blocks = append-nil (joined (parts ++ blocks ∷ [])) ∙ joined_push parts blocks
same_blocks false parts blocks = refl

pub some_behind : (bs : List (List Entry)) (b : List Entry) → 1 ≤ length (bs ++ b ∷ [])
some_behind bs b = omega (arith, length-append bs (b ∷ []))

-- parts that are cut by their sizes still are with one block more
first_more : (sizes : PartSizes) (blocks : List (List Entry)) (b : List Entry) → IsFirstFull sizes blocks → is_full sizes blocks ≡ false → IsFirstFull sizes (blocks ++ b ∷ [])
first_more sizes blocks b first more n one inside =
    let l = length_push blocks b in
    let front : take n (blocks ++ b ∷ []) ≡ take n blocks = take-append-le n blocks (b ∷ []) (omega (arith, l, inside)) in
    ap (is_full sizes) front ∙ elim (cases_lt n (length blocks)) [
      | inl less ↦ first n one less
      | inr all ↦ ap (is_full sizes) (take_all n blocks all) ∙ more
    ]

pub cut_next : (sizes : PartSizes) (full : Bool) (parts : List (List (List Entry))) (blocks : List (List Entry)) (b : List Entry) → AreCut sizes parts blocks → is_full sizes blocks ≡ full → AreCut sizes (cond full (parts ++ blocks ∷ []) parts) (cond full [] blocks ++ b ∷ [])
cut_next sizes true parts blocks b cut full = record {
  full = all_push (λ part. (is_full sizes part ≡ true) × IsFirstFull sizes part) parts blocks cut.full (full, cut.first);
  first = λ n one inside. absurd (omega (arith, one, inside));
  none = λ no. absurd (cc);
}
cut_next sizes false parts blocks b cut more = record { full = cut.full; first = first_more sizes blocks b cut.first more; none = λ no. absurd (let some = ap length no in let l = length_push blocks b in omega (arith, some, l)) }

-- what is known of the parts closed, with one part of blocks more
pub known_push : (closed : List PartOrigin) (blocks : List (List Entry)) → known_parts (closed ++ Made blocks ∷ []) ≡ known_parts closed ++ blocks ∷ []
known_push closed blocks = map-append known_blocks closed (Made blocks ∷ [])

pub known_next : (full : Bool) (closed : List PartOrigin) (blocks : List (List Entry)) → known_parts (cond full (closed ++ Made blocks ∷ []) closed) ≡ cond full (known_parts closed ++ blocks ∷ []) (known_parts closed)
known_next true closed blocks = known_push closed blocks
known_next false closed blocks = refl

-- what is kept of the current part after one block more
pub open_next : {W : Type 0} (closed closed' : ClosedView) (run run' run'' : Writing W) (sizes : PartSizes) (full : Bool) (blocks blocks' : List (List Entry)) (end : Option PartEnd) (left left' : ℕ) (items : List Entry) (last : PartEnd)
    → IsOpenPart closed run sizes blocks end left → IsNextPart closed run full closed' run' → IsSameRun run' run'' → run''.refusal ≡ None → run''.blocks ≡ run'.blocks ++ items ∷ [] → Follows (joined (known_parts closed.parts) ++ run.blocks) items → IsLastOf items last.key last.seqno
    → blocks' ≡ cond full [] blocks ++ items ∷ [] → left' ≡ cond full sizes.bytes left - data_len items → IsOpenPart closed' run'' sizes blocks' (Some last) left'
open_next closed closed' run run' run'' sizes full blocks blocks' end left left' items last o n same accepting more follows is_last blocks_is left_is =
    let known = known_parts closed.parts in
    let now : run''.blocks ≡ cond full [] run.blocks ++ items ∷ [] = more ∙ ap (λ bs. bs ++ items ∷ []) n.blocks in
    let parts : known_parts closed'.parts ≡ cond full (known ++ run.blocks ∷ []) known = ap known_parts n.parts ∙ known_next full closed.parts run.blocks in
    let all : (joined known ++ run.blocks) ++ items ∷ [] ≡ joined (known_parts closed'.parts) ++ run''.blocks =
    ap (λ bs. bs ++ items ∷ []) (sym (ap (λ ps. joined ps ++ cond full [] run.blocks) parts ∙ same_blocks full known run.blocks)) ∙ append_assoc (joined (known_parts closed'.parts)) (cond full [] run.blocks) (items ∷ []) ∙ ap (λ bs. joined (known_parts closed'.parts) ++ bs) (sym now) in
    record {
      writable = subst IsWritable (sym n.config) o.writable;
      current = record {
        accepting = accepting;
        joins = record { config = same.config ∙ n.joins.config; start = same.start ∙ n.joins.start };
        blocks_are = blocks_is ∙ ap (λ bs. cond full [] bs ++ items ∷ []) o.current.blocks_are ∙ sym now;
        end_is = subst (λ bs. (1 ≤ length bs) × IsLastOf (joined bs) last.key last.seqno) (sym now) (some_behind (cond full [] run.blocks) items, last_behind (cond full [] run.blocks) items last.key last.seqno is_last);
      };
      left_is = left_behind full sizes.bytes left left' run.blocks items o.left_is left_is ∙ ap (λ bs. sizes.bytes - data_len (joined bs)) (sym now);
      ordered = subst (λ bs. IsOrdered entries (joined bs)) all follows.ordered;
    }
