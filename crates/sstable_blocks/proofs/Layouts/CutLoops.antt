-- Writing the blocks of a list one after the other.
use Rattle.std.proofs.Common.{◌≡◌, ℕ, ◌+◌, ◌-◌, ◌<◌, ◌≤◌, List, [], ◌∷◌, ◌++◌, length, take, drop, get_or, refl, arith, sym, ◌∙◌, ap, subst, append_assoc, Option, Some, None, Result, Ok, Err, IfOk}
use Rattle.std.proofs.lemmas.List.{drop_more, drop_all, drop-drop}
use Rattle.std.specs.Io.KnownBytes.{Appends}
use Rattle.sst_base.specs.Entry.{Entry}
use Rattle.sst_base.specs.declared.error.Error.{Error}
use Rattle.sst_block_core.specs.Entries.{entries}
use Rattle.sst_block_core.specs.Kind.{IsOrdered, item_cmp}
use Rattle.sstable_blocks.specs.Blocks.{joined, CutsFit, blocks_from}
use Rattle.sstable_blocks.specs.Run.{Form, block_frame, block_frames}
use Rattle.sstable_blocks.proofs.Lists.Cuts.{CutsLeft, cuts_below}
use Rattle.sstable_blocks.specs.EndLaws.{front_in_order}
use Rattle.sstable_blocks.proofs.Layouts.Kept.{block_frames-push}
use Rattle.sstable_blocks.specs.Writing.{AppendsLayout, AppendsEnd}
use Rattle.sstable_blocks.specs.declared.run.RunHandles.{RunHandles}

-- the next of cuts that fit
pub next_fit : (start end i : ℕ) (cuts : List ℕ) → i < length cuts → CutsFit start end (drop i cuts) → (start < get_or cuts i 0) × (get_or cuts i 0 < end) × CutsFit (get_or cuts i 0) end (drop (i + 1) cuts)
next_fit start end i cuts h fit = subst (CutsFit start end) (drop_more cuts i 0 h) fit

-- and one more of them
pub before_fit : (start end i : ℕ) (cuts : List ℕ) → i < length cuts → start < get_or cuts i 0 → get_or cuts i 0 < end → CutsFit (get_or cuts i 0) end (drop (i + 1) cuts) → CutsFit start end (drop i cuts)
before_fit start end i cuts h less below fit = subst (CutsFit start end) (sym (drop_more cuts i 0 h)) (less, below, fit)

-- the next cut
pub next_cut : (start end i : ℕ) (cuts : List ℕ) → i < length cuts → CutsLeft start end (drop i cuts) → (start < get_or cuts i 0) × (get_or cuts i 0 < end) × CutsLeft (get_or cuts i 0) end (drop (i + 1) cuts)
next_cut start end i cuts h fit =
    let f = subst (CutsLeft start end) (drop_more cuts i 0 h) fit in
    (f.0, cuts_below (get_or cuts i 0) end (drop (i + 1) cuts) f.1, f.1)

pub next_block : (start i : ℕ) (cuts : List ℕ) (items : List Entry) → i < length cuts
    → blocks_from start (drop i cuts) items ≡ take (get_or cuts i 0 - start) (drop start items) ∷ blocks_from (get_or cuts i 0) (drop (i + 1) cuts) items
next_block start i cuts items h = ap (λ cs. blocks_from start cs items) (drop_more cuts i 0 h)

joined-append : (xs ys : List (List Entry)) → joined (xs ++ ys) ≡ joined xs ++ joined ys
joined-append [] ys = refl
joined-append (b ∷ bs) ys = ap (λ zs. b ++ zs) (joined-append bs ys) ∙ sym (append_assoc b (joined bs) (joined ys))

-- the blocks so far and the next one are a prefix of the list
pub order_next : (blocks : List (List Entry)) (b : List Entry) (bs all : List (List Entry)) (items : List Entry) → blocks ++ b ∷ bs ≡ all → joined all ≡ items → IsOrdered entries items → IsOrdered entries (joined (blocks ++ b ∷ []))
order_next blocks b bs all items e j o =
    let whole : joined (blocks ++ b ∷ []) ++ joined bs ≡ items =
    sym (joined-append (blocks ++ b ∷ []) bs) ∙ ap joined (append_assoc blocks (b ∷ []) bs) ∙ ap joined e ∙ j in
    front_in_order (item_cmp entries) (joined (blocks ++ b ∷ [])) (joined bs) (subst (IsOrdered entries) (sym whole) o)

pub appends_then : (a b c : Option (List ℕ)) (x y : List ℕ) → Appends a b x → Appends b c y → Appends a c (x ++ y)
appends_then None b c x y h k = tt
appends_then (Some p) None c x y h k = absurd h
appends_then (Some p) (Some q) None x y h k = absurd k
appends_then (Some p) (Some q) (Some r) x y h k = k ∙ ap (λ z. z ++ y) h ∙ append_assoc p x y

-- one step of the loop
pub step_is : (blocks : List (List Entry)) (start i : ℕ) (cuts : List ℕ) (items rest b : List Entry) (all : List (List Entry)) → i < length cuts → rest ≡ drop start items → b ≡ take (get_or cuts i 0 - start) rest
    → blocks ++ blocks_from start (drop i cuts) items ≡ all → blocks ++ b ∷ blocks_from (get_or cuts i 0) (drop (i + 1) cuts) items ≡ all
step_is blocks start i cuts items rest b all h r t e =
    ap (λ x. blocks ++ x ∷ blocks_from (get_or cuts i 0) (drop (i + 1) cuts) items) (t ∙ ap (take (get_or cuts i 0 - start)) r)
    ∙ ap (λ xs. blocks ++ xs) (sym (next_block start i cuts items h)) ∙ e

pub last_is : (blocks : List (List Entry)) (start i : ℕ) (cuts : List ℕ) (items rest : List Entry) (all : List (List Entry)) → length cuts ≤ i → rest ≡ drop start items
    → blocks ++ blocks_from start (drop i cuts) items ≡ all → blocks ++ rest ∷ [] ≡ all
last_is blocks start i cuts items rest all h r e =
    ap (λ x. blocks ++ x ∷ []) r ∙ ap (λ cs. blocks ++ blocks_from start cs items) (sym (drop_all i cuts h)) ∙ e

pub so_far_is : (old new : List (List Entry)) (b : List Entry) (bs all : List (List Entry)) → new ≡ old ++ b ∷ [] → old ++ b ∷ bs ≡ all → new ++ bs ≡ all
so_far_is old new b bs all n e = ap (λ xs. xs ++ bs) n ∙ append_assoc old (b ∷ []) bs ∙ e

pub rest_is : {X : Type 0} (start cut : ℕ) (items rest behind : List X) → start ≤ cut → rest ≡ drop start items → behind ≡ drop (cut - start) rest → behind ≡ drop cut items
rest_is start cut items rest behind h r b =
    let n : start + (cut - start) ≡ cut = omega arith in
    b ∙ ap (drop (cut - start)) r ∙ drop-drop (cut - start) start items ∙ ap (λ k. drop k items) n

pub bytes_next : (f : Form) (a b c : Option (List ℕ)) (old new : List (List Entry)) (block : List Entry) → Appends a b (block_frames f old) → Appends b c (block_frame f block) → new ≡ old ++ block ∷ [] → Appends a c (block_frames f new)
bytes_next f a b c old new block h k n = subst (Appends a c) (sym (ap (block_frames f) n ∙ block_frames-push f old block)) (appends_then a b c _ _ h k)

-- the frames of all blocks, and then the end, are a layout
pub layout_joined : (f : Form) (blocks : List (List Entry)) (a b c : Option (List ℕ)) (h : RunHandles) → Appends a b (block_frames f blocks) → AppendsEnd f blocks b c h → AppendsLayout f blocks a c h
layout_joined f blocks a b c h front end = (block_frames f blocks ++ end.0, end.1, appends_then a b c _ _ front end.2)

pub layout_end : (f : Form) (a b c : Option (List ℕ)) (blocks all : List (List Entry)) (r : Result RunHandles Error) → blocks ≡ all → Appends a b (block_frames f blocks)
    → IfOk r (AppendsEnd f blocks b c) → IfOk r (AppendsLayout f all a c)
layout_end f a b c blocks all (Ok h) e front end = subst (λ bs. AppendsLayout f bs a c h) e (layout_joined f blocks a b c h front end)
layout_end f a b c blocks all (Err x) e front end = tt
