-- Laws of the places at which blocks begin in their list.
use Rattle.std.proofs.Common.{◌≡◌, ℕ, zero, suc, ◌+◌, ◌<◌, ◌≤◌, nat_eq, List, [], ◌∷◌, ◌++◌, length, take, Some, slice_get, refl, ap, eq-eqb, ◌∙◌, arith, length-append}
use Rattle.std.proofs.lemmas.Bool.{ne_eqb}
use Rattle.std.specs.List.{AllByRecursion}
use Rattle.sstable_blocks.specs.Prelude.{Entry}
use Rattle.sstable_blocks.specs.BlockLaws.{some_is}
use Rattle.sstable_blocks.specs.Blocks.{IsNotEmpty, joined}
use Rattle.sst_merge.specs.MovableBlocks.{entries_before}
use Rattle.sst_merge.specs.MovableTables.{later_starts, starts_from}
use Rattle.sst_merge.specs.Moved.{begins_block}
use Rattle.sstable_blocks.specs.JoinedLaws.{before_none}
use Rattle.sst_merge.proofs.Merging.CutSteps.{count_no, count_yes}

starts_here : (starts : List ℕ) (start place : ℕ) → start ≡ place → begins_block (start ∷ starts) place ≡ suc (begins_block starts place)
starts_here starts start place is = count_yes (λ s. nat_eq s place) start starts (eq-eqb start place is)

not_here : (starts : List ℕ) (start place : ℕ) → (start ≡ place → ⊥) → begins_block (start ∷ starts) place ≡ begins_block starts place
not_here starts start place differ = count_no (λ s. nat_eq s place) start starts (ne_eqb start place differ)

-- no block begins before the first
none_before : (blocks : List (List Entry)) (from place : ℕ) → place < from → begins_block (starts_from from blocks) place ≡ 0
none_before [] from place less = refl
none_before (b ∷ bs) from place less = not_here (starts_from (from + length b) bs) from place (λ e. omega (arith, e, less)) ∙ none_before bs (from + length b) place (omega (arith, less))

-- nor after the last
none_after : (blocks : List (List Entry)) (from : ℕ) → AllByRecursion IsNotEmpty blocks → begins_block (starts_from from blocks) (from + length (joined blocks)) ≡ 0
none_after [] from some = refl
none_after (b ∷ bs) from some =
    let n = length-append b (joined bs) in
    let k = some.0 in
    let place : from + length (b ++ joined bs) ≡ from + length b + length (joined bs) = omega (arith, n) in
    ap (begins_block (starts_from from (b ∷ bs))) place
    ∙ not_here (starts_from (from + length b) bs) from (from + length b + length (joined bs)) (λ e. omega (arith, e, k)) ∙ none_after bs (from + length b) some.1

-- one begins where its first entry is
one_from : (blocks : List (List Entry)) (from k : ℕ) → AllByRecursion IsNotEmpty blocks → k < length blocks → begins_block (starts_from from blocks) (from + entries_before blocks k) ≡ 1
one_from [] from k some inside = absurd (omega (arith, inside))
one_from (b ∷ bs) from zero some inside =
    let e = before_none (b ∷ bs) in
    let k = some.0 in
    let place : from + entries_before (b ∷ bs) 0 ≡ from = omega (arith, e) in
    ap (begins_block (starts_from from (b ∷ bs))) place ∙ starts_here (starts_from (from + length b) bs) from from refl ∙ ap suc (none_before bs (from + length b) from (omega (arith, k)))
one_from (b ∷ bs) from (suc k) some inside =
    let n = length-append b (joined (take k bs)) in
    let h = some.0 in
    let place : from + entries_before (b ∷ bs) (suc k) ≡ from + length b + entries_before bs k = omega (arith, n) in
    ap (begins_block (starts_from from (b ∷ bs))) place
    ∙ not_here (starts_from (from + length b) bs) from (from + length b + entries_before bs k) (λ e. omega (arith, e, h)) ∙ one_from bs (from + length b) k some.1 (omega (arith, inside))

-- and none at a later entry of one
none_within : (blocks : List (List Entry)) (from k i : ℕ) (items : List Entry) → slice_get blocks k ≡ Some items → 0 < i → i < length items → begins_block (starts_from from blocks) (from + (entries_before blocks k + i)) ≡ 0
none_within [] from k i items at more less = absurd (cc)
none_within (b ∷ bs) from zero i items at more less =
    let e = before_none (b ∷ bs) in
    let d : b ≡ items = some_is b items at in
    let n = ap length d in
    let place : from + (entries_before (b ∷ bs) 0 + i) ≡ from + i = omega (arith, e) in
    ap (begins_block (starts_from from (b ∷ bs))) place ∙ not_here (starts_from (from + length b) bs) from (from + i) (λ e. omega (arith, e, more)) ∙ none_before bs (from + length b) (from + i) (omega (arith, n, less))
none_within (b ∷ bs) from (suc k) i items at more less =
    let n = length-append b (joined (take k bs)) in
    let place : from + (entries_before (b ∷ bs) (suc k) + i) ≡ from + length b + (entries_before bs k + i) = omega (arith, n) in
    ap (begins_block (starts_from from (b ∷ bs))) place
    ∙ not_here (starts_from (from + length b) bs) from (from + length b + (entries_before bs k + i)) (λ e. omega (arith, e, more)) ∙ none_within bs (from + length b) k i items at more less

-- The same of the places at which another block than the first begins.
pub none_at_first : (blocks : List (List Entry)) → AllByRecursion IsNotEmpty blocks → begins_block (later_starts (Some blocks)) 0 ≡ 0
none_at_first [] some = refl
none_at_first (b ∷ bs) some = none_before bs (length b) 0 some.0

pub none_behind : (blocks : List (List Entry)) → AllByRecursion IsNotEmpty blocks → begins_block (later_starts (Some blocks)) (length (joined blocks)) ≡ 0
none_behind [] some = refl
none_behind (b ∷ bs) some = ap (begins_block (starts_from (length b) bs)) (length-append b (joined bs)) ∙ none_after bs (length b) some.1

pub one_at : (blocks : List (List Entry)) (k : ℕ) → AllByRecursion IsNotEmpty blocks → 1 ≤ k → k < length blocks → begins_block (later_starts (Some blocks)) (entries_before blocks k) ≡ 1
one_at [] k some more inside = absurd (omega (arith, inside))
one_at (b ∷ bs) zero some more inside = absurd (omega (arith, more))
one_at (b ∷ bs) (suc k) some more inside = ap (begins_block (starts_from (length b) bs)) (length-append b (joined (take k bs))) ∙ one_from bs (length b) k some.1 (omega (arith, inside))

pub none_inside : (blocks : List (List Entry)) (k i : ℕ) (items : List Entry) → slice_get blocks k ≡ Some items → 0 < i → i < length items → begins_block (later_starts (Some blocks)) (entries_before blocks k + i) ≡ 0
none_inside [] k i items at more less = absurd (cc)
none_inside (b ∷ bs) zero i items at more less =
    let e = before_none (b ∷ bs) in
    let d : b ≡ items = some_is b items at in
    let n = ap length d in
    let place : entries_before (b ∷ bs) 0 + i ≡ i = omega (arith, e) in
    ap (begins_block (starts_from (length b) bs)) place ∙ none_before bs (length b) i (omega (arith, n, less))
none_inside (b ∷ bs) (suc k) i items at more less =
    let n = length-append b (joined (take k bs)) in
    let place : entries_before (b ∷ bs) (suc k) + i ≡ length b + (entries_before bs k + i) = omega (arith, n) in
    ap (begins_block (starts_from (length b) bs)) place ∙ none_within bs (length b) k i items at more less
