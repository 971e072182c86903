-- Lists that are the parts of one ordered list, one after the other.
use Rattle.std.proofs.Common.{◌≡◌, ◌≢◌, List, [], ◌∷◌, ◌++◌, refl, sym, ap, ◌∙◌, append-nil}
use Rattle.std.specs.Cmp.{IsTotalOrder}
use Rattle.std.specs.declared.cmp.Ordering.{Ordering}
use Rattle.std.specs.declared.cmp.Ordering.TheVariants.{Less}
use Rattle.sstable_blocks.specs.Prelude.{Entry, IsInOrder, entries, IsOrdered}
use Rattle.sstable_blocks.specs.BlockLaws.{versions_cmp_total, is_not_lt}
use Rattle.sstable_blocks.specs.Blocks.{joined}
use Rattle.sst_sources.specs.Merge.{merge, merged, entry_cmp}
use Rattle.sst_sources.specs.MergeLaws.{merge-first}
use Rattle.sst_sources.specs.MergeReads.{ge_trans}
use Rattle.sstable_blocks.specs.EndLaws.{tail_in_order, back_in_order}

module _ {X : Type 0} (cmp : X → X → Ordering) (order : IsTotalOrder cmp) where
  -- no later item sorts before the first
  not_before : (x : X) (xs : List X) (y : X) (ys : List X) → IsInOrder cmp (x ∷ (xs ++ y ∷ ys)) → cmp y x ≢ Less
  not_before x [] y ys h = h.0
  not_before x (z ∷ zs) y ys h = ge_trans cmp order y z x (not_before z zs y ys h.1) h.0

  -- the merge of a list with one that comes after it
  merge_parts : (xs ys : List X) → IsInOrder cmp (xs ++ ys) → merge cmp xs ys ≡ xs ++ ys
  merge_parts [] ys h = refl
  merge_parts (x ∷ xs) [] h = sym (append-nil (x ∷ xs))
  merge_parts (x ∷ xs) (y ∷ ys) h =
      merge-first cmp x y xs ys (is_not_lt (cmp y x) (not_before x xs y ys h))
      ∙ ap (λ zs. x ∷ zs) (merge_parts xs (y ∷ ys) (tail_in_order cmp x (xs ++ y ∷ ys) h))

  merged_parts : (xss : List (List X)) → IsInOrder cmp (joined xss) → merged cmp xss ≡ joined xss
  merged_parts [] h = refl
  merged_parts (xs ∷ xss) h = ap (merge cmp xs) (merged_parts xss (back_in_order cmp xs (joined xss) h)) ∙ merge_parts xs (joined xss) h

-- the merge of the parts of an ordered list is the list
pub parts_whole : (lists : List (List Entry)) → IsOrdered entries (joined lists) → merged entry_cmp lists ≡ joined lists
parts_whole lists h = merged_parts entry_cmp (versions_cmp_total entries.key entries.seqno) lists h
