-- The last entry so far, and what follows it.
use Rattle.std.proofs.Common.{◌≡◌, ◌≢◌, ◌↔◌, ℕ, IsTrue, List, [], ◌∷◌, ◌++◌, map, refl, arith, sym, ◌∙◌, ap, subst, Option, Some, None}
use Rattle.std.specs.List.{slice_get}
use Rattle.std.specs.Ordering.{is_ge}
use Rattle.std.specs.declared.cmp.Ordering.{Ordering}
use Rattle.std.specs.declared.cmp.Ordering.TheVariants.{Less, Equal, Greater}
use Rattle.sst_parts.specs.PartCopies.{IsLastKey, SortsBehind}
use Rattle.sstable_blocks.specs.Prelude.{Entry, entries, Handle, handles, IsOrdered}
use Rattle.sstable_blocks.specs.Blocks.{joined}
use Rattle.sstable_blocks.specs.FollowLaws.{ordered_cut, ordered_join}
use Rattle.sstable_blocks.specs.Lookup.{IsEnd}
use Rattle.sstable_blocks.specs.RunLaws.{joined_push}
use Rattle.sstable_blocks.specs.Writing.{Follows}

-- the first of a list, and of its image
pub first_mapped : {X Y : Type 0} (f : X → Y) (xs : List X) (x : X) → slice_get xs 0 ≡ Some x → slice_get (map f xs) 0 ≡ Some (f x)
first_mapped f [] x e = cc
first_mapped f (y ∷ ys) x e = (let same : y ≡ x = cc in ap (λ z. Some (f z)) same)

-- an order that is not less
pub not_less : (o : Ordering) → IsTrue (is_ge o) ↔ (o ≢ Less)
not_less Less = ((λ t. cc), (λ h. absurd (h refl)))
not_less Equal = ((λ t e. cc), (λ h. refl))
not_less Greater = ((λ t e. cc), (λ h. refl))

-- a handle with a key and a sequence number
end_handle : List ℕ × ℕ → Handle
end_handle last = record { offset = 0; size = 0; seqno = last.1; end_key = last.0 }

is_end : (xs : List Entry) (last : List ℕ × ℕ) → IsLastKey xs (Some last) → IsEnd entries handles xs (end_handle last)
unfolding end_handle
is_end xs last l = record { front = l.0; last = l.1; whole = l.2; key = l.3; seqno = l.4 }

-- what does not sort before the last entry follows the blocks
pub follows_from : (blocks : List (List Entry)) (last : Option (List ℕ × ℕ)) (items : List Entry) (first : Entry) → IsLastKey (joined blocks) last → IsOrdered entries (joined blocks) → slice_get items 0 ≡ Some first → IsOrdered entries items → SortsBehind last first → Follows blocks items
unfolding end_handle
follows_from blocks last [] first l o s p b = cc
follows_from blocks None (x ∷ xs) first l o s p b = record { some = omega arith; ordered = subst (IsOrdered entries) (sym (joined_push blocks (x ∷ xs) ∙ ap (λ ys. ys ++ x ∷ xs) l)) p }
follows_from blocks (Some last) (x ∷ xs) first l o s p b =
    let same : x ≡ first = cc in
    let behind = subst (SortsBehind (Some last)) (sym same) b in
    record {
      some = omega arith;
      ordered = subst (IsOrdered entries) (sym (joined_push blocks (x ∷ xs))) (ordered_join (joined blocks) (end_handle last) (is_end (joined blocks) last l) (x ∷ xs) o behind p);
    }

-- and the other way round
pub follows_to : (blocks : List (List Entry)) (last : Option (List ℕ × ℕ)) (items : List Entry) (first : Entry) → IsLastKey (joined blocks) last → slice_get items 0 ≡ Some first → Follows blocks items → IsOrdered entries items × SortsBehind last first
unfolding end_handle
follows_to blocks last [] first l s f = cc
follows_to blocks None (x ∷ xs) first l s f = (subst (IsOrdered entries) (joined_push blocks (x ∷ xs) ∙ ap (λ ys. ys ++ x ∷ xs) l) f.ordered, tt)
follows_to blocks (Some last) (x ∷ xs) first l s f =
    let same : x ≡ first = cc in
    let cut = ordered_cut (joined blocks) (end_handle last) (is_end (joined blocks) last l) (x ∷ xs) (subst (IsOrdered entries) (joined_push blocks (x ∷ xs)) f.ordered) in
    (cut.1, subst (SortsBehind (Some last)) same cut.0)
