-- Laws of the errors of tables that are written.
use Rattle.std.proofs.Common.{◌≡◌, ℕ, ◌≤◌, List, [], ◌∷◌, ◌++◌, length, map, Option, Some, None, Result, Ok, Err, refl, ap, subst, ◌∙◌, arith, inl, inr, length-append}
use Rattle.std.specs.Prelude.{◌⊎◌, IfErr, IfSome}
use Rattle.std.specs.List.{AllByRecursion}
use Rattle.std.specs.Option.{option_map}
use Rattle.std.proofs.lemmas.List.{map-append, length-map}
use Rattle.std.specs.declared.cmp.Ordering.{Ordering}
use Rattle.sstable_blocks.specs.Prelude.{Entry, IsInOrder, entries, IsOrdered, item_cmp}
use Rattle.sstable_blocks.specs.Results.{Error}
use Rattle.sstable_blocks.specs.Blocks.{joined}
use Rattle.sstable_blocks.specs.Writing.{Follows}
use Rattle.sst_sources.specs.ErrorLaws.{as_gives, gives_more}
use Rattle.sst_merge.specs.Outputs.{MayNotWriteAll}
use Rattle.sst_merge.specs.SizeLaws.{filled_more}
use Rattle.sst_sources.specs.Sources.{left_as, IsTaken, Left, MayGive, MeetsNoMore}
use Rattle.sstable_blocks.specs.TableKinds.{TableKind}
use Rattle.sst_merge.specs.TableLaws.{taken_block}
use Rattle.sst_merge.specs.Tables.{IsFilled, IsOutOfOrder, MayNotAdd, MayNotWrite, entries_in}
use Rattle.sstable_blocks.specs.EndLaws.{back_in_order, front_in_order}

-- what was taken, as entries
pub entries_taken : {X : Type 0} (entry : X → Entry) (s t : Option (List X)) (xs : List X) → IsTaken s xs t → IsTaken (entries_in entry s) (map entry xs) (entries_in entry t)
entries_taken entry s None xs h = ap (option_map (map entry)) h
entries_taken entry s (Some rest) xs h = ap (option_map (map entry)) h ∙ ap Some (map-append entry xs rest)

-- what is left of a list that is not in order, or what was taken
out_of_order_front : (given after : Option (List Entry)) (xs : List Entry) → IsTaken given xs after → (IsOrdered entries xs → ⊥) → IsOutOfOrder given
out_of_order_front None after xs taken wrong = tt
out_of_order_front (Some ys) None xs taken wrong = absurd (cc)
out_of_order_front (Some ys) (Some rest) xs taken wrong =
    let is : ys ≡ xs ++ rest = cc in
    λ ordered. wrong (front_in_order (item_cmp entries) xs rest (subst (IsOrdered entries) is ordered))

pub out_of_order_later : (given after : Option (List Entry)) (xs : List Entry) → IsTaken given xs after → IsOutOfOrder after → IsOutOfOrder given
out_of_order_later None after xs taken wrong = tt
out_of_order_later (Some ys) None xs taken wrong = absurd (cc)
out_of_order_later (Some ys) (Some rest) xs taken wrong =
    let is : ys ≡ xs ++ rest = cc in
    λ ordered. wrong (back_in_order (item_cmp entries) xs rest (subst (IsOrdered entries) is ordered))

-- where an item is left, one is taken
some_taken : {X : Type 0} (entry : X → Entry) (before after : Option (List X)) (block : List X) → IsTaken before block after → (1 ≤ length block) ⊎ IfSome after (λ xs. xs ≡ []) → IfSome before (λ xs. 1 ≤ length xs)
    → (1 ≤ length (map entry block)) ⊎ (before ≡ None)
some_taken entry before after block taken (inl some) here = inl (let n = length-map block entry in omega (arith, n, some))
some_taken entry None after block taken (inr none) here = inr refl
some_taken entry (Some xs) None block taken (inr none) here = absurd (cc)
some_taken entry (Some xs) (Some rest) block taken (inr none) here =
    let is : xs ≡ block ++ rest = cc in
    let l = ap length is ∙ length-append block rest in
    let z = ap length none in
    let n = length-map block entry in
    inl (omega (arith, l, z, n, here))

order_fails : {X : Type 0} (entry : X → Entry) (given : Option (List Entry)) (before after : Option (List X)) (blocks : List (List Entry)) (block : List X) → IsTaken given (joined blocks) (entries_in entry before) → IsTaken before block after
    → (1 ≤ length (map entry block)) ⊎ (before ≡ None) → (Follows blocks (map entry block) → ⊥) → IsOutOfOrder given
order_fails entry given before after blocks block earlier taken (inl some) wrong =
    out_of_order_front given (entries_in entry after) (joined (blocks ++ map entry block ∷ [])) (taken_block given (entries_in entry before) (entries_in entry after) blocks (map entry block) earlier (entries_taken entry before after block taken))
    (λ ordered. wrong (record { some = some; ordered = ordered }))
order_fails entry None before after blocks block earlier taken (inr none) wrong = tt
order_fails entry (Some xs) before after blocks block earlier taken (inr none) wrong =
    absurd (let e : Some xs ≡ None = earlier ∙ ap (λ o. option_map (λ rest. joined blocks ++ rest) (entries_in entry o)) none in cc)

module _ {X : Type 0} (may_fail : Error → Type 0) (fails : Type 0) (entry : X → Entry) (k : TableKind) (size : ℕ) (given : Left X) (blocks : List (List Entry)) where
  -- why a block is not written, of a table
  pub not_added : (now_fails : Type 0) → (now_fails → fails) → (before after : Left X) (block : List X) (e : Error) → IsTaken (entries_in entry given.list) (joined blocks) (entries_in entry before.list) → AllByRecursion (IsFilled k.interval size (entries_in entry before.list)) blocks
      → MeetsNoMore given before → IfSome before.list (λ xs. 1 ≤ length xs) → MayNotAdd may_fail now_fails entry k blocks size before block after e → MayNotWrite may_fail fails entry k size given e
  not_added now_fails more before after block e taken filled less here (inl gives) = inl (gives_more may_fail given before e less gives)
  not_added now_fails more before after block e taken filled less here (inr (inl io)) = inr (inl (io.0, more io.1))
  not_added now_fails more before after block e taken filled less here (inr (inr (took, inl long))) =
      let now = entries_taken entry before.list after.list block took.taken in
      inr (inr (inl (
        long.0,
        record {
          blocks = blocks ++ map entry block ∷ [];
          rest = entries_in entry after.list;
          taken = taken_block (entries_in entry given.list) (entries_in entry before.list) (entries_in entry after.list) blocks (map entry block) taken now;
          filled = filled_more k.interval size (entries_in entry before.list) (entries_in entry after.list) blocks (map entry block) filled now took.filled;
          long = long.1;
        },
      )))
  not_added now_fails more before after block e taken filled less here (inr (inr (took, inr order))) =
      inr (inr (inr (order.0, order_fails entry (entries_in entry given.list) before.list after.list blocks block taken took.taken (some_taken entry before.list after.list block took.taken took.some here) order.1)))

-- why a later table is not written, of all
pub not_all : {X : Type 0} (may_fail outputs_fail : Error → Type 0) (now_fails fails : Type 0) → (now_fails → fails) → (entry : X → Entry) (k : TableKind) (size : ℕ) (given now : Left X) (passed : List Entry) (e : Error) → IsTaken (entries_in entry given.list) passed (entries_in entry now.list) → MeetsNoMore given now → MayNotWrite may_fail now_fails entry k size now e
    → MayGive may_fail given e ⊎ MayNotWriteAll outputs_fail fails k size (entries_in entry given.list) e
not_all may_fail outputs_fail now_fails fails more entry k size given now passed e taken less (inl gives) = inl (gives_more may_fail given now e less gives)
not_all may_fail outputs_fail now_fails fails more entry k size given now passed e taken less (inr (inl io)) = inr (inl (inr (io.0, more io.1)))
not_all may_fail outputs_fail now_fails fails more entry k size given now passed e taken less (inr (inr (inl long))) = inr (inr (inl (long.0, record { passed = passed; left = entries_in entry now.list; taken = taken; long = long.1 })))
not_all may_fail outputs_fail now_fails fails more entry k size given now passed e taken less (inr (inr (inr order))) = inr (inr (inr (order.0, out_of_order_later (entries_in entry given.list) (entries_in entry now.list) passed taken order.1)))

-- why what is left of a changed list is not written, of the list
pub changed_fails : {X : Type 0} (may_fail outputs_fail : Error → Type 0) (fails : Type 0) (entry : X → Entry) (k : TableKind) (size : ℕ) (kept : List X → List X) (s made head : Left X) (r : Result (Unit {0}) Error) → made ≡ left_as kept None s → MeetsNoMore made head → head.list ≡ option_map kept s.list
    → IfErr r (λ e. MayGive may_fail head e ⊎ MayNotWriteAll outputs_fail fails k size (entries_in entry head.list) e) → IfErr r (λ e. MayGive may_fail s e ⊎ MayNotWriteAll outputs_fail fails k size (entries_in entry (option_map kept s.list)) e)
changed_fails may_fail outputs_fail fails entry k size kept s made head (Ok x) is less list h = tt
changed_fails may_fail outputs_fail fails entry k size kept s made head (Err e) is less list (inl gives) = inl (as_gives may_fail kept s made e is (gives_more may_fail made head e less gives))
changed_fails may_fail outputs_fail fails entry k size kept s made head (Err e) is less list (inr wrong) = inr (subst (λ o. MayNotWriteAll outputs_fail fails k size (entries_in entry o) e) list wrong)
