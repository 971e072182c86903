use Rattle.std.proofs.Common.{◌≡◌, ◌∙◌, ◌+◌, ◌<◌, ◌≤◌, ◌⊎◌, List, [], length, drop, sym, ap, arith, subst, add-one, length-drop, inl, inr, Some}
use Rattle.sst_sources.specs.Sources.{TakesFirst}
use Rattle.sstable_blocks.specs.Prelude.{Entry, IsParsedEntry, entry_of}
use Rattle.sstable_blocks.specs.BlockLaws.{took_some, next_none}
use Rattle.sst_calls.specs.Placed.{placed_source}
use Rattle.sst_calls.specs.Windows.{blocks_in}
use Rattle.sst_calls.proofs.Lists.Listings.{first_from}
use Rattle.sst_calls.proofs.Lists.PlacedLists.{placed_entry}
use Rattle.sst_calls.proofs.Lists.Walks.{past_is, past_takes, some_here, window_past}
use Rattle.sst_calls.proofs.walk.next_item.Goals.{else-walk-via-then-walk+else-walk-2, else-walk-via-else-walk}
use Rattle.sst_calls.proofs.walk.next_item.Goals as goal

pub returns-in_default-clause-first : goal.returns-in_default-clause-first
returns-in_default-clause-first c =
    let w = c.settle.new.walk in
    let there = c.settle.ensures.there in
    let items = w.part.block.items in
    let i = w.window.first_index in
    let more : (w.window.first_block < w.window.end_block) ⊎ (i < w.window.end_index) = elim c.else-walk.branch [
      | else-walk-via-then-walk+else-walk-2 v ↦ inr (omega (arith, v.if-walk-2.false))
      | else-walk-via-else-walk v ↦ inl (omega (arith, v.if-walk.false))
    ] in
    let settled : (w.window.end_block ≤ w.window.first_block) ⊎ (i < length items) = subst (λ n. (w.window.end_block ≤ w.window.first_block) ⊎ (i < n)) there.len_is c.settle.ensures.settled in
    let inside = some_here (blocks_in w.bytes.now w.handles) w.window items there.window there.block settled more in
    let none : drop i items ≡ [] = sym (there.left inside) ∙ (next_none w.items.window c.next.new.self.window c.in_default.ensures.steps.step).0 in
    absurd (omega (arith, ap (λ (xs : List Entry). length xs) none, length-drop i items, inside))

pub returns-in_default-clause-there : goal.returns-in_default-clause-there
returns-in_default-clause-there c =
    let w = c.settle.new.walk in
    let there = c.settle.ensures.there in
    let gives = c.in_default.ensures.steps in
    let none = next_none w.items.window c.next.new.self.window gives.step in
    record {
      sound = there.sound;
      window = there.window;
      part = there.part;
      block = there.block;
      len_is = there.len_is;
      payload_is = gives.payload ∙ there.payload_is;
      left = λ less. none.1 ∙ sym none.0 ∙ there.left less;
    }

pub returns-clause-there : goal.returns-clause-there
returns-clause-there c =
    let w = c.settle.new.walk in
    let there = c.settle.ensures.there in
    let items = w.part.block.items in
    let i = w.window.first_index in
    let more : (w.window.first_block < w.window.end_block) ⊎ (i < w.window.end_index) = elim c.else-walk.branch [
      | else-walk-via-then-walk+else-walk-2 v ↦ inr (omega (arith, v.if-walk-2.false))
      | else-walk-via-else-walk v ↦ inl (omega (arith, v.if-walk.false))
    ] in
    let blocks = blocks_in w.bytes.now w.handles in
    let settled : (w.window.end_block ≤ w.window.first_block) ⊎ (i < length items) = subst (λ n. (w.window.end_block ≤ w.window.first_block) ⊎ (i < n)) there.len_is c.settle.ensures.settled in
    let inside = some_here blocks w.window items there.window there.block settled more in
    let gives = c.in-Some.ensures.steps in
    let left = sym (there.left inside) ∙ took_some entry_of IsParsedEntry _ _ w.part.block.payload c.in-Some.item (sym there.payload_is) gives in
    let at = first_from items _ i (entry_of w.part.block.payload c.in-Some.item) left in
    record {
      sound = there.sound;
      window = past_is blocks w.window items there.window there.block settled more;
      part = there.part;
      block = there.block;
      len_is = there.len_is;
      payload_is = gives.payload ∙ there.payload_is;
      left = λ less. sym (ap (λ k. drop k items) (add-one i) ∙ at.2);
    }

pub returns-clause-first : goal.returns-clause-first
returns-clause-first c =
    let w = c.settle.new.walk in
    let there = c.settle.ensures.there in
    let items = w.part.block.items in
    let i = w.window.first_index in
    let more : (w.window.first_block < w.window.end_block) ⊎ (i < w.window.end_index) = elim c.else-walk.branch [
      | else-walk-via-then-walk+else-walk-2 v ↦ inr (omega (arith, v.if-walk-2.false))
      | else-walk-via-else-walk v ↦ inl (omega (arith, v.if-walk.false))
    ] in
    let blocks = blocks_in w.bytes.now w.handles in
    let settled : (w.window.end_block ≤ w.window.first_block) ⊎ (i < length items) = subst (λ n. (w.window.end_block ≤ w.window.first_block) ⊎ (i < n)) there.len_is c.settle.ensures.settled in
    let inside = some_here blocks w.window items there.window there.block settled more in
    let e = entry_of w.part.block.payload c.in-Some.item in
    let gives = c.in-Some.ensures.steps in
    let left = sym (there.left inside) ∙ took_some entry_of IsParsedEntry _ _ w.part.block.payload c.in-Some.item (sym there.payload_is) c.in-Some.ensures.steps in
    let at = first_from items _ i e left in
    let past = window_past blocks w.window items there.window there.block settled more in (
      subst (λ bytes. IsParsedEntry bytes c.in-Some.item) there.payload_is gives.found,
      λ run. subst (λ s. TakesFirst s (Some (placed_entry run w.bytes.now w.window.first_block (i + 1) e)) (placed_source run w.bytes.now blocks past)) (c.settle.ensures.left run)
          (past_takes blocks w.window items there.window there.block settled more run w.bytes.now e at.1),
    )
