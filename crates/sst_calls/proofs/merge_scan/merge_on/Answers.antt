use Rattle.std.proofs.Common.{◌≡◌, ◌∙◌, List, [], ◌∷◌, Option, None, Some, true, false, not, ◌&&◌, sym, ap, arith, subst, length, map, set, inr}
use Rattle.std.specs.Prelude.{IfSome, slice_get}
use Rattle.std.specs.Option.{option_map}
use Rattle.sst_sources.specs.Merge.{merged}
use Rattle.sst_sources.specs.Sources.{Left}
use Rattle.sst_calls.specs.Batches.{is_under}
use Rattle.sst_calls.specs.MergeSteps.{MergesTo, hides, is_listed}
use Rattle.sst_calls.specs.Placed.{PlacedEntry, placed_cmp, placed_lists, run_blocks, window_after}
use Rattle.sst_calls.specs.declared.merge_scan.SstMerged.{SstMerged}
use Rattle.sst_calls.specs.declared.window.SstWindow.{SstWindow}
use Rattle.sst_calls.proofs.Lists.MergeOrder.{left_ordered}
use Rattle.sst_calls.proofs.Lists.Merges.{advanced, first_none, first_some, merge_step, merges_all, merges_end, merges_first, merges_none, merges_one, none_listed, one_listed, run_inside}
use Rattle.sst_calls.proofs.merge_scan.merge_on.Goals.{else-len-room-via-then-len-room+else-not-hides, else-len-room-via-else-len-room}
use Rattle.sst_calls.proofs.merge_scan.merge_on.Goals as goal

pub loop-item-init : goal.loop-item-init
loop-item-init c =
    let runs = c.args.runs.now in
    let ws = c.args.windows.now in
    let ss = c.args.snapshots.now in
    let none = c.new-listed.ensures.items in
    record {
      list = ap (λ (s : Left PlacedEntry). s.list) c.new-merge.ensures ∙ ap (option_map (merged placed_cmp)) c.in_ok-heads_of.ensures.lists;
      passes = subst (λ v. MergesTo runs (map run_blocks runs) ss c.args.below ws ws None v) (sym none)
          (merges_none runs ss c.args.below ws c.requires.windows (left_ordered c.sound_opens.ensures runs ws c.requires.sound));
      fits = omega (arith, ap (λ (v : List SstMerged). length v) none);
    }

pub returns-in_default-clause-passes : goal.returns-in_default-clause-passes
returns-in_default-clause-passes c =
    let runs = c.args.runs.now in
    let ws = c.loop-item.windows in
    let ss = c.args.snapshots.now in
    let now = c.loop-item.invariant in
    let none = first_none (merged placed_cmp (placed_lists 0 runs ws)) (subst (λ o. IfSome o (λ (xs : List PlacedEntry). ◌≡◌ {A = Option PlacedEntry} None (slice_get xs 0))) now.list c.in_default.ensures.first) in
    let left = merges_all runs ss c.args.below ws none in
    merges_end runs ss c.args.below c.args.windows.now ws c.loop-item.last c.loop-item.listed.items now.passes (λ y rest e. absurd (let no : [] ≡ y ∷ rest = sym left ∙ e in cc (no)))

pub returns-in_default-clause-all : goal.returns-in_default-clause-all
returns-in_default-clause-all c =
    let runs = c.args.runs.now in
    let ws = c.loop-item.windows in
    let now = c.loop-item.invariant in
    let none = first_none (merged placed_cmp (placed_lists 0 runs ws)) (subst (λ o. IfSome o (λ (xs : List PlacedEntry). ◌≡◌ {A = Option PlacedEntry} None (slice_get xs 0))) now.list c.in_default.ensures.first) in
    inr (merges_all runs c.args.snapshots.now c.args.below ws none)

pub returns-then-not-hides-clause-passes : goal.returns-then-not-hides-clause-passes
returns-then-not-hides-clause-passes c =
    let runs = c.args.runs.now in
    let ws = c.loop-item.windows in
    let ss = c.args.snapshots.now in
    let now = c.loop-item.invariant in
    let x = c.in-Some.item.now in
    let front = first_some (merged placed_cmp (placed_lists 0 runs ws)) x (subst (λ o. IfSome o (λ (xs : List PlacedEntry). Some x ≡ slice_get xs 0)) now.list c.in-Some.ensures.first) in
    let kept : hides ss c.loop-item.last x.entry ≡ false = ap (hides ss c.loop-item.last) (sym c.view.ensures.value) ∙ sym c.if-not-hides.ensures in
    merges_end runs ss c.args.below c.args.windows.now ws c.loop-item.last c.loop-item.listed.items now.passes
    (λ y rest e. ap (hides ss c.loop-item.last) (sym (merges_first runs ss c.args.below ws x front.0 front.1 y rest e)) ∙ kept)

pub move_front-requires : goal.move_front-requires
move_front-requires c =
    let runs = c.args.runs.now in
    let ws = c.loop-item.windows in
    let now = c.loop-item.invariant in
    let x = c.in-Some.item.now in
    let front = first_some (merged placed_cmp (placed_lists 0 runs ws)) x (subst (λ o. IfSome o (λ (xs : List PlacedEntry). Some x ≡ slice_get xs 0)) now.list c.in-Some.ensures.first) in
    record { inside = run_inside runs ws x front.0 now.passes.windows front.1 }

pub loop-item-preserved : goal.loop-item-preserved
loop-item-preserved c =
    let runs = c.args.runs.now in
    let ws = c.loop-item.windows in
    let ss = c.args.snapshots.now in
    let below = c.args.below in
    let last = c.loop-item.last in
    let old = c.loop-item.listed.items in
    let new = c.pass.new.listed.items in
    let now = c.loop-item.invariant in
    let x = c.in-Some.item.now in
    let front = first_some (merged placed_cmp (placed_lists 0 runs ws)) x (subst (λ o. IfSome o (λ (xs : List PlacedEntry). Some x ≡ slice_get xs 0)) now.list c.in-Some.ensures.first) in
    let step = merge_step runs ws x front.0 now.passes.windows front.1 in
    let moved = c.move_front.ensures.moved step.first.window step.first.window_there in
    let went = advanced c.loop-item.merge c.advance.new.self _ x front.0 (now.list ∙ ap Some front.1) c.in-Ok.ensures.first in
    let listing = c.in_ok-pass.ensures.listed in
    let some = one_listed (is_listed ss below last x.entry) x old new listing in
    record {
      list = went ∙ ap Some step.rest_is ∙ ap (λ (v : List SstWindow). Some (merged placed_cmp (placed_lists 0 runs v))) (sym moved);
      passes = subst (λ (v : List SstWindow). MergesTo runs (map run_blocks runs) ss below c.args.windows.now v c.pass.new.last new) (sym moved)
          (subst (λ q. MergesTo runs (map run_blocks runs) ss below c.args.windows.now (set ws x.run (window_after step.first.window x)) q new) (sym c.pass.ensures.last) (merges_one runs ss below c.args.windows.now ws last old new x front.0 now.passes step front.1 listing));
      fits = elim c.else-len-room.branch [
        | else-len-room-via-then-len-room+else-not-hides w ↦ (
            let hidden : hides ss last x.entry ≡ true = ap (hides ss last) (sym w.view.ensures.value) ∙ sym w.if-not-hides.ensures in
            let quiet : is_listed ss below last x.entry ≡ false = ap (λ b. not b && is_under below x.entry.key.seqno) hidden in
            omega (arith, none_listed (is_listed ss below last x.entry) x old new quiet listing, now.fits))
        | else-len-room-via-else-len-room w ↦ omega (arith, some, w.if-len-room.false, c.len.ensures)
      ];
    }
