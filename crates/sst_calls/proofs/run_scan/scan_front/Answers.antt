use Rattle.std.proofs.Common.{◌≡◌, ◌∙◌, ◌+◌, ◌<◌, Some, false, length, arith, ap, inl, inr}
use Rattle.std.specs.Prelude.{slice_get}
use Rattle.sst_calls.specs.Windows.{IsUpToPlace, blocks_in}
use Rattle.sst_calls.proofs.Lists.Passing.{front_next, passes_more, passes_none}
use Rattle.sst_calls.proofs.Lists.RunBlockLists.{place_inside}
use Rattle.sst_calls.proofs.run_scan.scan_front.Goals as goal

pub loop-window-init : goal.loop-window-init
loop-window-init c = passes_none c.args.bytes.now (blocks_in c.args.bytes.now c.args.handles.now) c.args.below false c.args.window.now c.args.places.now c.args.count.now c.requires.window c.requires.room

pub block_at-part-requires-clause-inside : goal.block_at-part-requires-clause-inside
block_at-part-requires-clause-inside c = let w = c.loop-window.window in place_inside c.args.bytes.now c.args.handles.now w.first_block w.first_index c.loop-window.invariant.window.first

pub block_at-part-requires-2-clause-inside : goal.block_at-part-requires-2-clause-inside
block_at-part-requires-2-clause-inside c = let w = c.loop-window.window in place_inside c.args.bytes.now c.args.handles.now w.first_block w.first_index c.loop-window.invariant.window.first

pub returns-then-count-places-clause-passes : goal.returns-then-count-places-clause-passes
returns-then-count-places-clause-passes c =
    let bytes = c.args.bytes.now in
    let blocks = blocks_in bytes c.args.handles.now in
    let now = c.loop-window.invariant in
    let step = c.pass_front.ensures.passes blocks now.window c.block_at-part.ensures.items (inl c.loop-window-test.true) in
    passes_more bytes blocks c.args.below false c.args.window.now c.loop-window.window c.pass_front.new.window c.args.places.now c.loop-window.places c.pass_front.new.places c.args.count.now c.loop-window.count c.pass_front.new.count now step

pub loop-window-preserved : goal.loop-window-preserved
loop-window-preserved c =
    let bytes = c.args.bytes.now in
    let blocks = blocks_in bytes c.args.handles.now in
    let now = c.loop-window.invariant in
    let items = c.block_at-part.result.block.items in
    let new = c.pass_front.new in
    let r = c.pass_front.ensures in
    let step = r.passes blocks now.window c.block_at-part.ensures.items (inl c.loop-window-test.true) in
    let so_far = passes_more bytes blocks c.args.below false c.args.window.now c.loop-window.window new.window c.args.places.now c.loop-window.places new.places c.args.count.now c.loop-window.count new.count now step in
    let at : slice_get blocks new.window.first_block ≡ Some items = ap (λ n. slice_get blocks n) r.block ∙ c.block_at-part.ensures.items in
    let whole : new.window.first_index ≡ length items = elim r.all [
      | inl end ↦ end ∙ c.len-end.ensures.count
      | inr full ↦ absurd (omega (arith, full, step.lists.kept, c.if-count-places.false))
    ] in
    let less : new.window.first_block < new.window.end_block = omega (arith, r.block, r.end.0, c.loop-window-test.true) in
    let next = front_next bytes blocks c.args.below new.window items new.places new.count step.window at whole less (omega (arith, step.lists.room, step.lists.kept)) in
    passes_more bytes blocks c.args.below false c.args.window.now new.window (record new.window { first_block = new.window.first_block + 1; first_index = 0 }) c.args.places.now new.places new.places c.args.count.now new.count new.count so_far next

pub returns-clause-passes : goal.returns-clause-passes
returns-clause-passes c =
    let bytes = c.args.bytes.now in
    let blocks = blocks_in bytes c.args.handles.now in
    let now = c.loop-window.invariant in
    let w = c.loop-window.window in
    let up : IsUpToPlace w.first_block w.end_index w.end_block w.end_index = elim now.window.uncrossed [
      | inl less ↦ absurd (omega (arith, less, c.loop-window-test.false))
      | inr same ↦ inr (same.0, omega arith)
    ] in
    let step = c.pass_front-2.ensures.passes blocks now.window c.block_at-part-2.ensures.items up in
    passes_more bytes blocks c.args.below false c.args.window.now w c.pass_front-2.new.window c.args.places.now c.loop-window.places c.pass_front-2.new.places c.args.count.now c.loop-window.count c.pass_front-2.new.count now step
