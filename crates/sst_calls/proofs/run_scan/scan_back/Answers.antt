use Rattle.std.proofs.Common.{◌≡◌, ◌-◌, ◌<◌, true, arith, sym, subst, inl, inr}
use Rattle.sst_calls.specs.Batches.{Passes}
use Rattle.sst_calls.specs.Windows.{IsUpToPlace, blocks_in}
use Rattle.sst_calls.proofs.Lists.Passing.{back_next, passes_more, passes_none}
use Rattle.sst_calls.proofs.Lists.RunBlockLists.{place_inside}
use Rattle.sst_calls.proofs.run_scan.scan_back.Goals as goal

pub loop-window-init : goal.loop-window-init
loop-window-init c = passes_none c.args.bytes.now (blocks_in c.args.bytes.now c.args.handles.now) c.args.below true c.args.window.now c.args.places.now c.args.count.now c.requires.window c.requires.room

pub block_at-part-requires-clause-inside : goal.block_at-part-requires-clause-inside
block_at-part-requires-clause-inside c = let w = c.loop-window.window in place_inside c.args.bytes.now c.args.handles.now w.end_block w.end_index c.loop-window.invariant.window.end

pub block_at-part-requires-2-clause-inside : goal.block_at-part-requires-2-clause-inside
block_at-part-requires-2-clause-inside c = let w = c.loop-window.window in place_inside c.args.bytes.now c.args.handles.now w.end_block w.end_index c.loop-window.invariant.window.end

pub returns-then-count-places-clause-passes : goal.returns-then-count-places-clause-passes
returns-then-count-places-clause-passes c =
    let bytes = c.args.bytes.now in
    let blocks = blocks_in bytes c.args.handles.now in
    let now = c.loop-window.invariant in
    let step = c.pass_back.ensures.passes blocks now.window c.block_at-part.ensures.items (inl c.loop-window-test.true) in
    passes_more bytes blocks c.args.below true c.args.window.now c.loop-window.window c.pass_back.new.window c.args.places.now c.loop-window.places c.pass_back.new.places c.args.count.now c.loop-window.count c.pass_back.new.count now step

pub block_at-requires-clause-inside : goal.block_at-requires-clause-inside
block_at-requires-clause-inside c =
    let w = c.loop-window.window in
    let inside = place_inside c.args.bytes.now c.args.handles.now w.end_block w.end_index c.loop-window.invariant.window.end in
    omega (arith, inside, c.pass_back.ensures.block)

pub loop-window-preserved : goal.loop-window-preserved
loop-window-preserved c =
    let bytes = c.args.bytes.now in
    let blocks = blocks_in bytes c.args.handles.now in
    let now = c.loop-window.invariant in
    let items = c.block_at.result.block.items in
    let new = c.pass_back.new in
    let r = c.pass_back.ensures in
    let step = r.passes blocks now.window c.block_at-part.ensures.items (inl c.loop-window-test.true) in
    let so_far = passes_more bytes blocks c.args.below true c.args.window.now c.loop-window.window new.window c.args.places.now c.loop-window.places new.places c.args.count.now c.loop-window.count new.count now step in
    let none : new.window.end_index ≡ 0 = elim r.all [
      | inl end ↦ end
      | inr full ↦ absurd (omega (arith, full, step.lists.kept, c.if-count-places.false))
    ] in
    let less : new.window.first_block < new.window.end_block = omega (arith, r.block, r.first.0, c.loop-window-test.true) in
    let next = back_next bytes blocks c.args.below new.window items new.places new.count step.window c.block_at.ensures.items none less (omega (arith, step.lists.room, step.lists.kept)) in
    let moved = subst (λ n. Passes bytes blocks c.args.below true new.window (record new.window { end_block = new.window.end_block - 1; end_index = n }) new.places new.places new.count new.count) (sym c.len-window.ensures.count) next in
    passes_more bytes blocks c.args.below true c.args.window.now new.window (record new.window { end_block = new.window.end_block - 1; end_index = c.len-window.result }) c.args.places.now new.places new.places c.args.count.now new.count new.count so_far moved

pub returns-clause-passes : goal.returns-clause-passes
returns-clause-passes c =
    let bytes = c.args.bytes.now in
    let blocks = blocks_in bytes c.args.handles.now in
    let now = c.loop-window.invariant in
    let w = c.loop-window.window in
    let up : IsUpToPlace w.first_block w.first_index w.end_block w.first_index = elim now.window.uncrossed [
      | inl less ↦ absurd (omega (arith, less, c.loop-window-test.false))
      | inr same ↦ inr (same.0, omega arith)
    ] in
    let step = c.pass_back-2.ensures.passes blocks now.window c.block_at-part-2.ensures.items up in
    passes_more bytes blocks c.args.below true c.args.window.now w c.pass_back-2.new.window c.args.places.now c.loop-window.places c.pass_back-2.new.places c.args.count.now c.loop-window.count c.pass_back-2.new.count now step
