use Rattle.std.proofs.Common.{◌∙◌, ◌<◌, Some, ap, arith, length}
use Rattle.sst_sources.specs.Sources.{Left, lists_left}
use Rattle.sst_calls.specs.Placed.{PlacedEntry}
use Rattle.sst_calls.proofs.Lists.MergeHeads.{heads_more, lists_all, window_of, windows_count}
use Rattle.sst_calls.proofs.merge_scan.heads_of.Goals as goal

pub bounds-windows-i : goal.bounds-windows-i
bounds-windows-i c = omega (arith, windows_count c.args.runs.now c.args.windows.now c.requires.windows, c.loop-i-test.true)

pub scan_of-requires-clause-window : goal.scan_of-requires-clause-window
scan_of-requires-clause-window c = window_of c.args.runs.now c.args.windows.now c.loop-i.i _ _ c.requires.windows c.loop-i-test.true

pub loop-i-preserved : goal.loop-i-preserved
loop-i-preserved c =
    let runs = c.args.runs.now in
    let ws = c.args.windows.now in
    let i = c.loop-i.i in
    let within : i < length ws = omega (arith, windows_count runs ws c.requires.windows, c.loop-i-test.true) in
    ap lists_left c.in_ok-push.ensures.items
    ∙ heads_more runs ws i _ _ c.loop-i.heads.items c.in_ok-head.head c.loop-i-test.true within c.loop-i.invariant (c.in_ok-head.ensures.list ∙ ap (λ (s : Left PlacedEntry). s.list) c.scan_of.ensures)

pub returns-clause-lists : goal.returns-clause-lists
returns-clause-lists c =
    let runs = c.args.runs.now in
    let ws = c.args.windows.now in
    c.loop-i.invariant ∙ ap Some (lists_all runs ws c.loop-i.i (windows_count runs ws c.requires.windows) (omega (arith, c.loop-i-test.false)))
