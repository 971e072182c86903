use Rattle.std.proofs.Common.{◌≡◌, ◌<◌, arith, length, true, false, refl}
use Rattle.sst_calls.proofs.Lists.MergeHeads.{run_by, window_by, window_from, window_of, windows_count, windows_more}
use Rattle.sst_calls.proofs.merge_scan.are_windows.Goals as goal

pub returns-then-runs-windows : goal.returns-then-runs-windows
returns-then-runs-windows c = (λ t. absurd (let no : false ≡ true = t in cc (no)), λ are. absurd (omega (arith, windows_count c.args.runs.now c.args.windows.now are, c.if-runs-windows.true)))

pub is_window-requires : goal.is_window-requires
is_window-requires c = run_by _ _ _ c.run_handles.ensures (c.requires c.loop-i.i _ c.loop-i-test.true)

pub returns-then-not-is_window : goal.returns-then-not-is_window
returns-then-not-is_window c = (
  λ t. absurd (let no : false ≡ true = t in cc (no)),
  λ are. c.if-not-is_window.ensures.1 (window_by _ _ _ _ c.run_handles.ensures (window_of c.args.runs.now c.args.windows.now c.loop-i.i _ _ are c.loop-i-test.true)),
)

pub loop-i-preserved : goal.loop-i-preserved
loop-i-preserved c =
    let runs = c.args.runs.now in
    let ws = c.args.windows.now in
    let i = c.loop-i.i in
    let within : i < length ws = omega (arith, c.if-runs-windows.false, c.loop-i-test.true) in
    windows_more runs ws i _ _ c.loop-i-test.true within c.loop-i.invariant (window_from _ _ _ _ c.run_handles.ensures (c.if-not-is_window.ensures.0 refl))
