use Rattle.std.proofs.Common.{true, false, refl, sym, subst}
use Rattle.sst_calls.specs.Batches.{IsBatch}
use Rattle.sst_calls.specs.Windows.{blocks_in}
use Rattle.sst_calls.proofs.Lists.Passing.{batch_from}
use Rattle.sst_calls.proofs.run_scan.scan.Goals as goal

pub returns-then-back : goal.returns-then-back
returns-then-back c =
    let bytes = c.args.bytes.now in
    let blocks = blocks_in bytes c.args.handles.now in
    let r = c.scan_back.ensures in
    let new = c.scan_back.new in (
      c.if-not-is_window.ensures.0 refl,
      subst (λ b. IsBatch bytes blocks c.args.below b c.args.window.now new.window c.args.places.now new.places new.count) (sym c.if-back.true)
          (batch_from bytes blocks c.args.below true c.args.window.now new.window c.args.places.now new.places new.count r.passes r.all),
    )

pub returns : goal.returns
returns c =
    let bytes = c.args.bytes.now in
    let blocks = blocks_in bytes c.args.handles.now in
    let r = c.scan_front.ensures in
    let new = c.scan_front.new in (
      c.if-not-is_window.ensures.0 refl,
      subst (λ b. IsBatch bytes blocks c.args.below b c.args.window.now new.window c.args.places.now new.places new.count) (sym c.if-back.false)
          (batch_from bytes blocks c.args.below false c.args.window.now new.window c.args.places.now new.places new.count r.passes r.all),
    )
