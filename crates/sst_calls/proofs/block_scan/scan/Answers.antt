use Rattle.std.proofs.Common.{◌≡◌, ◌∙◌, [], ◌∷◌, Some, true, false, length, refl, sym, ap, arith, subst, inl, inr}
use Rattle.std.specs.Prelude.{slice_get, ◌⊎◌}
use Rattle.sstable_blocks.specs.Prelude.{DataRefParts}
use Rattle.sstable_blocks.specs.Prelude.{entries, items_in}
use Rattle.sst_calls.specs.Batches.{IsBatch}
use Rattle.sst_calls.specs.Windows.{left_in}
use Rattle.sst_calls.proofs.Lists.OneBlock.{one_of_window, window_of_one}
use Rattle.sst_calls.proofs.Lists.Passing.{batch_from, none_left}
use Rattle.sst_calls.proofs.block_scan.scan.Goals as goal

pub returns-then-not-is_window_in : goal.returns-then-not-is_window_in
returns-then-not-is_window_in c = (
  λ window.
      (let items = items_in entries c.args.payload.now in
      let size = c.len.ensures.count ∙ ap (λ (b : DataRefParts). length b.items) c.new.ensures.parts in
      let yes = c.is_window_in.ensures.1 (one_of_window items c.len.result c.args.window.now size window) in
      let no = c.if-not-is_window_in.true in
      cc),
  refl,
  refl,
  refl,
)

pub returns-then-back : goal.returns-then-back
returns-then-back c =
    let bytes = c.args.payload.now in
    let items = items_in entries bytes in
    let blocks = items ∷ [] in
    let w = c.args.window.now in
    let new = c.pass_back.new in
    let size = c.len.ensures.count ∙ ap (λ (b : DataRefParts). length b.items) c.new.ensures.parts in
    let numbers = c.if-not-is_window_in.ensures.0 refl in
    let window = window_of_one items c.len.result w size numbers in
    let there : slice_get blocks w.end_block ≡ Some c.new.result.items = ap (λ n. slice_get blocks n) numbers.end ∙ ap (λ (b : DataRefParts). Some b.items) (sym c.new.ensures.parts) in
    let step = c.pass_back.ensures.passes blocks window there (inr (numbers.first ∙ sym numbers.end, omega arith)) in
    let all : (new.count ≡ length c.args.places.now) ⊎ (left_in blocks new.window ≡ []) = elim c.pass_back.ensures.all [
      | inl end ↦ inr (none_left blocks new.window (c.pass_back.ensures.first.0 ∙ numbers.first ∙ sym (c.pass_back.ensures.block ∙ numbers.end)) (c.pass_back.ensures.first.1 ∙ sym end))
      | inr full ↦ inl full
    ] in (
      window,
      subst (λ b. IsBatch bytes blocks c.args.below b w new.window c.args.places.now new.places new.count) (sym c.if-back.true)
          (batch_from bytes blocks c.args.below true w new.window c.args.places.now new.places new.count step all),
    )

pub returns : goal.returns
returns c =
    let bytes = c.args.payload.now in
    let items = items_in entries bytes in
    let blocks = items ∷ [] in
    let w = c.args.window.now in
    let new = c.pass_front.new in
    let size = c.len.ensures.count ∙ ap (λ (b : DataRefParts). length b.items) c.new.ensures.parts in
    let numbers = c.if-not-is_window_in.ensures.0 refl in
    let window = window_of_one items c.len.result w size numbers in
    let there : slice_get blocks w.first_block ≡ Some c.new.result.items = ap (λ n. slice_get blocks n) numbers.first ∙ ap (λ (b : DataRefParts). Some b.items) (sym c.new.ensures.parts) in
    let step = c.pass_front.ensures.passes blocks window there (inr (numbers.first ∙ sym numbers.end, omega arith)) in
    let all : (new.count ≡ length c.args.places.now) ⊎ (left_in blocks new.window ≡ []) = elim c.pass_front.ensures.all [
      | inl end ↦ inr (none_left blocks new.window (c.pass_front.ensures.block ∙ numbers.first ∙ sym (c.pass_front.ensures.end.0 ∙ numbers.end)) (end ∙ sym c.pass_front.ensures.end.1))
      | inr full ↦ inl full
    ] in (
      window,
      subst (λ b. IsBatch bytes blocks c.args.below b w new.window c.args.places.now new.places new.count) (sym c.if-back.false)
          (batch_from bytes blocks c.args.below false w new.window c.args.places.now new.places new.count step all),
    )
