use Rattle.std.proofs.Common.{◌∙◌, refl, sym}
use Rattle.sstable_blocks.specs.Blocks.{joined}
use Rattle.sst_calls.specs.Windows.{count_before}
use Rattle.sst_calls.proofs.Lists.BlockWindows.{between_none, place_falls}
use Rattle.sst_calls.proofs.Lists.Passing.{none_left}
use Rattle.sst_calls.proofs.run_range.window_between.Goals as goal

pub returns-then-not-is_uncrossed-clause-left : goal.returns-then-not-is_uncrossed-clause-left
returns-then-not-is_uncrossed-clause-left c = λ blocks first end.
    (let f = c.args.first.now in
    let e = c.args.end.now in
    let falls = place_falls blocks f.block f.index e.block e.index end.items end.there end.inside
    (λ up. (let yes = c.is_uncrossed.ensures.1 up in let no = c.if-not-is_uncrossed.true in cc)) in
    none_left blocks (record { first_block = f.block; first_index = f.index; end_block = f.block; end_index = f.index }) refl refl
    ∙ sym (between_none (joined blocks) (count_before blocks f.block f.index) (count_before blocks e.block e.index) falls))
