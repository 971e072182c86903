use Rattle.std.proofs.Common.{◌∙◌, ap, sym}
use Rattle.sst_program.proofs.Results.Printing.{puts_start, puts_entry, puts_end, lines_whole, lines_over}
use Rattle.sst_program.proofs.entry_printer.put_entries.Goals as goal

pub loop-item-init : goal.loop-item-init
loop-item-init g c =
    let gives = c.into_iter-item-iterator.ensures.into_iter_gives in
    record {
      payload = ap (λ s. s.payload) gives ∙ c.iter-item-items.ensures.payload ∙ sym c.as_slice.ensures.value ∙ sym c.as_slice-payload.ensures;
      puts = puts_start _ _ _ _ (lines_whole _ _ (ap (λ s. s.window) gives ∙ c.iter-item-items.ensures.window));
    }

pub loop-item-preserved : goal.loop-item-preserved
loop-item-preserved g c =
    let steps = c.in-Some.ensures.steps in
    record {
      payload = steps.payload ∙ c.loop-item.invariant.payload;
      puts = puts_entry _ _ c.in-Some.item c.new.result _ _ _ _ _ _ _ _ c.loop-item.invariant.puts c.in_ok-put_line.ensures.put c.new.ensures c.loop-item.invariant.payload steps;
    }

pub returns-clause-put : goal.returns-clause-put
returns-clause-put g c = puts_end _ _ _ _ _ _ c.loop-item.invariant.puts (lines_over _ _ c.in-None.ensures.steps)
