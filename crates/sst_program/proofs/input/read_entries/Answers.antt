use Rattle.std.proofs.Common.{◌∙◌, ap, sym, vec_items}
use Rattle.sst_program.specs.Line.{entry_of_line}
use Rattle.sst_program.proofs.EntryTexts.Inputs.{split-start, split-next, read-next, read-fault, read-end}
use Rattle.sst_program.proofs.input.read_entries.Goals as goal

pub loop-line-init : goal.loop-line-init
loop-line-init g c =
    let whole = c.in_ok-reader.ensures.ok in
    let gives = c.into_iter-line-iterator.ensures.into_iter_gives in
    record {
      byte = rw gives c.split-line-items.ensures.byte;
      read = split-start (λ r. g.I.Read.remaining r.now) _ _ c.in_ok-reader.reader _ _ _ gives c.split-line-items.ensures.bytes (rw whole at c.with_capacity.ensures.inner)
          (rw whole at c.with_capacity.ensures.empty) (rw whole at c.with_capacity.ensures.capacity) c.new-items.ensures.items c.new-items.ensures.len;
    }

pub returns-in-None-2-clause-err : goal.returns-in-None-2-clause-err
returns-in-None-2-clause-err g c =
    let steps = c.in-Some.ensures.steps in
    let step = split-next vec_items _ _ _ _ _ c.in_ok-line.ensures.ok c.loop-line.invariant.byte steps.0 steps.2 in
    read-fault _ _ _ _ _ _ _ c.loop-line.invariant.read (ap entry_of_line (sym c.as_slice.ensures.value) ∙ sym c.in_ok-item.ensures.ok ∙ c.in-None-2.is) step c.len.ensures

pub loop-line-preserved : goal.loop-line-preserved
loop-line-preserved g c =
    let steps = c.in-Some.ensures.steps in
    let step = split-next vec_items _ _ _ _ _ c.in_ok-line.ensures.ok c.loop-line.invariant.byte steps.0 steps.2 in
    record {
      byte = steps.1 ∙ c.loop-line.invariant.byte;
      read = read-next _ _ _ _ _ _ _ _ c.in-Some-2.item c.loop-line.invariant.read (ap entry_of_line (sym c.as_slice.ensures.value) ∙ sym c.in_ok-item.ensures.ok ∙ c.in-Some-2.is) step
          c.in_ok-push-in-Some-2.ensures.items c.in_ok-push-in-Some-2.ensures.len;
    }

pub returns-clause-ok : goal.returns-clause-ok
returns-clause-ok g c = read-end _ _ _ _ c.loop-line.invariant.read c.in-None.ensures.steps.2
