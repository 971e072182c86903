use Rattle.sst_program.proofs.Results.Printing.{puts_next, puts_end, encode-cut, encode-over}
use Rattle.sst_program.proofs.entry_printer.put_hex.Goals as goal

pub loop-rest-preserved : goal.loop-rest-preserved
loop-rest-preserved g c =
    puts_next _ _ _ _ _ _ _ _ _ _ c.loop-rest.invariant c.in_ok-put_part.ensures.put (encode-cut c.loop-rest.rest.now c.split_at.result.0.now c.split_at.result.1.now c.split_at.ensures.by_index.0)

pub returns-clause-put : goal.returns-clause-put
returns-clause-put g c = puts_end _ _ _ _ _ _ c.loop-rest.invariant (encode-over c.loop-rest.rest.now c.loop-rest-test.ensures)
