use Rattle.sst_program.proofs.Results.Printing.{puts_line}
use Rattle.sst_program.proofs.entry_printer.put_line.Goals as goal

pub returns-clause-put : goal.returns-clause-put
returns-clause-put g c =
    puts_line c.args.entry.now c.value_type.result c.seqno.result c.value.result.now _ _ _ _ _ _ _ _ _ _ _ _ c.in_ok-put_front.ensures.put c.value_type.ensures c.seqno.ensures c.in_ok-put_key.ensures.put
    c.in_ok-put.ensures.put c.in_ok-put_value.ensures.put c.value.ensures c.in_ok-put-2.ensures.put
