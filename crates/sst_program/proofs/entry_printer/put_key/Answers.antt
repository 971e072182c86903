use Rattle.sst_program.proofs.Results.Printing.{puts_joined}
use Rattle.sst_program.proofs.entry_printer.put_key.Goals as goal

pub returns-clause-put : goal.returns-clause-put
returns-clause-put g c = puts_joined _ _ _ _ _ _ _ _ _ c.in_ok-put_hex.ensures.put c.in_ok-put_hex-2.ensures.put c.key_parts.ensures.value
