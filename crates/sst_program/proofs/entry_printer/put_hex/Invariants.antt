use Rattle.std.proofs.Common.{length}
use Rattle.hex.specs.Hex.{encode_lower}
use Rattle.sst_program.proofs.Results.Printing.{PutsTo}
use Rattle.sst_program.proofs.entry_printer.put_hex.Given as goal

abbrev pub invariant-loop-rest : goal.invariant-loop-rest
invariant-loop-rest g l = PutsTo (g.O.Write.contents l.initial.output) l.initial.buffer.items (g.O.Write.contents l.output) l.buffer.items (encode_lower l.rest) (encode_lower l.fn.bytes)

abbrev pub decreases-loop-rest : goal.decreases-loop-rest
decreases-loop-rest g l = length l.rest
