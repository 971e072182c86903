use Rattle.std.proofs.Common.{◌≡◌}
use Rattle.sstable_blocks.specs.Prelude.{items_left}
use Rattle.sst_program.specs.Outcome.{lines_text_of}
use Rattle.sst_program.proofs.Results.Printing.{PutsTo}
use Rattle.sst_program.proofs.entry_printer.put_entries.Given as goal

abbrev pub invariant-loop-item : goal.invariant-loop-item
invariant-loop-item g l = record {
  payload : l.item-iterator.payload ≡ l.payload;
  puts : PutsTo (g.O.Write.contents l.initial.output) l.initial.buffer.items (g.O.Write.contents l.output) l.buffer.items (lines_text_of (items_left l.item-iterator.window)) (lines_text_of l.fn.block.items);
}
