use Rattle.std.proofs.Common.{◌≡◌, None}
use Rattle.sst_tool.specs.Printed.{printed_in}
use Rattle.sstool.proofs.Printed.{HasPrintedFront}
use Rattle.sstool.proofs.scan.print_all.Given as goal

abbrev pub decreases-loop-entry : goal.decreases-loop-entry
decreases-loop-entry g l = (g.I.Source.left l.source).most

abbrev pub invariant-loop-entry : goal.invariant-loop-entry
invariant-loop-entry g l = record {
  form : l.lines.form ≡ l.initial.lines.form;
  printed : l.initial.lines.form ≡ None → HasPrintedFront (g.I.Source.left l.initial.source).list (g.I.Source.left l.source).list (printed_in g.O.Write.contents l.initial.lines) (printed_in g.O.Write.contents l.lines);
}
