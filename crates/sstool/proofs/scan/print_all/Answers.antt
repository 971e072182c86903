use Rattle.std.proofs.Common.{◌≡◌, ◌∙◌, subst, ◌∷◌, Option, Some}
use Rattle.std.specs.Option.{option_map}
use Rattle.sstable_blocks.specs.Prelude.{Entry}
use Rattle.sst_sources.specs.Sources.{Left, TakesFirst}
use Rattle.sstool.proofs.Printed.{printed_next}
use Rattle.sstool.proofs.scan.print_all.Goals as goal

first-taken : (s : Left Entry) (r : Option Entry) (t : Left Entry) (e : Entry) → TakesFirst s r t → r ≡ Some e → s.list ≡ option_map (λ xs. e ∷ xs) t.list
first-taken s r t e takes is = (subst (λ o. TakesFirst s o t) is takes).0

pub loop-entry-preserved-in_ok-print : goal.loop-entry-preserved-in_ok-print
loop-entry-preserved-in_ok-print g c = record {
  form = c.in_ok-print.ensures.same ∙ c.loop-entry.invariant.form;
  printed = λ plain. printed_next _ _ _ c.in-Some.entry _ _ _ (c.loop-entry.invariant.printed plain) (first-taken (g.I.Source.left c.loop-entry.source) _ (g.I.Source.left c.next_entry.new.self) c.in-Some.entry c.in_ok-entry.ensures.first c.in-Some.is)
      (c.in_ok-print.ensures.line (c.loop-entry.invariant.form ∙ plain));
}

pub loop-entry-preserved : goal.loop-entry-preserved
loop-entry-preserved g c = record {
  form = c.in_ok-print.ensures.same ∙ c.loop-entry.invariant.form;
  printed = λ plain. printed_next _ _ _ c.in-Some.entry _ _ _ (c.loop-entry.invariant.printed plain) (first-taken (g.I.Source.left c.loop-entry.source) _ (g.I.Source.left c.next_entry.new.self) c.in-Some.entry c.in_ok-entry.ensures.first c.in-Some.is)
      (c.in_ok-print.ensures.line (c.loop-entry.invariant.form ∙ plain));
}
