use Rattle.std.proofs.Common.{Some, ◌∙◌, ap, sym, subst}
use Rattle.std.specs.Option.{IfSome}
use Rattle.sst_merge.specs.MappedLaws.{none_entries}
use Rattle.sst_merge.specs.TableLaws.{none_left}
use Rattle.sst_merge.specs.Tables.{IsTableOf, entries_in}
use Rattle.sst_merge.specs.declared.writing.Sizes.{Sizes}
use Rattle.sst_examples.proofs.Stored.Written.{all_written}
use Rattle.sst_examples.proofs.store.tables.write_as.Goals as goal

pub returns : goal.returns
returns g c = λ items known.
    let kind = g.K.TableWriter.kind c.args.form in
    let sizes : Sizes = record { block = 4096; table = 18446744073709551615 } in
    let entry = g.T.AsEntry.entry in
    let old = entries_in entry c.in_ok-head.head.list in
    let new = entries_in entry c.write_table.new.source.list in
    let start = c.new-writer.result.items in
    let bytes = c.in_ok-written.bytes.items in
    let h = c.in-Some.handles in
    let written : IsTableOf kind sizes (Some start) (Some bytes) h old new =
    subst (λ o. IfSome o (λ handles. IsTableOf kind sizes (Some start) (Some bytes) handles old new)) c.in-Some.is c.in_ok-written.ensures.table in
    let none = none_entries entry c.write_table.new.source.list (none_left (λ r. r.now) c.write_table.new.source.list c.peek.result c.peek.ensures.first (sym c.is_some.ensures ∙ c.if-is_some.false)) in
    all_written kind sizes start bytes h items old new written c.new-writer.ensures.items (ap (entries_in entry) c.in_ok-head.ensures.list ∙ known) none
