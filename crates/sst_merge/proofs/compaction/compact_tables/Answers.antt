use Rattle.std.proofs.Common.{◌≡◌, [], ◌∙◌, ap, subst, List, Option}
use Rattle.std.specs.Option.{option_map}
use Rattle.std.specs.Result.{OnOk}
use Rattle.sstable_blocks.specs.Prelude.{Entry}
use Rattle.sst_merge.specs.Compact.{compacted}
use Rattle.sst_merge.specs.OutputLaws.{none_after}
use Rattle.sst_merge.specs.Outputs.{AreWritten, MayFail}
use Rattle.sst_merge.specs.WriteLaws.{changed_fails}
use Rattle.sst_merge.specs.Tables.{entries_in}
use Rattle.sst_merge.proofs.compaction.compact_tables.Goals as goal

pub returns : goal.returns
returns g c =
    let entry = g.T.AsEntry.entry in
    let k = g.K.TableWriter.kind c.args.form in
    let kept = compacted entry c.args.snapshots.items (g.B.Bottom.at_bottom c.args.bottom) in
    let given = (g.I.Source.left c.args.source).list in
    let same : c.in_ok-head.head.list ≡ option_map kept given = c.in_ok-head.ensures.list ∙ ap (λ s. s.list) c.new-compacted.ensures in
    let P = λ (before after : Option (List Entry)). OnOk c.write_tables.result (AreWritten k c.args.sizes g.O.Outputs.start before after (g.O.Outputs.tables c.args.outputs.now) (g.O.Outputs.tables c.write_tables.new.outputs)) in
    record {
      written = subst (P (entries_in entry (option_map kept given))) (none_after kept given) (subst (λ o. P (entries_in entry o) (option_map (λ _. []) o)) same c.write_tables.ensures.written);
      cause = changed_fails g.I.Source.may_fail g.O.Outputs.may_fail (MayFail g.O.Writer.Output.never_fails) entry k c.args.sizes.block kept (g.I.Source.left c.args.source) c.new-compacted.result c.in_ok-head.head c.write_tables.result c.new-compacted.ensures c.in_ok-head.ensures.no_more same c.write_tables.ensures.cause;
    }
