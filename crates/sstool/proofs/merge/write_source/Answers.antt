use Rattle.std.proofs.Common.{◌≡◌, [], subst, List, Option}
use Rattle.std.specs.Option.{option_map}
use Rattle.std.specs.Result.{OnOk}
use Rattle.sstable_blocks.specs.Prelude.{Entry}
use Rattle.sst_merge.specs.MappedLaws.{entries_themselves}
use Rattle.sst_merge.specs.Outputs.{AreWritten}
use Rattle.sstool.proofs.merge.write_source.Goals as goal

pub returns : goal.returns
returns g c =
    let k = g.K.TableWriter.kind c.args.form in
    let P = λ (left : Option (List Entry)). OnOk c.write_tables.result (AreWritten k c.args.sizes g.O.Outputs.start left (option_map (λ _. []) left) (g.O.Outputs.tables c.args.tables.now) (g.O.Outputs.tables c.write_tables.new.outputs)) in
    let head = c.in_ok-head.head.list in
    let Q = λ (left : Option (List Entry)). OnOk c.write_tables.result (AreWritten k c.args.sizes g.O.Outputs.start left (option_map (λ _. []) head) (g.O.Outputs.tables c.args.tables.now) (g.O.Outputs.tables c.write_tables.new.outputs)) in
    record { written = subst P c.in_ok-head.ensures.list (subst Q (entries_themselves head) c.write_tables.ensures.written) }
