use Rattle.std.proofs.Common.{◌≡◌, [], ◌∙◌, ap, subst, List, Option, None}
use Rattle.std.specs.Option.{option_map}
use Rattle.std.specs.Result.{OnOk}
use Rattle.sstable_blocks.specs.Prelude.{Entry}
use Rattle.sstable_blocks.specs.Run.{form}
use Rattle.sst_merge.specs.Compact.{compacted}
use Rattle.sst_merge.specs.Outputs.{AreWritten}
use Rattle.sst_sources.specs.Sources.{Left, left_as}
use Rattle.sstool.specs.Merged.{kind_of, staying_of}
use Rattle.sstool.proofs.merge.write_merged.Goals as goal

pub returns : goal.returns
returns g c =
    let k = kind_of (form g.H.BlockHash.hash64 g.H.BlockHash.hash128 c.args.how.config) c.args.how.part_size in
    let kept = left_as (compacted (λ (e : Entry). e) c.args.reads.snapshots.items (λ _. c.args.reads.is_bottom)) None in
    let same : c.new-written.result.source.list ≡ staying_of c.args.reads.snapshots.items c.args.reads.is_bottom c.args.heads.items =
    ap (λ (s : Left Entry). s.list) (c.new-written.ensures ∙ c.new-staying.ensures ∙ ap kept c.new-merged.ensures) in
    let P = λ (left : Option (List Entry)). OnOk c.write_as.result (AreWritten k c.args.how.sizes g.O.Outputs.start left (option_map (λ _. []) left) (g.O.Outputs.tables c.args.tables.now) (g.O.Outputs.tables c.write_as.new.tables)) in
    record { written = subst P same c.write_as.ensures.written }
