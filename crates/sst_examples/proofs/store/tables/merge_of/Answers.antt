use Rattle.std.proofs.Common.{◌+◌, ◌∙◌, ap, sym, arith}
use Rattle.sstable_blocks.specs.Prelude.{Entry}
use Rattle.sst_sources.specs.Sources.{Left}
use Rattle.sst_examples.proofs.Stored.Listed.{each_known}
use Rattle.sst_examples.proofs.Stored.Written.{lists_all, lists_more}
use Rattle.sst_examples.proofs.store.tables.merge_of.Goals as goal

pub scan_of-requires : goal.scan_of-requires
scan_of-requires c = each_known c.args.tables.now c.loop-table.table-index c.table-item.result c.requires c.loop-table-test.true c.table-item.is

pub loop-table-preserved : goal.loop-table-preserved
loop-table-preserved c =
    let i = c.loop-table.table-index in
    lists_more c.loop-table.heads.items c.push.new.self.items c.in_ok-new.field-0 c.args.tables.now i (i + 1) c.table-item.result c.loop-table.invariant c.in_ok-push.ensures.items c.loop-table-test.true c.table-item.is
    (c.in_ok-new.ensures.list ∙ sym c.scan_of.ensures) (omega arith)

pub returns : goal.returns
returns c =
    ap (λ (s : Left Entry). s.list) c.new-2.ensures ∙ lists_all c.loop-table.heads.items c.args.tables.now c.loop-table.table-index c.loop-table.invariant c.loop-table-test.false
