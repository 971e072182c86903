use Rattle.std.proofs.Common.{◌∙◌, ap}
use Rattle.sstable_blocks.specs.Writing.{Writing}
use Rattle.sst_program.proofs.TableFiles.Tables.{table-of}
use Rattle.sst_program.proofs.pack.write_table.Goals as goal

pub returns-clause-table : goal.returns-clause-table
returns-clause-table g c =
    table-of c.args.config c.add_blocks.new.run.config c.args.per_block c.args.items.now c.add_blocks.new.run.blocks _
    (g.W.Write.contents c.args.writer) c.add_blocks.new.run.start _ c.block_count-blocks.result c.in_ok-len.len
    c.in_ok-add_blocks.ensures.cut
    (c.add_blocks.ensures.run.config ∙ ap (λ (r : Writing _). r.config) c.new-run.ensures)
    (c.add_blocks.ensures.run.start ∙ ap (λ (r : Writing _). r.start) c.new-run.ensures)
    c.in_ok-len.ensures.table c.block_count-blocks.ensures
