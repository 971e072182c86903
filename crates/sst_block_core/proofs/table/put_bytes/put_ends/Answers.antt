use Rattle.std.proofs.Common.{◌-◌, length, arith}
use Rattle.sst_block_core.proofs.Items.TwoEnds.{two_ends}
use Rattle.sst_block_core.proofs.table.put_bytes.put_ends.Goals as goal

pub returns-clause-bytes : goal.returns-clause-bytes
returns-clause-bytes g c =
    two_ends c.args.bytes.now c.args.form.now c.put_chunk.new.form c.put_chunk-2.new.form _ _ c.args.at g.row.N (length c.args.bytes.now - g.row.N) (omega (arith, c.requires.room)) (omega (arith, c.requires.two)) (omega (arith, c.requires.one))
    c.put_chunk.ensures.bytes c.put_chunk-2.ensures.bytes
