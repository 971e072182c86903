use Rattle.std.proofs.Common.{ap, ◌∙◌, length}
use Rattle.sstable_blocks.specs.RunReading.{hashes}
use Rattle.sstable_blocks.specs.Tables.{TableParts}
use Rattle.sst_merge.proofs.Moving.TableEnds.{opens_first, opens_last}
use Rattle.sst_merge.proofs.movable_table.open_ends.Goals as goal

pub returns-clause-front : goal.returns-clause-front
returns-clause-front g c = opens_first (hashes g.H.BlockHash.hash64 g.H.BlockHash.hash128) g.S.FrameSource.bytes c.args.table.now c.in_ok-front.front c.in_ok-front.ensures.front

pub returns-clause-back : goal.returns-clause-back
returns-clause-back g c =
    let same = c.in_ok-front.ensures.same in
    opens_last (hashes g.H.BlockHash.hash64 g.H.BlockHash.hash128) g.S.FrameSource.bytes c.args.table.now c.open_front.new.table same c.len-count.result c.in_ok-back.back
    (c.len-count.ensures.count ∙ ap length c.index.ensures.items ∙ ap (λ (p : TableParts g.row.S.Denot). length p.index) same.kept) c.in_ok-back.ensures.back
