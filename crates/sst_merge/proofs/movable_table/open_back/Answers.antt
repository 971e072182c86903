use Rattle.std.proofs.Common.{◌≡◌, ◌-◌, ap, arith, length, suc}
use Rattle.sstable_blocks.specs.RunReading.{hashes}
use Rattle.sst_merge.proofs.Moving.TableEnds.{no_back, no_back_behind, opens_back}
use Rattle.sst_merge.proofs.movable_table.open_back.Goals as goal

pub returns-then-index-eq0-clause-back : goal.returns-then-index-eq0-clause-back
returns-then-index-eq0-clause-back g c = no_back (hashes g.H.BlockHash.hash64 g.H.BlockHash.hash128) g.S.FrameSource.bytes c.args.table.now c.args.index (omega arith)

pub returns-then-index-len-clause-back : goal.returns-then-index-len-clause-back
returns-then-index-len-clause-back g c = no_back_behind (hashes g.H.BlockHash.hash64 g.H.BlockHash.hash128) g.S.FrameSource.bytes c.args.table.now c.args.index (let e = ap length c.index.ensures.items in omega (arith, e))

pub returns-clause-back : goal.returns-clause-back
returns-clause-back g c =
    let next : suc (c.args.index - 1) ≡ c.args.index = omega arith in
    opens_back (hashes g.H.BlockHash.hash64 g.H.BlockHash.hash128) g.S.FrameSource.bytes c.args.table.now (c.args.index - 1) c.args.index c.in_ok-left.left.window c.hold_last.result next c.in_ok-left.ensures.block c.in_ok-left.ensures.whole c.hold_last.ensures.held
