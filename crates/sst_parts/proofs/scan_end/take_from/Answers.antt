use Rattle.sstable_blocks.specs.RunReading.{hashes}
use Rattle.sst_parts.proofs.Scanning.EndScans.{back_step}
use Rattle.sst_parts.proofs.scan_end.take_from.Goals as goal

pub returns-then-back-clause-exact : goal.returns-then-back-clause-exact
returns-then-back-clause-exact g c =
    let s = c.args.scan.now in
    let t = c.next_entry_back.new.self in
    rw c.if-back.true (back_step (hashes g.H.BlockHash.hash64 g.H.BlockHash.hash128) s t c.next_entry_back.result c.requires c.next_entry_back.ensures.source.source.same c.next_entry_back.ensures.last)
