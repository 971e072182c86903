use Rattle.std.proofs.Common.{◌≡◌, ◌++◌, ◌≤◌, length, sym, subst}
use Rattle.sst_parts.specs.PartScans.{parts_read}
use Rattle.sst_parts.specs.RefScans.{unreached_entries}
use Rattle.sst_parts.proofs.Scanning.RefSteps.{next_entries}
use Rattle.sstable_blocks.specs.BetweenLaws.{some_between}
use Rattle.sstable_blocks.specs.BlockReading.{seen_from}
use Rattle.sstable_blocks.specs.RunReading.{hashes}
use Rattle.sstable_blocks.specs.Scans.{between, entries_read, range_by}
use Rattle.sst_parts.proofs.ref_scan.UnreachedRef.open_next.Goals as goal

pub returns-clause-opened : goal.returns-clause-opened
returns-clause-opened g c =
    let k = hashes g.H.BlockHash.hash64 g.H.BlockHash.hash128 in
    let s = c.self.inside in
    let i = c.take_index-index.ensures in
    let b = c.take_index-index.new.between in
    let keys = range_by (λ x. x.now) s.from s.to in
    let some = subst (λ v. 1 ≤ length v.handles) (sym c.self.view_is) c.requires in
    subst (λ v. seen_from c.args.back (unreached_entries k v) ≡ seen_from c.args.back c.scan_part-scan.result.left ++ seen_from c.args.back (entries_read (parts_read k s.table.source keys (between s.table.tops b.lo b.hi)))) c.self.view_is
    (next_entries k s.table.source keys s.table.tops c.args.back s.rest.lo s.rest.hi c.take_index-index.result b.lo b.hi c.scan_part-scan.result.left (some_between s.table.tops s.rest.lo s.rest.hi some) c.self.invariant i.index i.rest.0 i.rest.1 c.scan_part-scan.ensures.left)
