use Rattle.std.proofs.Common.{refl, ap, None}
use Rattle.sst_parts.specs.PartScans.{ScanEndParts}
use Rattle.sst_parts.proofs.Scanning.PartEnds.{begun_sound}
use Rattle.sstable_blocks.specs.RunReading.{hashes}
use Rattle.sstable_blocks.specs.Scans.{range_by}
use Rattle.sst_parts.proofs.scan.PartedScan.new.Goals as goal

pub returns : goal.returns
returns g c =
    let h = hashes g.H.BlockHash.hash64 g.H.BlockHash.hash128 in
    let of = c.args.table in
    let u = c.new.result in
    let keys = range_by (λ k. k.now) c.args.from c.args.to in
    let range = ap (λ (e : ScanEndParts). e.range) c.new-2.ensures in
    let front = ap (λ (e : ScanEndParts). e.reads) c.new-2.ensures in
    let back = ap (λ (e : ScanEndParts). e.reads) c.new-3.ensures in
    record {
      table = c.new.ensures.table;
      range = range;
      handles = c.new.ensures.handles;
      fresh = (front, back, refl);
      sound = begun_sound h of keys
          (record { table = u.table; range = c.new-2.result.range; front = c.new-2.result.reads; handles = u.handles; back = c.new-3.result.reads; ended = None; most = 0 })
          range c.new.ensures.handles front back _ c.index-index.ensures.kept
          (λ all parts parted read. c.parted_is_scanned.ensures h parts all of.top of.tops keys g.met.H.BlockHash.hash128_fits parted read);
    }
