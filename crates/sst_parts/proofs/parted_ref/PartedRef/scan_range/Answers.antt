use Rattle.std.proofs.Common.{length, map, ◌∙◌}
use Rattle.sstable_blocks.specs.Tallies.{search_cost}
use Rattle.sst_parts.proofs.Scanning.RefSteps.{fresh_left, none_opened}
use Rattle.sstable_blocks.specs.Blocks.{joined}
use Rattle.sstable_blocks.specs.Prelude.{plain}
use Rattle.sstable_blocks.specs.RunReading.{hashes}
use Rattle.sstable_blocks.specs.Scans.{range_by, within}
use Rattle.sst_parts.proofs.parted_ref.PartedRef.scan_range.Goals as goal

pub returns : goal.returns
returns g c =
    let k = hashes g.H.BlockHash.hash64 g.H.BlockHash.hash128 in
    let of = c.args.self.now in
    let keys = range_by (λ b. b.now) c.args.from c.args.to in
    let u = c.new.ensures in
    record {
      table = u.table ∙ c.again.ensures;
      range = u.range;
      counts = none_opened c.new.result (search_cost of.interval (length of.tops)) (rw c.again.ensures at u.counts);
      left = λ parts parted. fresh_left k of keys c.new.result (within keys (map plain (joined (joined parts)))) (u.table ∙ c.again.ensures) u.range (rw c.again.ensures at u.handles)
          (c.parted_is_scanned.ensures k parts of.source of.top of.tops keys g.met.H.BlockHash.hash128_fits parted c.note_tops.ensures);
    }
