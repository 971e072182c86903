use Rattle.std.proofs.Common.{◌≡◌, ◌<◌, None, IfSome, subst}
use Rattle.sst_parts.specs.AnyLaws.{begun}
use Rattle.sst_parts.specs.AnyScans.{ended_in, left_in, source_of}
use Rattle.sst_parts.specs.AnyTables.{HasEntries, source_in}
use Rattle.sst_tool.specs.Keys.{only_key}
use Rattle.sstable_blocks.specs.RunReading.{hashes}
use Rattle.sstable_blocks.specs.Scans.{GivesFirst}
use Rattle.sstool.proofs.Firsts.{newest}
use Rattle.sstool.proofs.get.newest_in.Goals as goal

pub returns : goal.returns
returns g c =
    let h = hashes g.H.BlockHash.hash64 g.H.BlockHash.hash128 in
    let f = g.S.FrameSource in
    let scan = c.scan_range-versions.result in
    let after = c.next_entry.new.self in
    let failed = f.failures (source_of scan) < f.failures (source_of after) in
    let reliable = f.is_reliable (source_of scan) in
    let b = begun h f.bytes c.args.table (only_key c.args.key.now) scan c.scan_range-versions.ensures in
    record {
      newest = newest (f.bytes (source_in c.args.table)) h (HasEntries h c.args.table) (only_key c.args.key.now) scan after failed reliable c.next_entry.result b.left b.range b.going
          (subst (λ s. IfSome (f.bytes s) (λ all. ended_in scan ≡ None → GivesFirst failed reliable (left_in h all scan) (left_in h all after) c.next_entry.result)) b.source c.next_entry.ensures.first);
    }
