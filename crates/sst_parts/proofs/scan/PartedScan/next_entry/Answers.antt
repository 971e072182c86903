use Rattle.std.proofs.Common.{◌≡◌, ◌<◌, ◌++◌, subst, IfSome, None}
use Rattle.sst_parts.specs.PartScans.{parts_left, parts_read}
use Rattle.sst_parts.proofs.Scanning.PartEnds.{first_on}
use Rattle.sstable_blocks.specs.RunReading.{hashes}
use Rattle.sstable_blocks.specs.Scans.{GivesFirst}
use Rattle.sst_parts.proofs.scan.PartedScan.next_entry.Goals as goal

pub returns-clause-first : goal.returns-clause-first
returns-clause-first g c =
    let h = hashes g.H.BlockHash.hash64 g.H.BlockHash.hash128 in
    let f = g.S.FrameSource in
    let s = c.self.inside in
    let n = c.step-found.new in
    subst (λ v. IfSome (f.bytes v.table.source) (λ all. v.ended ≡ None
    → GivesFirst (f.failures v.table.source < f.failures n.unreached.table.source) (f.is_reliable v.table.source) (parts_left h all v) (n.near.reads ++ (parts_read h all n.near.range n.unreached.handles ++ n.far.reads)) c.step-found.result))
    c.self.view_is
    (first_on (f.failures s.unreached.table.source < f.failures n.unreached.table.source) (f.is_reliable s.unreached.table.source) h s.front n.near s.back n.far s.unreached.handles n.unreached.handles c.step-found.result (s.ended ≡ None) (f.bytes s.unreached.table.source) c.step-found.ensures.exact)
