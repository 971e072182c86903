use Rattle.std.proofs.Common.{◌≡◌, ◌<◌, ◌++◌, ◌∙◌, sym, subst, IfSome, None}
use Rattle.sst_parts.specs.PartScans.{parts_left, parts_read}
use Rattle.sst_parts.proofs.Scanning.PartEnds.{last_on}
use Rattle.sstable_blocks.specs.RunReading.{hashes}
use Rattle.sstable_blocks.specs.Scans.{GivesLast}
use Rattle.sst_parts.proofs.scan.PartedScan.next_entry_back.Goals as goal

pub returns-clause-last : goal.returns-clause-last
returns-clause-last g c =
    let h = hashes g.H.BlockHash.hash64 g.H.BlockHash.hash128 in
    let f = g.S.FrameSource in
    let s = c.self.inside in
    let n = c.step-found.new in
    let to = c.step-found.ensures.range in
    subst (λ v. IfSome (f.bytes v.table.source) (λ all. v.ended ≡ None
    → GivesLast (f.failures v.table.source < f.failures n.unreached.table.source) (f.is_reliable v.table.source) (parts_left h all v) (n.far.reads ++ (parts_read h all n.far.range n.unreached.handles ++ n.near.reads)) c.step-found.result))
    c.self.view_is
    (last_on (f.failures s.unreached.table.source < f.failures n.unreached.table.source) (f.is_reliable s.unreached.table.source) h s.back n.near s.front n.far s.unreached.handles n.unreached.handles c.step-found.result (s.ended ≡ None) (f.bytes s.unreached.table.source)
    c.self.invariant (to.0 ∙ c.self.invariant ∙ sym to.1) c.step-found.ensures.exact)
