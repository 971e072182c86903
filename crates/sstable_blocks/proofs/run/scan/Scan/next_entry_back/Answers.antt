use Rattle.std.proofs.Common.{◌≡◌, ◌<◌, ◌≤◌, subst, ap, length, IfSome, None}
use Rattle.sstable_blocks.specs.RunReading.{hashes}
use Rattle.sstable_blocks.specs.Scans.{GivesLast, between, left_in, reads_among, reads_left}
use Rattle.sstable_blocks.specs.Tables.{KeptParts}
use Rattle.sstable_blocks.specs.Tallies.{Adds, CountsLast, least_taken, most_taken, scan_tally, tally_all, tally_by, tally_of}
use Rattle.sstable_blocks.proofs.Scans.EndCounts.{adds_turned, table_counts_back}
use Rattle.sstable_blocks.proofs.Scans.EndReads.{gives_back, if_fresh}
use Rattle.sstable_blocks.proofs.run.scan.Scan.next_entry_back.Goals as goal

pub returns-clause-last : goal.returns-clause-last
returns-clause-last g c =
    let h = hashes g.H.BlockHash.hash64 g.H.BlockHash.hash128 in
    let f = g.S.FrameSource in
    let s = c.self.inside in
    let cut = s.cut in
    let n = c.step_back.new in
    let t = n.blocks in
    let goes = c.step_back.ensures.taken.goes in
    let index = ap (λ (k : KeptParts). k.index) goes.kept in
    let inside = subst (λ hs. n.between.hi ≤ length hs) index c.step_back.ensures.taken.ends.inside in
    subst (λ v. IfSome (f.bytes v.table.source) (λ all. v.ended ≡ None
    → GivesLast (f.failures v.table.source < f.failures t.run.source) (f.is_reliable v.table.source) (reads_left h all v)
    (reads_among h all t.range (left_in n.far) (between t.run.index n.between.lo n.between.hi) (left_in n.near)) c.step_back.result))
    c.self.view_is
    (if_fresh _ _ (f.bytes cut.run.source) (gives_back h (f.failures cut.run.source < f.failures t.run.source) (f.is_reliable cut.run.source) cut.range t.range cut.run.index t.run.index goes.range index
    (left_in s.front) (left_in s.back) (left_in n.far) (left_in n.near) s.middle.lo s.middle.hi n.between.lo n.between.hi c.self.invariant.inside inside c.step_back.result (f.bytes cut.run.source) c.step_back.ensures.taken.exact))

pub returns-clause-looked : goal.returns-clause-looked
returns-clause-looked g c =
    let f = g.S.FrameSource in
    let s = c.self.inside in
    let cut = s.cut in
    let n = c.step_back.new in
    let t = n.blocks in
    let tally = tally_of scan_tally in
    subst (λ v. Adds v.counted (tally_all scan_tally (tally_by t.steps) n.far n.near) (least_taken c.step_back.result)) c.self.view_is (adds_turned (tally_by cut.steps) (tally s.front) (tally s.back) (tally_by t.steps) (tally n.far) (tally n.near) _ c.step_back.ensures.counts.adds)

pub returns-clause-counts : goal.returns-clause-counts
returns-clause-counts g c =
    let f = g.S.FrameSource in
    let s = c.self.inside in
    let cut = s.cut in
    let n = c.step_back.new in
    let t = n.blocks in
    let index = ap (λ (k : KeptParts). k.index) c.step_back.ensures.taken.goes.kept in
    let inside = subst (λ hs. n.between.hi ≤ length hs) index c.step_back.ensures.taken.ends.inside in
    let tally = tally_of scan_tally in
    subst (λ v. IfSome (f.bytes v.table.source) (λ all. CountsLast all v.table.interval v.counted v.handles (tally_all scan_tally (tally_by t.steps) n.far n.near) (between t.run.index n.between.lo n.between.hi) (most_taken c.step_back.result)))
    c.self.view_is
    (table_counts_back cut.run.interval cut.run.index t.run.index index s.middle.lo s.middle.hi n.between.lo n.between.hi _ c.self.invariant.inside inside (f.bytes cut.run.source)
    (tally_by cut.steps) (tally s.front) (tally s.back) (tally_by t.steps) (tally n.far) (tally n.near) c.step_back.ensures.counts.paid)
