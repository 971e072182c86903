use Rattle.std.proofs.Common.{◌≡◌, ◌<◌, ◌≤◌, subst, ap, length, IfSome, None}
use Rattle.sstable_blocks.specs.RunReading.{hashes}
use Rattle.sstable_blocks.specs.Scans.{GivesFirst, between, left_in, reads_among, reads_left}
use Rattle.sstable_blocks.specs.Tables.{KeptParts}
use Rattle.sstable_blocks.specs.Tallies.{Adds, CountsFirst, least_taken, most_taken, scan_tally, tally_all, tally_by}
use Rattle.sstable_blocks.proofs.Scans.EndCounts.{table_counts_front}
use Rattle.sstable_blocks.proofs.Scans.EndReads.{gives_front, if_fresh}
use Rattle.sstable_blocks.proofs.run.scan.Scan.next_entry.Goals as goal

pub returns-clause-first : goal.returns-clause-first
returns-clause-first g c =
    let h = hashes g.H.BlockHash.hash64 g.H.BlockHash.hash128 in
    let f = g.S.FrameSource in
    let s = c.self.inside in
    let cut = s.cut in
    let n = c.step_front.new in
    let t = n.blocks in
    let goes = c.step_front.ensures.taken.goes in
    let index = ap (λ (k : KeptParts). k.index) goes.kept in
    let inside = subst (λ hs. n.between.hi ≤ length hs) index c.step_front.ensures.taken.ends.inside in
    subst (λ v. IfSome (f.bytes v.table.source) (λ all. v.ended ≡ None
    → GivesFirst (f.failures v.table.source < f.failures t.run.source) (f.is_reliable v.table.source) (reads_left h all v)
    (reads_among h all t.range (left_in n.near) (between t.run.index n.between.lo n.between.hi) (left_in n.far)) c.step_front.result))
    c.self.view_is
    (if_fresh _ _ (f.bytes cut.run.source) (gives_front h (f.failures cut.run.source < f.failures t.run.source) (f.is_reliable cut.run.source) cut.range t.range cut.run.index t.run.index goes.range index
    (left_in s.front) (left_in s.back) (left_in n.near) (left_in n.far) s.middle.lo s.middle.hi n.between.lo n.between.hi c.self.invariant.inside inside c.step_front.result (f.bytes cut.run.source) c.step_front.ensures.taken.exact))

pub returns-clause-looked : goal.returns-clause-looked
returns-clause-looked g c =
    let f = g.S.FrameSource in
    let s = c.self.inside in
    let cut = s.cut in
    let n = c.step_front.new in
    let t = n.blocks in
    subst (λ v. Adds v.counted (tally_all scan_tally (tally_by t.steps) n.near n.far) (least_taken c.step_front.result)) c.self.view_is c.step_front.ensures.counts.pays.adds

pub returns-clause-counts : goal.returns-clause-counts
returns-clause-counts g c =
    let f = g.S.FrameSource in
    let s = c.self.inside in
    let cut = s.cut in
    let n = c.step_front.new in
    let t = n.blocks in
    let index = ap (λ (k : KeptParts). k.index) c.step_front.ensures.taken.goes.kept in
    let inside = subst (λ hs. n.between.hi ≤ length hs) index c.step_front.ensures.taken.ends.inside in
    subst (λ v. IfSome (f.bytes v.table.source) (λ all. CountsFirst all v.table.interval v.counted v.handles (tally_all scan_tally (tally_by t.steps) n.near n.far) (between t.run.index n.between.lo n.between.hi) (most_taken c.step_front.result)))
    c.self.view_is
    (table_counts_front cut.run.interval cut.run.index t.run.index index s.middle.lo s.middle.hi n.between.lo n.between.hi _ c.self.invariant.inside inside (f.bytes cut.run.source) _ _ c.step_front.ensures.counts.pays.paid c.step_front.ensures.counts.once)
