use Rattle.std.proofs.Common.{◌≡◌, ◌<◌, length, sym, ap, subst, ◌∙◌, Some}
use Rattle.std.specs.List.{slice_get}
use Rattle.sstable_blocks.specs.Prelude.{Handle}
use Rattle.sst_parts.proofs.Scanning.RefSteps.{at_index, range_there}
use Rattle.sst_parts.specs.PartScans.{part_reads}
use Rattle.sstable_blocks.specs.RangeReadLaws.{entries_again}
use Rattle.sstable_blocks.specs.RunReading.{hashes}
use Rattle.sstable_blocks.specs.Scans.{entries_read, range_by}
use Rattle.sst_parts.proofs.parted_ref.PartedRef.scan_part.Goals as goal

pub run_of-requires : goal.run_of-requires
run_of-requires g c =
    let k = hashes g.H.BlockHash.hash64 g.H.BlockHash.hash128 in
    let s = c.self.inside in
    let i = c.self.invariant in
    let keys = range_by (λ b. b.now) c.args.from c.args.to in
    let inside = subst (λ v. c.args.index < length v.tops) (sym c.self.view_is) c.requires in
    let h = at_index s.index.items c.args.index c.handle_at-part.result inside c.handle_at-part.ensures.range in
    let part = c.parted_parts_are_scanned.ensures k i.0.0 s.bytes.now s.top s.index.items keys c.args.index h.0 g.met.H.BlockHash.hash128_fits i.0.1 i.1 h.1 in
    (part.blocks, h.0, h.2, part.stored)

pub returns-clause-left : goal.returns-clause-left
returns-clause-left g c =
    let k = hashes g.H.BlockHash.hash64 g.H.BlockHash.hash128 in
    let s = c.self.inside in
    let i = c.self.invariant in
    let keys = range_by (λ b. b.now) c.args.from c.args.to in
    subst (λ v. (h : Handle) → slice_get v.tops c.args.index ≡ Some h → c.scan_range.result.left ≡ entries_read (part_reads k v.source keys h)) c.self.view_is
    (λ h here.
    let part = c.parted_parts_are_scanned.ensures k i.0.0 s.bytes.now s.top s.index.items keys c.args.index h g.met.H.BlockHash.hash128_fits i.0.1 i.1 here in
    let is = range_there s.index.items c.args.index h c.handle_at-part.result here c.handle_at-part.ensures.range in
    c.scan_range.ensures.left part.blocks (c.run_of.ensures.sound part.blocks h is part.stored) ∙ sym (ap entries_read part.read ∙ entries_again _))
