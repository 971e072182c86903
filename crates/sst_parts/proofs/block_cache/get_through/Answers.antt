use Rattle.std.proofs.Common.{◌<◌, ℕ, sym, ◌∙◌, ap, Ok, Err, Some, None}
use Rattle.sst_parts.proofs.Cached.CachedReads.{at_place, counted_at, not_at_place}
use Rattle.sstable_blocks.specs.FoundLaws.{found_counts, found_read, none_found}
use Rattle.sstable_blocks.specs.KeptLaws.{checked_on}
use Rattle.sstable_blocks.specs.RunPlaceLaws.{placed_in_any}
use Rattle.sstable_blocks.specs.Results.{BadHandle}
use Rattle.sstable_blocks.specs.RunReading.{hashes}
use Rattle.sstable_blocks.specs.TableCountLaws.{kept_counts}
use Rattle.sst_parts.proofs.block_cache.get_through.Goals as goal

pub frame-requires : goal.frame-requires
frame-requires g c = placed_in_any _ _ c.requires.placed

pub returns-in-Some-frame-clause-exact : goal.returns-in-Some-frame-clause-exact
returns-in-Some-frame-clause-exact g c =
    let h = hashes g.H.BlockHash.hash64 g.H.BlockHash.hash128 in
    let r = c.args.run.now in
    checked_on h _ r.handles r.filter r.index r.interval c.args.needle.now c.args.seqno _ _ _ c.requires.opened
    (found_read h r.filter r.index c.args.needle.now c.args.seqno _ (Some c.in-Some.handle) _ _ _ (ap Ok (sym c.in-Some.is) ∙ c.find_block.ensures.exact)
    (at_place h c.args.needle.now c.args.seqno c.args.place.now _ c.in-Some.handle c.in-Some-frame.range _ _ _ c.requires.placed (sym c.frame.ensures ∙ c.in-Some-frame.is) c.read_range.ensures.read.exact))

pub returns-in-Some-frame-clause-counts : goal.returns-in-Some-frame-clause-counts
returns-in-Some-frame-clause-counts g c =
    let h = hashes g.H.BlockHash.hash64 g.H.BlockHash.hash128 in
    let r = c.args.run.now in
    kept_counts h _ r.handles r.filter r.index r.interval c.args.needle.now c.args.seqno _ _ c.requires.opened
    (found_counts h r.filter r.index c.args.needle.now c.args.seqno _ r.interval (Some c.in-Some.handle) _ _ _ (ap Ok (sym c.in-Some.is) ∙ c.find_block.ensures.exact) c.find_block.ensures.counts
    (counted_at h c.args.needle.now c.args.seqno c.args.place.now _ c.in-Some.handle c.in-Some-frame.range _ _ (sym c.frame.ensures ∙ c.in-Some-frame.is) c.read_range.ensures.read.counts))

pub returns-in-None-clause-exact : goal.returns-in-None-clause-exact
returns-in-None-clause-exact g c =
    let h = hashes g.H.BlockHash.hash64 g.H.BlockHash.hash128 in
    let r = c.args.run.now in
    let failed = g.S.FrameSource.failures c.args.source.now < g.S.FrameSource.failures c.args.source.now in
    let reliable = g.S.FrameSource.is_reliable c.args.source.now in
    checked_on h _ r.handles r.filter r.index r.interval c.args.needle.now c.args.seqno failed reliable (Err BadHandle) c.requires.opened
    (found_read h r.filter r.index c.args.needle.now c.args.seqno _ (Some c.in-Some.handle) failed reliable (Err BadHandle) (ap Ok (sym c.in-Some.is) ∙ c.find_block.ensures.exact)
    (not_at_place h c.args.needle.now c.args.seqno c.args.place.now _ c.in-Some.handle failed reliable c.requires.placed (sym c.frame.ensures ∙ c.in-None.is)))

pub returns-in_default-clause-exact : goal.returns-in_default-clause-exact
returns-in_default-clause-exact g c =
    let h = hashes g.H.BlockHash.hash64 g.H.BlockHash.hash128 in
    let r = c.args.run.now in
    checked_on h _ r.handles r.filter r.index r.interval c.args.needle.now c.args.seqno ℕ ℕ (Ok None) c.requires.opened
    (none_found h r.filter r.index c.args.needle.now c.args.seqno _ c.find_block.result c.find_block.ensures.exact (search (c.in_default.is)))
