use Rattle.std.proofs.Common.{◌+◌, List, ap, inl, ◌∙◌}
use Rattle.std.proofs.lemmas.Result.{err_from_is_err_and}
use Rattle.std.specs.Option.{option_map}
use Rattle.sst_base.specs.Counted.{found_item}
use Rattle.sst_block_core.specs.Handles.{Handle, handles}
use Rattle.sst_block_core.specs.IndexBlock.{IndexRefParts}
use Rattle.sstable_blocks.specs.BoundLaws.{found_by}
use Rattle.sstable_blocks.specs.FrameCountLaws.{exactly, goes_on, stops}
use Rattle.sstable_blocks.specs.Lookup.{handle_for}
use Rattle.sstable_blocks.specs.Opened.{range_of}
use Rattle.sstable_blocks.specs.RunPlaces.{bytes_at}
use Rattle.sstable_blocks.specs.RunReading.{handles_at, hashes}
use Rattle.sstable_blocks.proofs.Reading.ByIndex.{by_index, index_counted, index_fails}
use Rattle.sstable_blocks.specs.TableCountLaws.{nothing_counted}
use Rattle.sstable_blocks.proofs.run.checked.read_by_index.Goals as goal

pub returns-in_err-index-clause-exact : goal.returns-in_err-index-clause-exact
returns-in_err-index-clause-exact g c =
    let r = err_from_is_err_and c.from_residual.result c.from_residual.ensures.1 in
    rw (r.1, r.2) (index_fails (hashes g.H.BlockHash.hash64 g.H.BlockHash.hash128) _ _ _ _ c.args.needle.now c.args.seqno _ c.in_err-index.ensures.exact)

pub returns-in_err-index-clause-counts : goal.returns-in_err-index-clause-counts
returns-in_err-index-clause-counts g c = nothing_counted _ _ _

pub returns-in_err-index-clause-asked : goal.returns-in_err-index-clause-asked
returns-in_err-index-clause-asked g c =
    let e = c.in_err-index.ensures in
    let h = hashes g.H.BlockHash.hash64 g.H.BlockHash.hash128 in
    let r = err_from_is_err_and c.from_residual.result c.from_residual.ensures.1 in
    rw (r.1, r.2) (λ whole. stops _ _ _ _ _ 1 _ _ (λ all. handles_at h all c.args.index.now) (λ all hs. found_item (handle_for handles c.args.needle.now c.args.seqno hs)) (e.asked (inl whole)) e.exact)

pub returns-clause-exact : goal.returns-clause-exact
returns-clause-exact g c =
    let i = c.in_ok-index.ensures in
    let items = ap (λ (b : IndexRefParts). b.items) (c.new.ensures ∙ c.by_ref.ensures) in
    let found = c.find-handle.ensures.found ∙ ap (λ (hs : List Handle). option_map range_of (handle_for handles c.args.needle.now c.args.seqno hs)) items in
    by_index (hashes g.H.BlockHash.hash64 g.H.BlockHash.hash128) _ _ _ _ _ _ _ _ _ _ _ _ _ (ap (bytes_at c.args.place.now) i.source.same) i.source.failures_grow i.source.kept i.exact found c.read_in_block.ensures.exact

pub returns-clause-counts : goal.returns-clause-counts
returns-clause-counts g c =
    let i = c.in_ok-index.ensures in
    let is = c.new.ensures ∙ c.by_ref.ensures in
    index_counted _ _ c.args.index.now _ _ c.args.needle.now c.args.seqno _ _ _ _ (ap (bytes_at c.args.place.now) i.source.same) i.place (rw is at c.find-handle.ensures.found) (rw is at c.find-handle.ensures.counts) c.read_in_block.ensures.counts

pub returns-clause-asked : goal.returns-clause-asked
returns-clause-asked g c =
    let h = hashes g.H.BlockHash.hash64 g.H.BlockHash.hash128 in
    let i = c.in_ok-index.ensures in
    let items = ap (λ (b : IndexRefParts). b.items) (c.new.ensures ∙ c.by_ref.ensures) in
    let found = c.find-handle.ensures.found ∙ ap (λ (hs : List Handle). option_map range_of (handle_for handles c.args.needle.now c.args.seqno hs)) items in
    let b = c.read_in_block.ensures in
    λ whole. goes_on _ _ _ _ _ _ _ _ 1 _ _ (λ all. handles_at h all c.args.index.now) (λ all hs. found_item (handle_for handles c.args.needle.now c.args.seqno hs)) (ap (bytes_at c.args.place.now) i.source.same) (i.asked (inl whole)) i.source.failures_grow b.source.failures_grow i.exact
    (exactly _ _ _ _ _ _ _ (b.asked (inl whole) ∙ ap (λ n. g.S.FrameSource.reads c.index_block_from.new.source + n) (ap found_item found ∙ found_by _)))
