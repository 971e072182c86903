use Rattle.std.proofs.Common.{◌<◌, ◌≡◌, IfOk, ap, ◌∙◌}
use Rattle.sstable_blocks.specs.Lookup.{handle_for}
use Rattle.sstable_blocks.specs.Prelude.{handles}
use Rattle.sstable_blocks.specs.RunReading.{hashes}
use Rattle.sst_sources.specs.FailureLaws.{table_fails}
use Rattle.sst_sources.specs.Stored.{all_keys}
use Rattle.sst_parts.specs.Parts.{parted_most, read_by_top}
use Rattle.sst_parts.specs.StoredLaws.{counts_from_none, parted_found}
use Rattle.sst_parts.specs.StoredParts.{parted_list}
use Rattle.sst_parts.proofs.stored.PartedTableReader.get.Goals as goal

pub returns-clause-found : goal.returns-clause-found
returns-clause-found g c =
    let h = hashes g.H.BlockHash.hash64 g.H.BlockHash.hash128 in
    let t = c.args.self.now in
    parted_found h t.top t.tops
    (λ parts bytes is at. c.parted_is_scanned.ensures h parts bytes t.top t.tops all_keys g.met.H.BlockHash.hash128_fits is at)
    c.args.needle.now c.args.seqno (λ m. IfOk c.get.result (λ found. found ≡ m))
    (λ bytes summary cells size e. (let k = c.accepted_parted_is_sound.ensures h bytes t.top summary cells size e in (k.0, k.1)))
    (λ items. c.first_match_of_plain.ensures c.args.needle.now c.args.seqno items)
    (g.S.FrameSource.bytes t.source) c.index-index.ensures.kept c.get.ensures.sound

pub returns-clause-kept : goal.returns-clause-kept
returns-clause-kept g c =
    let h = hashes g.H.BlockHash.hash64 g.H.BlockHash.hash128 in
    let old = c.args.self.now in
    ap (λ t. parted_list h (g.S.FrameSource.bytes t.source) t.top t.tops) c.get.ensures.kept ∙ ap (λ b. parted_list h b old.top old.tops) c.get.ensures.source.same

pub returns-clause-counts : goal.returns-clause-counts
returns-clause-counts g c =
    let t = c.args.self.now in
    counts_from_none (g.S.FrameSource.bytes t.source) c.args.steps.now c.get.new.steps (1, 0) (λ all. parted_most all t.tops t.interval c.args.needle.now c.args.seqno) c.get.ensures.counts

pub returns-clause-cause : goal.returns-clause-cause
returns-clause-cause g c =
    let h = hashes g.H.BlockHash.hash64 g.H.BlockHash.hash128 in
    let t = c.args.self.now in
    table_fails (g.S.FrameSource.failures t.source < g.S.FrameSource.failures c.get.new.self.source) (g.S.FrameSource.is_reliable t.source) (g.S.FrameSource.bytes t.source)
    (λ all. read_by_top h all (handle_for handles c.args.needle.now c.args.seqno t.tops) c.args.needle.now c.args.seqno) c.get.result c.get.ensures.exact
