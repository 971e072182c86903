use Rattle.std.proofs.Common.{◌<◌, ◌≡◌, IfOk, ap, ◌∙◌}
use Rattle.sstable_blocks.specs.Prelude.{CountsBetween}
use Rattle.sst_sources.specs.Stored.{table_list}
use Rattle.sst_sources.specs.FailureLaws.{table_fails}
use Rattle.sst_sources.specs.TableReads.{table_found, mapped}
use Rattle.sstable_blocks.specs.ReadCosts.{heads_most_in, entries_most_in}
use Rattle.sstable_blocks.specs.RunReading.{hashes, read_checked}
use Rattle.sst_sources.proofs.stored.TableReader.get.Goals as goal

pub returns-clause-found : goal.returns-clause-found
returns-clause-found g c =
    let c1 = hashes g.H.BlockHash.hash64 g.H.BlockHash.hash128 in
    let t = c.args.self.now in
    table_found c1 t.handles t.index c.args.needle.now c.args.seqno (λ m. IfOk c.get.result (λ found. found ≡ m))
    (λ bytes summary fits index filter e. (let k = c.accepted_run_is_sound.ensures c1 bytes t.handles summary fits index filter e in (k.0, k.1)))
    (λ blocks bytes sound at. c.sound_is_scanned.ensures c1 blocks bytes t.handles _ t.index g.met.H.BlockHash.hash128_fits sound at)
    (λ items. c.first_match_of_plain.ensures c.args.needle.now c.args.seqno items)
    (g.S.FrameSource.bytes t.source) c.index-index.ensures.kept c.get.ensures.sound

pub returns-clause-kept : goal.returns-clause-kept
returns-clause-kept g c =
    let h = hashes g.H.BlockHash.hash64 g.H.BlockHash.hash128 in
    let old = c.args.self.now in
    ap (λ t. table_list h (g.S.FrameSource.bytes t.source) t.handles t.index) c.get.ensures.kept ∙ ap (λ b. table_list h b old.handles old.index) c.get.ensures.source.same

pub returns-clause-counts : goal.returns-clause-counts
returns-clause-counts g c =
    let t = c.args.self.now in
    mapped (λ all. (heads_most_in all t.handles c.args.needle.now c.args.seqno, entries_most_in all t.handles c.args.needle.now c.args.seqno)) (CountsBetween c.args.steps.now c.get.new.steps (0, 0)) (g.S.FrameSource.bytes t.source) c.get.ensures.counts

pub returns-clause-cause : goal.returns-clause-cause
returns-clause-cause g c =
    let h = hashes g.H.BlockHash.hash64 g.H.BlockHash.hash128 in
    let t = c.args.self.now in
    table_fails (g.S.FrameSource.failures t.source < g.S.FrameSource.failures c.get.new.self.source) (g.S.FrameSource.is_reliable t.source) (g.S.FrameSource.bytes t.source)
    (λ all. read_checked h all t.handles c.args.needle.now c.args.seqno) c.get.result c.get.ensures.exact
