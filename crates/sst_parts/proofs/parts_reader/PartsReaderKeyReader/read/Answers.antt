use Rattle.std.proofs.Common.{◌<◌, IfSome, arith, subst}
use Rattle.sstable_blocks.specs.Prelude.{handles}
use Rattle.sst_parts.specs.PartReaders.{PartsReaderParts, read_open_by_top}
use Rattle.sst_parts.proofs.Reading.OpenParts.{open_top_read}
use Rattle.sstable_blocks.specs.Lookup.{handle_for}
use Rattle.sstable_blocks.specs.RunReading.{hashes}
use Rattle.sstable_blocks.specs.Sources.{GivesOr}
use Rattle.sst_parts.proofs.parts_reader.PartsReaderKeyReader.read.Goals as goal

pub returns-clause-exact : goal.returns-clause-exact
returns-clause-exact g c =
    let h = hashes g.H.BlockHash.hash64 g.H.BlockHash.hash128 in
    let o = c.in_ok-open_at.ensures.source in
    let old = c.args.source.now in
    let key = c.args.needle.now.key.now in
    let seqno = c.args.needle.now.seqno in
    subst (λ (w : PartsReaderParts). IfSome (g.S.FrameSource.bytes old) (λ all. GivesOr (g.S.FrameSource.failures old < g.S.FrameSource.failures c.read_last.new.source) (g.S.FrameSource.is_reliable old) (λ y. y) c.read_last.result (read_open_by_top h all (handle_for handles key seqno w.tops) key seqno)))
    c.self.view_is
    (open_top_read h key seqno _ _ _ _ _ _ _ _ _ _ c.find_part.ensures.found c.in-Some.is o.same (λ less. omega (arith, less, o.failures_grow)) o.kept c.read_last.ensures.exact)
