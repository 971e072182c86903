use Rattle.std.proofs.Common.{◌<◌, IfSome, subst}
use Rattle.sst_parts.specs.PartReaders.{IsOpenPart, OpenPartParts, read_open}
use Rattle.sst_parts.proofs.Reading.OpenParts.{open_read}
use Rattle.sstable_blocks.specs.RunReading.{hashes}
use Rattle.sstable_blocks.specs.Sources.{GivesOr}
use Rattle.sst_parts.proofs.parts_reader.OpenPart.get.Goals as goal

pub returns-clause-exact : goal.returns-clause-exact
returns-clause-exact g c =
    let h = hashes g.H.BlockHash.hash64 g.H.BlockHash.hash128 in
    let old = c.args.source.now in
    let new = c.get_near.new.source in
    subst (λ (w : OpenPartParts). IsOpenPart h (g.S.FrameSource.bytes old) w → IfSome (g.S.FrameSource.bytes old) (λ all. GivesOr (g.S.FrameSource.failures old < g.S.FrameSource.failures new) (g.S.FrameSource.is_reliable old) (λ x. x) c.get_near.result (read_open h all w.range c.args.needle.now.key.now c.args.needle.now.seqno)))
    c.self.view_is
    (λ o. open_read h c.self.inside.range _ _ c.args.needle.now.key.now c.args.needle.now.seqno _ _ _ o.places o.reader.opened c.get_near.ensures.exact)
    c.requires
