use Rattle.std.proofs.Common.{ap, ◌∙◌}
use Rattle.sst_base.proofs.Framing.Frames.{found_whole, only_whole}
use Rattle.sst_base.specs.Frame.{frame_block, frame_in}
use Rattle.sst_base.specs.FrameLaws.{frame_in-frame}
use Rattle.sst_base.specs.FrameErrorLaws.{given_not_io, frame_in_not_io}
use Rattle.sst_base.proofs.table.block.Block.from_frame.Goals as goal

pub returns-clause-found : goal.returns-clause-found
returns-clause-found g c = found_whole g.H.BlockHash.hash128 c.in_frame.result c.args.bytes c.in_frame.ensures.bytes c.in_frame.ensures.read

pub returns-clause-only : goal.returns-clause-only
returns-clause-only g c t payload short same =
    let hash = g.H.BlockHash.hash128 in
    only_whole c.in_frame.result (frame_in hash c.args.bytes) (frame_block hash t payload) (ap (frame_in hash) same ∙ frame_in-frame hash t payload short (g.met.H.BlockHash.hash128_fits payload)) c.in_frame.ensures.read

pub returns-clause-not_io : goal.returns-clause-not_io
returns-clause-not_io g c = given_not_io c.in_frame.result _ (frame_in_not_io g.H.BlockHash.hash128 _) c.in_frame.ensures.read
