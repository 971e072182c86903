use Rattle.std.proofs.Common.{◌≡◌, ◌++◌, take, drop, Some}
use Rattle.sst_base.specs.Bytes.{IsBytes}
use Rattle.sst_base.proofs.Framing.Frames.{found_front, only_front, cells_if_ok}
use Rattle.sst_base.specs.Frame.{frame_block, frame, frame_at}
use Rattle.sst_base.specs.FrameLaws.{frame_at-frame}
use Rattle.sst_base.proofs.table.block.Block.from_reader.Goals as goal

pub returns-clause-found : goal.returns-clause-found
returns-clause-found g c bytes known =
    found_front g.H.BlockHash.hash128 (g.R.Input.is_memory c.args.reader.now) c.read_from.result (g.R.Read.remaining c.read_from.new.reader) bytes (cells_if_ok (λ all. g.R.Read.remaining c.args.reader.now ≡ Some all) (λ all. IsBytes (take 28 (drop 5 all))) c.read_from.result c.read_from.ensures.cells bytes known) (c.read_from.ensures.read bytes known)

pub returns-clause-only : goal.returns-clause-only
returns-clause-only g c t payload rest short known memory =
    let hash = g.H.BlockHash.hash128 in
    only_front (g.R.Input.is_memory c.args.reader.now) c.read_from.result (g.R.Read.remaining c.read_from.new.reader) (frame_at hash (frame hash t payload ++ rest)) (frame_block hash t payload) rest memory
    (frame_at-frame hash t payload rest short (g.met.H.BlockHash.hash128_fits payload)) (c.read_from.ensures.read (frame hash t payload ++ rest) known)
