use Rattle.std.proofs.Common.{◌+◌, ◌<◌, arith}
use Rattle.sst_calls.proofs.Lists.CheckEnds.{block_is_last, last_read}
use Rattle.sst_calls.proofs.run_check.last_frame.Goals as goal

pub handle_at-requires : goal.handle_at-requires
handle_at-requires c =
    let more : c.filter_frames-before.result + 1 < c.args.frames = omega (arith, c.if-frames-before.true) in
    let found = last_read c.requires.0 c.args.bytes.now c.args.handles.now c.args.frames c.filter_frames-before.result c.filter_frames-before.ensures c.requires.1 more in
    (c.requires.0, found.0, found.1, found.2)

pub returns-then-frames-before : goal.returns-then-frames-before
returns-then-frames-before c = λ k read.
    (let bytes = c.args.bytes.now in
    let h = c.args.handles.now in
    let before = c.filter_frames-before.result in
    let more : before + 1 < c.args.frames = omega (arith, c.if-frames-before.true) in
    let found = last_read k bytes h c.args.frames before c.filter_frames-before.ensures read more in
    block_is_last k bytes h c.args.frames before found.0 c.handle_at.result c.end_at.result c.filter_frames-before.ensures more found.1 (c.handle_at.ensures k found.0 found.1) c.end_at.ensures)
