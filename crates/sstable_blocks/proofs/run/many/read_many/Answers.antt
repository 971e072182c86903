use Rattle.std.proofs.Common.{[], get_or, arith, ◌∙◌}
use Rattle.std.proofs.lemmas.Result.{err_from_is_err_and}
use Rattle.sstable_blocks.proofs.ManyReads.Needles.{get_or_any, memory_fails, one_of_many, way_done, way_fails, way_next}
use Rattle.sstable_blocks.proofs.run.many.read_many.Goals as goal

pub loop-needle-preserved : goal.loop-needle-preserved
loop-needle-preserved g c =
    let w = c.loop-needle.invariant in
    let e = c.in_ok-value.ensures in
    let s = e.source in
    let x = get_or c.args.needles.now c.loop-needle.needle-index (record { key = record { ref_ptr = (0, 0); now = [] }; seqno = 0 }) in
    way_next g.S.FrameSource.bytes g.S.FrameSource.failures g.S.FrameSource.reads g.S.FrameSource.is_reliable g.R.KeyReader.reader_of g.R.KeyReader.answer g.R.KeyReader.frames c.args.source.now c.loop-needle.source c.read.new.source c.args.reader.now c.loop-needle.reader c.read.new.self c.args.needles.now c.loop-needle.needle-index _ c.loop-needle.found.items c.push.new.self.items x c.in_ok-value.value
    w c.loop-needle-test.true (get_or_any c.args.needles.now c.loop-needle.needle-index _ x c.loop-needle-test.true) (omega arith) c.in_ok-push.ensures.items s.same s.failures_grow s.kept s.asks e.left e.reader e.same e.exact

pub returns-in_err-value-clause-source : goal.returns-in_err-value-clause-source
returns-in_err-value-clause-source g c =
    let w = c.loop-needle.invariant in
    let e = c.in_err-value.ensures in
    let s = e.source in
    let x = get_or c.args.needles.now c.loop-needle.needle-index (record { key = record { ref_ptr = (0, 0); now = [] }; seqno = 0 }) in
    let most = one_of_many g.S.FrameSource.bytes g.S.FrameSource.failures g.S.FrameSource.reads g.S.FrameSource.is_reliable g.R.KeyReader.reader_of g.R.KeyReader.answer g.R.KeyReader.frames c.args.source.now c.loop-needle.source c.read.new.source c.args.reader.now c.loop-needle.reader c.args.needles.now c.loop-needle.needle-index c.loop-needle.found.items x w c.loop-needle-test.true (get_or_any c.args.needles.now c.loop-needle.needle-index _ x c.loop-needle-test.true) e.few in
    let r = err_from_is_err_and c.from_residual-in_err-value.result c.from_residual-in_err-value.ensures.1 in
    rw (r.1, r.2) (record {
      same = s.same ∙ w.same;
      failures_grow = omega (arith, s.failures_grow, w.grow);
      kept = λ t. s.kept (w.reliable t);
      io = λ io. (let less = s.io io in omega (arith, less, w.grow));
      asks = (omega (arith, s.asks, w.least), most);
    })

pub returns-in_err-value-clause-exact : goal.returns-in_err-value-clause-exact
returns-in_err-value-clause-exact g c =
    let w = c.loop-needle.invariant in
    let x = get_or c.args.needles.now c.loop-needle.needle-index (record { key = record { ref_ptr = (0, 0); now = [] }; seqno = 0 }) in
    let r = err_from_is_err_and c.from_residual-in_err-value.result c.from_residual-in_err-value.ensures.1 in
    rw (r.1, r.2) (way_fails g.S.FrameSource.bytes g.S.FrameSource.failures g.S.FrameSource.reads g.S.FrameSource.is_reliable g.R.KeyReader.reader_of g.R.KeyReader.answer g.R.KeyReader.frames _ _ c.args.reader.now c.loop-needle.reader c.args.needles.now c.loop-needle.needle-index x c.loop-needle.found.items _ _ _ _ _ w.same w.answers (λ less. omega (arith, less, w.grow)) w.reliable c.loop-needle-test.true (get_or_any c.args.needles.now c.loop-needle.needle-index _ x c.loop-needle-test.true) w.values_are c.in_err-value.ensures.exact)

pub returns-in_err-push-clause-source : goal.returns-in_err-push-clause-source
returns-in_err-push-clause-source g c =
    let w = c.loop-needle.invariant in
    let e = c.in_ok-value.ensures in
    let s = e.source in
    let x = get_or c.args.needles.now c.loop-needle.needle-index (record { key = record { ref_ptr = (0, 0); now = [] }; seqno = 0 }) in
    let most = one_of_many g.S.FrameSource.bytes g.S.FrameSource.failures g.S.FrameSource.reads g.S.FrameSource.is_reliable g.R.KeyReader.reader_of g.R.KeyReader.answer g.R.KeyReader.frames c.args.source.now c.loop-needle.source c.read.new.source c.args.reader.now c.loop-needle.reader c.args.needles.now c.loop-needle.needle-index c.loop-needle.found.items x w c.loop-needle-test.true (get_or_any c.args.needles.now c.loop-needle.needle-index _ x c.loop-needle-test.true) e.few in
    let r = err_from_is_err_and c.from_residual-in_err-push.result c.from_residual-in_err-push.ensures.1 in
    rw (r.1, r.2) (record {
      same = s.same ∙ w.same;
      failures_grow = omega (arith, s.failures_grow, w.grow);
      kept = λ t. s.kept (w.reliable t);
      io = λ io. cc;
      asks = (omega (arith, s.asks, w.least), most);
    })

pub returns-in_err-push-clause-exact : goal.returns-in_err-push-clause-exact
returns-in_err-push-clause-exact g c =
    let r = err_from_is_err_and c.from_residual-in_err-push.result c.from_residual-in_err-push.ensures.1 in
    rw (r.1, r.2) (memory_fails _ _ _ _)

pub returns-clause-exact : goal.returns-clause-exact
returns-clause-exact g c =
    let w = c.loop-needle.invariant in
    way_done g.S.FrameSource.bytes g.S.FrameSource.failures g.S.FrameSource.reads g.S.FrameSource.is_reliable g.R.KeyReader.reader_of g.R.KeyReader.answer g.R.KeyReader.frames _ c.args.reader.now c.args.needles.now c.loop-needle.needle-index c.loop-needle.found.items c.loop-needle-test.false w.values_are
