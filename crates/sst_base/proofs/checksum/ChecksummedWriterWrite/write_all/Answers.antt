use Rattle.std.proofs.Common.{arith, ◌∙◌, sym, ap, take, ◌++◌}
use Rattle.sst_base.proofs.Framing.Passing.{appends_step, appends_kept, passed_step}
use Rattle.sst_base.proofs.checksum.ChecksummedWriterWrite.write_all.Goals as goal
use Rattle.sst_base.proofs.checksum.ChecksummedWriterWrite.write_all.Goals.{in-Ok, in-Err+else-ne}

pub loop-preserved : goal.loop-preserved
loop-preserved g c =
    let buf = c.args.buf.now in
    let known = g.W.Write.contents in
    let first = c.args.self.now in
    let before = c.loop.self in
    let now = c.write.new.self in
    elim c.match-write.branch [
      | in-Ok w ↦ record {
        within = grind arith;
        known = appends_step (known first.inner) (known before.inner) (known now.inner) buf c.loop.at w.in-Ok.n c.match-write.at w.at-is c.loop.invariant.known w.in-Ok.ensures.bytes;
        accepted = passed_step first.passed before.passed now.passed buf c.loop.at w.in-Ok.n c.match-write.at w.at-is c.loop.invariant.accepted w.in-Ok.ensures.accepted;
      }
      | in-Err+else-ne w ↦ record {
        within = grind arith;
        known = appends_kept (known first.inner) (known before.inner) (known now.inner) (take c.match-write.at buf) (rw w.at-is c.loop.invariant.known) w.in-Err.ensures.bytes;
        accepted = w.in-Err.ensures.refused ∙ c.loop.invariant.accepted ∙ ap (λ m. first.passed ++ take m buf) (sym w.at-is);
      }
    ]
