use Rattle.std.proofs.Common.{sym, ◌∙◌, ap, ◌+◌, slice_range, length, arith}
use Rattle.bytes.proofs.Ranges.{slice_range-slice_range}
use Rattle.sst_base.specs.BytesLaws.{length_part}
use Rattle.sst_base.proofs.slice.shared.SharedBytes.part.Goals as goal

pub returns-in-Ok : goal.returns-in-Ok
returns-in-Ok c =
    let s = c.self.inside in
    let xs = s.owner.value in
    let len = length_part xs s.start s.end c.self.invariant.1 in
    ap (λ v. slice_range v (s.start + c.args.start) (s.start + c.args.end)) c.in-Ok.ensures.cases ∙ sym (slice_range-slice_range xs s.start s.end c.args.start c.args.end c.requires.order
    (omega (arith, c.requires.inside, len, ap length c.self.view_is, c.self.invariant.0)))
    ∙ ap (λ ys. slice_range ys c.args.start c.args.end) c.self.view_is
