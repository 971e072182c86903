use Rattle.std.proofs.Common.{rules, arith, ◌≡◌, ◌∙◌}
use Rattle.std.specs.List.{fold}
use Rattle.sst_base.proofs.Hashes.Polynomials.{wrapped31, poly31_from_steps}
use Rattle.sst_base.proofs.hash.continued128.Goals as goal

pub returns : goal.returns
returns c =
    let steps : c.fold.result ≡ fold (wrapped31 128) c.args.so_far c.args.bytes.now = search rules in
    steps ∙ poly31_from_steps 128 c.args.so_far c.args.bytes.now (omega arith)
