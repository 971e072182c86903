use Rattle.std.proofs.Common.{rules, arith, ◌≡◌, ◌∙◌}
use Rattle.std.specs.List.{fold}
use Rattle.sst_base.proofs.Hashes.Sums.{wrapped_sum, byte_sum_steps}
use Rattle.sst_base.proofs.hash.sum128_from.Goals as goal

pub returns : goal.returns
returns c =
    let steps : c.fold.result ≡ fold (wrapped_sum 128) c.args.so_far c.args.bytes.now = search rules in
    steps ∙ byte_sum_steps 128 c.args.so_far c.args.bytes.now (omega arith)
