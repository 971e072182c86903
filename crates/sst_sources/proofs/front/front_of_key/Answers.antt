use Rattle.std.proofs.Common.{arith, ◌++◌, ◌∙◌}
use Rattle.sst_sources.proofs.FrontNumbers.{key_front_is, bytes_joined}
use Rattle.sst_sources.specs.FrontLaws.{number_decides}
use Rattle.sst_sources.proofs.front.front_of_key.Goals as goal

pub returns-clause-value : goal.returns-clause-value
returns-clause-value c = key_front_is (c.args.left.now ++ c.args.right.now) _ _ (c.from.ensures ∙ c.front_of_parts-high.ensures) (c.from-2.ensures ∙ c.front_behind-low.ensures)

pub returns-clause-bytes : goal.returns-clause-bytes
returns-clause-bytes c = bytes_joined c.args.left.now c.args.right.now (λ k. let h = c.type_inv.left k in omega arith) (λ k. let h = c.type_inv.right k in omega arith)

pub returns-clause-order : goal.returns-clause-order
returns-clause-order c =
    let bytes = bytes_joined c.args.left.now c.args.right.now (λ k. let h = c.type_inv.left k in omega arith) (λ k. let h = c.type_inv.right k in omega arith) in
    number_decides (c.args.left.now ++ c.args.right.now) _ bytes
    (key_front_is (c.args.left.now ++ c.args.right.now) _ _ (c.from.ensures ∙ c.front_of_parts-high.ensures) (c.from-2.ensures ∙ c.front_behind-low.ensures))
