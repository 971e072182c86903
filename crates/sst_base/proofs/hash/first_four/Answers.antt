use Rattle.std.proofs.Common.{arith, ◌∙◌}
use Rattle.sst_base.proofs.Hashes.Fours.{four_first}
use Rattle.sst_base.proofs.hash.first_four.Goals as goal

pub returns : goal.returns
returns c =
    four_first c.args.bytes.now _ _ (λ i. let h = c.type_inv.bytes i in omega arith) c.requires (c.from.ensures ∙ c.read_u32.ensures) c.word_hash.ensures
