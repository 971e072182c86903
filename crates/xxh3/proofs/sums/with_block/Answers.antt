use Rattle.xxh3.proofs.Steps.{block_closes}
use Rattle.xxh3.proofs.sums.with_block.Goals as goal

pub returns-clause-value : goal.returns-clause-value
returns-clause-value c =
    block_closes c.args.secret.now c.args.start c.args.bytes.now c.args.at c.args.first c.requires.in_block c.with_run-sums.result c.with_stripe-last.result c.scrambled.result
    c.with_run-sums.ensures.value c.with_stripe-last.ensures.value c.scrambled.ensures.value
