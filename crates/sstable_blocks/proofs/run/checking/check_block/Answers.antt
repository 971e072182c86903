use Rattle.std.proofs.Common.{◌≡◌, List, arith}
use Rattle.std.proofs.lemmas.Result.{err_from_is_err_and}
use Rattle.sst_base.specs.Entry.{Entry}
use Rattle.sstable_blocks.specs.RunChecks.{check_block, check_items}
use Rattle.sstable_blocks.specs.RunReading.{block_items_at, hashes}
use Rattle.sstable_blocks.specs.WalkLaws.{reads_fail, reads_on}
use Rattle.sstable_blocks.proofs.Checks.RunCheckSteps.{block_is}
use Rattle.sstable_blocks.proofs.run.checking.check_block.Goals as goal

pub returns-in_err-block-clause-exact : goal.returns-in_err-block-clause-exact
returns-in_err-block-clause-exact g c =
    let k = hashes g.H.BlockHash.hash64 g.H.BlockHash.hash128 in
    let at : c.args.handle.offset ≡ c.args.passed.offset = omega arith in
    let r = err_from_is_err_and c.from_residual.result c.from_residual.ensures.1 in
    rw (r.1, r.2) (reads_fail {X = List Entry} (λ xs. xs) (check_items k.hash64 c.args.filter.now c.args.passed c.args.handle) (λ all. block_items_at k all c.as_ref.result.now) (λ all. check_block k all c.args.filter.now c.args.passed c.args.handle)
    (block_is k c.args.filter.now c.args.passed c.args.handle c.as_ref.result.now at c.as_ref.ensures) _ _ _ _ c.in_err-block.ensures.exact)

pub returns-clause-exact : goal.returns-clause-exact
returns-clause-exact g c =
    let k = hashes g.H.BlockHash.hash64 g.H.BlockHash.hash128 in
    let at : c.args.handle.offset ≡ c.args.passed.offset = omega arith in
    reads_on {X = List Entry} (λ xs. xs) (check_items k.hash64 c.args.filter.now c.args.passed c.args.handle) (λ all. block_items_at k all c.as_ref.result.now) (λ all. check_block k all c.args.filter.now c.args.passed c.args.handle)
    (block_is k c.args.filter.now c.args.passed c.args.handle c.as_ref.result.now at c.as_ref.ensures) _ _ _ _ _ _ c.in_ok-block.ensures.exact c.check_items.ensures.exact
