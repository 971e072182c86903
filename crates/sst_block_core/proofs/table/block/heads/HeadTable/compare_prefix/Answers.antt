use Rattle.std.proofs.Common.{arith}
use Rattle.sst_base.specs.OrderLaws.{slice_cmp-prefix}
use Rattle.sst_block_core.proofs.Heads.TableSearches.{shorter_decides, shorter_differs}
use Rattle.sst_block_core.proofs.table.block.heads.HeadTable.compare_prefix.Goals as goal

pub returns-then-needle-prefix-clause-decides : goal.returns-then-needle-prefix-clause-decides
returns-then-needle-prefix-clause-decides c = λ rest.
    let prefix = c.bytes_of-prefix.ensures in
    let short = rw prefix at c.if-needle-prefix.true in
    let compared = rw prefix at c.compare_bytes.ensures in
    rw (← c.self.view_is) (rw compared (shorter_decides _ c.args.needle.now rest short))

pub returns-then-needle-prefix-clause-equal : goal.returns-then-needle-prefix-clause-equal
returns-then-needle-prefix-clause-equal c = λ e.
    let prefix = c.bytes_of-prefix.ensures in
    let short = rw prefix at c.if-needle-prefix.true in
    let compared = rw prefix at c.compare_bytes.ensures in
    rw (← c.self.view_is) (shorter_differs _ c.args.needle.now short (rw compared at e))

pub returns-clause-decides : goal.returns-clause-decides
returns-clause-decides c = λ rest.
    let prefix = c.bytes_of-prefix.ensures in
    let long = rw prefix at c.if-needle-prefix.false in
    let front = rw prefix at c.split_at.ensures.front in
    let compared = rw (prefix, front) at c.compare_bytes-2.ensures in
    rw (← c.self.view_is) (rw compared (slice_cmp-prefix _ rest c.args.needle.now (omega (arith, long))))
