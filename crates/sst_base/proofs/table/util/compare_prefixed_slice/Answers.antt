use Rattle.std.proofs.Common.{arith}
use Rattle.sst_base.proofs.Strings.Joined.{needle_inside, prefix_equal, prefix_differs}
use Rattle.sst_base.proofs.table.util.compare_prefixed_slice.Goals as goal

pub returns-then-needle-prefix : goal.returns-then-needle-prefix
returns-then-needle-prefix c = needle_inside c.args.prefix.now c.args.suffix.now c.args.needle.now _ _ _ _ _ (omega arith) c.split_at.ensures.front c.split_at.ensures.back c.compare_bytes.ensures c.cmp.ensures c.then.ensures

pub returns-in-Equal : goal.returns-in-Equal
returns-in-Equal c = prefix_equal c.args.prefix.now c.args.suffix.now c.args.needle.now _ _ _ _ (omega arith) c.split_at-2.ensures.front c.split_at-2.ensures.back c.compare_bytes-2.ensures c.in-Equal.is c.compare_bytes-in-Equal.ensures

pub returns-in_default : goal.returns-in_default
returns-in_default c = prefix_differs c.args.prefix.now c.args.suffix.now c.args.needle.now _ _ (omega arith) c.split_at-2.ensures.front c.compare_bytes-2.ensures c.in_default.not-Equal
