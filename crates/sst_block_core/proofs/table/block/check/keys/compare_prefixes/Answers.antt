use Rattle.std.proofs.Common.{sym, ap, take, drop}
use Rattle.sst_base.specs.KeyOrderLaws.{slice_cmp-equal}
use Rattle.sst_block_core.proofs.table.block.check.keys.compare_prefixes.Goals as goal

pub returns-then-a-b : goal.returns-then-a-b
returns-then-a-b c = sym ((slice_cmp-equal _ _).1 (ap (λ k. take c.args.len (drop k c.args.payload.now)) c.if-a-b.true))
