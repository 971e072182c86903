use Rattle.std.proofs.Common.{◌≡◌, ◌∙◌, ◌<◌, length, arith, rules}
use Rattle.sst_block_core.proofs.Heads.TableSearches.{before_inside, all_before, none_before}
use Rattle.sst_block_core.proofs.table.block.heads.HeadTable.count.Goals as goal

pub returns-then-is_empty-clause-value : goal.returns-then-is_empty-clause-value
returns-then-is_empty-clause-value c =
    let within = before_inside c.args.payload.now c.args.bound.now.needle.now c.args.bound.now.from c.args.self.now c.requires in
    let none = rw c.if-is_empty.true at c.is_empty.ensures in
    let zero : length c.args.self.now.heads ≡ 0 = search rules in
    omega (arith, within, zero)

pub returns-in-Less-clause-value : goal.returns-in-Less-clause-value
returns-in-Less-clause-value c =
    let decides = rw c.in-Less.is at c.compare_prefix.ensures.decides in
    c.len.ensures ∙ all_before c.args.payload.now c.args.bound.now.needle.now c.args.bound.now.from c.args.self.now c.requires decides

pub returns-in-Greater-clause-value : goal.returns-in-Greater-clause-value
returns-in-Greater-clause-value c =
    let decides = rw c.in-Greater.is at c.compare_prefix.ensures.decides in
    let some : 0 < length c.args.self.now.heads = search rules in
    none_before c.args.payload.now c.args.bound.now.needle.now c.args.bound.now.from c.args.self.now c.requires decides some
