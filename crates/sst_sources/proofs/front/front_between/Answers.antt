use Rattle.std.proofs.Common.{◌++◌, arith, drop}
use Rattle.sstable_blocks.specs.BlockLaws.{IsBytes-drop}
use Rattle.sst_sources.proofs.FrontNumbers.{bytes_joined, front_of_both, front_small}
use Rattle.sst_sources.proofs.front.front_between.Goals as goal

pub returns : goal.returns
returns c = front_of_both c.args.left.now c.args.right.now _ _ (λ k. let h = c.type_inv.right k in omega arith) c.requires.long c.requires.short c.front_of_last.ensures c.front_of.ensures

pub overflow_add-result : goal.overflow_add-result
overflow_add-result c =
    let e = front_of_both c.args.left.now c.args.right.now _ _ (λ k. let h = c.type_inv.right k in omega arith) c.requires.long c.requires.short c.front_of_last.ensures c.front_of.ensures in
    let s = front_small (drop 8 (c.args.left.now ++ c.args.right.now)) (IsBytes-drop 8 (c.args.left.now ++ c.args.right.now) (bytes_joined c.args.left.now c.args.right.now (λ k. let h = c.type_inv.left k in omega arith) (λ k. let h = c.type_inv.right k in omega arith))) in
    omega (arith, e, s)
