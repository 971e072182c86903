use Rattle.std.proofs.Common.{arith}
use Rattle.sst_calls.proofs.Lists.Passing.{front_passes, up_to_less}
use Rattle.sst_calls.proofs.run_scan.pass_front.Goals as goal

pub returns-clause-passes : goal.returns-clause-passes
returns-clause-passes c = λ blocks window at up.
    (let w = c.args.window.now in
    let r = c.list_front-window.ensures in
    front_passes c.args.bytes.now blocks c.args.below w c.args.part.now.block.items c.list_front-window.result c.args.places.now c.list_front-window.new.places c.args.count.now c.list_front-window.new.count
    window at r.range.0 (omega (arith, r.range.1, c.requires.range.1)) (up_to_less w.first_block c.list_front-window.result c.args.to w.end_block w.end_index r.range.1 up) r.lists)
