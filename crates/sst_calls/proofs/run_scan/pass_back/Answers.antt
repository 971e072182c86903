use Rattle.sst_calls.proofs.Lists.Passing.{back_passes, up_to_more}
use Rattle.sst_calls.proofs.run_scan.pass_back.Goals as goal

pub returns-clause-passes : goal.returns-clause-passes
returns-clause-passes c = λ blocks window at up.
    (let w = c.args.window.now in
    let r = c.list_back-window.ensures in
    back_passes c.args.bytes.now blocks c.args.below w c.args.part.now.block.items c.list_back-window.result c.args.places.now c.list_back-window.new.places c.args.count.now c.list_back-window.new.count
    window at r.range.1 c.requires.range.1 (up_to_more w.first_block w.first_index w.end_block c.args.from c.list_back-window.result r.range.0 up) r.lists)
