use Rattle.std.proofs.Common.{◌≡◌, ◌+◌, min, length, arith}
use Rattle.sst_parts.proofs.Scanning.Reaching.{handles_between}
use Rattle.sst_parts.proofs.part_range.parts_within.Goals as goal

pub returns-then-last-len-clause-handles : goal.returns-then-last-len-clause-handles
returns-then-last-len-clause-handles c =
    let hs = c.args.index.now.items in
    let last = c.parts_up_to-last.result in
    let at : last + 1 ≡ min (length hs) (last + 1) = omega arith in
    handles_between _ hs c.parts_before-lo.result (last + 1) last c.parts_before-lo.ensures.value c.parts_up_to-last.ensures.value at

pub returns-else-last-len-clause-handles : goal.returns-else-last-len-clause-handles
returns-else-last-len-clause-handles c =
    let hs = c.args.index.now.items in
    let last = c.parts_up_to-last.result in
    let at : c.len-len.result ≡ min (length hs) (last + 1) = omega arith in
    handles_between _ hs c.parts_before-lo.result c.len-len.result last c.parts_before-lo.ensures.value c.parts_up_to-last.ensures.value at
