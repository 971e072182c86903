use Rattle.sst_calls.specs.Ranges.{key_given, keys_between}
use Rattle.sst_calls.specs.Windows.{blocks_in, count_before}
use Rattle.sst_calls.proofs.Lists.KeyPlaces.{window_of_range}
use Rattle.sst_calls.proofs.Lists.RunBlockLists.{blocks_stored}
use Rattle.sst_calls.proofs.run_range.window_in.Goals as goal

pub returns : goal.returns
returns c = λ k blocks sound.
    (let bytes = c.args.bytes.now in
    let h = c.args.handles.now in
    let keys = c.args.keys.now in
    let here = blocks_in bytes h in
    let first = c.first_of-first.ensures in
    let end = c.last_of-end.ensures in
    let same = blocks_stored k.hash64 blocks bytes h (c.sound_opens.ensures k blocks bytes h sound) in
    window_of_range blocks here (keys_between (key_given keys.has_from keys.from.now) (key_given keys.has_to keys.to.now)) c.window_between.result
    (count_before here c.first_of-first.result.block c.first_of-first.result.index) (count_before here c.last_of-end.result.block c.last_of-end.result.index)
    same sound.ordered (c.window_between.ensures.window here first.place end.place) (c.window_between.ensures.left here first.place end.place) first.before end.before)
