use Rattle.std.proofs.Common.{subst}
use Rattle.sst_calls.specs.Ranges.{IsWindowOf, key_given, keys_between}
use Rattle.sst_calls.specs.Runs.{ForSomeRun}
use Rattle.sst_calls.proofs.run_range.write_range.Goals as goal

pub returns : goal.returns
returns c =
    let a = c.args in
    let range = keys_between (key_given a.has_from a.from.now) (key_given a.has_to a.to.now) in
    subst (λ h. ForSomeRun a.bytes.now h (λ blocks. IsWindowOf blocks range c.window_in.result)) c.run_handles.ensures c.window_in.ensures
