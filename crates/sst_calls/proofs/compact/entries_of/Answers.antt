use Rattle.std.proofs.Common.{◌∙◌, subst, sym}
use Rattle.sst_calls.specs.Ranges.{key_given, keys_between}
use Rattle.sst_calls.specs.Runs.{IsSomeRun}
use Rattle.sst_calls.proofs.Lists.Compacting.{entries_by_window}
use Rattle.sst_calls.proofs.compact.entries_of.Goals as goal

pub new-requires-clause-window : goal.new-requires-clause-window
new-requires-clause-window c =
    let keys = c.args.keys.now in
    let range = keys_between (key_given keys.has_from keys.from.now) (key_given keys.has_to keys.to.now) in
    (entries_by_window c.args.run.now range c.window_in-window.result c.run_handles-handles.result c.run_handles-handles.ensures (subst (λ h. IsSomeRun c.args.run.now.bytes.now h) (sym c.run_handles-handles.ensures) c.requires) c.sound_opens.ensures c.window_in-window.ensures).window

pub returns : goal.returns
returns c =
    let keys = c.args.keys.now in
    let range = keys_between (key_given keys.has_from keys.from.now) (key_given keys.has_to keys.to.now) in
    c.new.ensures ∙ (entries_by_window c.args.run.now range c.window_in-window.result c.run_handles-handles.result c.run_handles-handles.ensures (subst (λ h. IsSomeRun c.args.run.now.bytes.now h) (sym c.run_handles-handles.ensures) c.requires) c.sound_opens.ensures c.window_in-window.ensures).is
