use Rattle.std.proofs.Common.{◌∙◌, ap, nat_lt}
use Rattle.sst_calls.specs.Hashing.{hash_given}
use Rattle.sst_calls.specs.Ranges.{key_given, keys_between}
use Rattle.sst_calls.specs.Runs.{config_given}
use Rattle.sst_calls.proofs.Lists.Compacting.{said_of_blocks}
use Rattle.sst_calls.proofs.compact.compact_runs.Goals as goal

pub returns : goal.returns
returns c =
    let a = c.args in
    let range = keys_between (key_given a.has_from a.from.now) (key_given a.has_to a.to.now) in
    said_of_blocks c.config_of.result a.block_size range a.snapshots.now (nat_lt 0 a.is_bottom) a.runs.now a.out.now c.compact_by.new.out a.out_len.now c.compact_by.new.out_len a.handles.now c.compact_by.new.handles c.compact_by.result _ c.sound_opens.ensures
    c.of_number.result (hash_given a.config.now.hash) (config_given a.config.now) (c.of_number.ensures ∙ ap hash_given c.from.ensures) c.config_of.ensures c.compact_by.ensures
