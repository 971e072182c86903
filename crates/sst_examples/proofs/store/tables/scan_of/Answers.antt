use Rattle.std.proofs.Common.{Some, ◌∙◌, ap, sym}
use Rattle.sst_examples.proofs.Stored.Listed.{known_has}
use Rattle.sst_examples.proofs.store.tables.scan_of.Goals as goal

pub trusted_scan-requires : goal.trusted_scan-requires
trusted_scan-requires c =
    let k = known_has c.args.table.now c.index-index.ensures.kept c.requires c.accepted_run_is_sound.ensures c.sound_is_scanned.ensures c.parted_is_known.ensures.parted in
    (k.items, k.has)

pub returns : goal.returns
returns c =
    let k = known_has c.args.table.now c.index-index.ensures.kept c.requires c.accepted_run_is_sound.ensures c.sound_is_scanned.ensures c.parted_is_known.ensures.parted in
    k.is ∙ ap Some (sym (c.trusted_scan.ensures k.items k.has))
