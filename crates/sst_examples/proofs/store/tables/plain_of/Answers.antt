use Rattle.std.proofs.Common.{Some, map, ◌∙◌, ap, subst}
use Rattle.std.specs.Option.{option_map}
use Rattle.xxh3.specs.Xxh3.{xxh3_64, xxh3_128}
use Rattle.sstable_blocks.specs.Prelude.{plain}
use Rattle.sstable_blocks.specs.Run.{form}
use Rattle.sstable_blocks.specs.TableKinds.{run_kind}
use Rattle.sst_examples.specs.Tables.{IsWrittenAs}
use Rattle.sst_examples.proofs.Stored.Written.{run_written}
use Rattle.sst_examples.proofs.store.tables.plain_of.Goals as goal

pub returns : goal.returns
returns g c = λ items known.
    let f = form xxh3_64 xxh3_128 c.args.config in
    let h = c.in-Some.handles in
    let bytes = c.in-Some.bytes.items in
    let k = subst (λ o. IsWrittenAs (run_kind f) items (option_map (λ r. (r.0, r.1.items)) o)) c.in-Some.is (c.in_ok-written.ensures items known) in
    c.in_ok-open_table.ensures.plain k.0 (c.layout_is_sound.ensures f k.0 bytes h (run_written f bytes h k.0 k.1)) ∙ ap (λ xs. Some (map plain xs)) k.2
