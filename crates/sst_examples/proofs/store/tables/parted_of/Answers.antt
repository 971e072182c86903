use Rattle.std.proofs.Common.{Some, map, ◌++◌, ◌∙◌, ap, subst}
use Rattle.std.specs.Option.{option_map}
use Rattle.xxh3.specs.Xxh3.{xxh3_64, xxh3_128}
use Rattle.sst_parts.specs.PartKinds.{parted_kind}
use Rattle.sstable_blocks.specs.Prelude.{plain}
use Rattle.sstable_blocks.specs.Run.{form}
use Rattle.sst_examples.specs.Tables.{IsWrittenAs}
use Rattle.sst_examples.proofs.Stored.Written.{file_written}
use Rattle.sst_examples.proofs.store.tables.parted_of.Goals as goal

pub returns : goal.returns
returns g c = λ items known.
    let f = form xxh3_64 xxh3_128 c.args.form.config in
    let h = c.in-Some.handles in
    let bytes = c.in-Some.bytes.items in
    let whole = c.extend_from_slice.new.self.items in
    let k = subst (λ o. IsWrittenAs (parted_kind f c.args.form.sizes) items (option_map (λ r. (r.0, r.1.items)) o)) c.in-Some.is (c.in_ok-written.ensures items known) in
    let file = file_written f c.args.form.sizes bytes whole h items k (c.in_ok-extend_from_slice.ensures.items ∙ ap (λ xs. bytes ++ xs) c.encode_footer.ensures) in
    c.in_ok-open_table.ensures.parted file.parts (c.parted_layout_is_parted.ensures f file.parts whole h.index file.layout) ∙ ap (λ xs. Some (map plain xs)) file.is
