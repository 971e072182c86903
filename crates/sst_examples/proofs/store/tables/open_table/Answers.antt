use Rattle.std.proofs.Common.{◌≡◌, Ok, Some, ◌∙◌, ap, subst, ℕ, List}
use Rattle.sstable_blocks.specs.Prelude.{IsBytes}
use Rattle.sst_examples.proofs.Stored.Listed.{parted_opened, plain_opened}
use Rattle.sst_parts.specs.AnyTables.{any_by_handles, kept_in, source_in}
use Rattle.sst_examples.specs.Tables.{table_hashes}
use Rattle.sst_examples.proofs.store.tables.open_table.Goals as goal

some_is : (xs ys : List ℕ) → Some xs ≡ Some ys → xs ≡ ys
some_is xs ys e = cc

pub returns-clause-plain : goal.returns-clause-plain
returns-clause-plain c = λ blocks sound.
    let t = c.in_ok-table.table in
    let made = ap (λ s. s.inner) c.new.ensures ∙ c.in_ok-bytes.ensures.ok in
    let same = some_is (source_in t).inner c.new.result.inner c.in_ok-table.ensures.source.same ∙ made in
    let opened = subst (λ bs. any_by_handles table_hashes bs c.args.handles ≡ Ok (kept_in t)) made c.in_ok-table.ensures.exact in
    plain_opened c.args.bytes.items c.args.handles (subst IsBytes c.in_ok-bytes.ensures.ok c.len-len.ensures.cells) t blocks opened (c.kind_is_told.ensures.plain table_hashes blocks c.args.bytes.items c.args.handles sound)
    c.index-index.ensures.kept same c.sound_table_is_known.ensures sound

pub returns-clause-parted : goal.returns-clause-parted
returns-clause-parted c = λ parts file.
    let t = c.in_ok-table.table in
    let made = ap (λ s. s.inner) c.new.ensures ∙ c.in_ok-bytes.ensures.ok in
    let same = some_is (source_in t).inner c.new.result.inner c.in_ok-table.ensures.source.same ∙ made in
    let opened = subst (λ bs. any_by_handles table_hashes bs c.args.handles ≡ Ok (kept_in t)) made c.in_ok-table.ensures.exact in
    parted_opened c.args.bytes.items c.args.handles (subst IsBytes c.in_ok-bytes.ensures.ok c.len-len.ensures.cells) t parts opened (c.kind_is_told.ensures.parted table_hashes parts c.args.bytes.items c.args.handles.index file.parted)
    c.index-index.ensures.kept same c.parted_is_known.ensures.known file.parted
