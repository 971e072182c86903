use Rattle.std.proofs.Common.{◌∙◌, inl, inr, refl, sym}
use Rattle.sst_merge.specs.SizeLaws.{some_first}
use Rattle.sst_merge.specs.TableLaws.{none_left}
use Rattle.sst_merge.specs.declared.writing.Sizes.{Sizes}
use Rattle.sstable_blocks.specs.Run.{Form}
use Rattle.sstable_blocks.specs.RunReading.{Hashes, hashes}
use Rattle.sst_calls.specs.Runs.{run_form}
use Rattle.sst_calls.proofs.Lists.Compacting.{cut_run, cut_short, table_layout, too_long}
use Rattle.sst_calls.proofs.Lists.Places.{some_frame}
use Rattle.sst_calls.proofs.compact.run_of.Goals as goal

pub returns-in-Err-clause-cause : goal.returns-in-Err-clause-cause
returns-in-Err-clause-cause g c = λ items known.
    (let f : Form = run_form (hashes g.H.BlockHash.hash64 g.H.BlockHash.hash128) c.args.config in
    elim c.too_long_or_memory.ensures [
      | inl memory ↦ inl memory
      | inr long ↦ inr (long.0, too_long f _ c.args.block_size c.args.kept items c.write_table-written.result c.in-Err.error c.write_table-written.ensures.cause c.in-Err.is long.1 c.requires.errors known)
    ])

pub returns-then-is_some-clause-cause : goal.returns-then-is_some-clause-cause
returns-then-is_some-clause-cause g c = λ items known.
    (let f : Form = run_form (hashes g.H.BlockHash.hash64 g.H.BlockHash.hash128) c.args.config in
    let sizes : Sizes = record { block = c.args.block_size; table = 18446744073709551615 } in
    let after = c.write_table-written.new.source in
    inr (
      refl,
      cut_short f sizes c.new-out.result.items c.in-Ok.written.1.items c.args.kept after c.in-Ok.written.0 c.in-Some.handles c.in-Ok.ensures.table c.in-Some.is items refl known
          (some_first (λ r. r.now) after.list c.peek.result c.peek.ensures.first (sym c.is_some.ensures ∙ c.if-is_some.true)),
    ))

pub returns-clause-run : goal.returns-clause-run
returns-clause-run g c = λ items known.
    (let f : Form = run_form (hashes g.H.BlockHash.hash64 g.H.BlockHash.hash128) c.args.config in
    let sizes : Sizes = record { block = c.args.block_size; table = 18446744073709551615 } in
    let after = c.write_table-written.new.source in
    cut_run f sizes c.new-out.result.items c.in-Ok.written.1.items c.args.kept after c.in-Ok.written.0 c.in-Some.handles c.in-Ok.ensures.table c.in-Some.is items c.new-out.ensures.items known
    (none_left (λ r. r.now) after.list c.peek.result c.peek.ensures.first (sym c.is_some.ensures ∙ c.if-is_some.false)))

pub returns-clause-filter : goal.returns-clause-filter
returns-clause-filter g c =
    let by : Hashes = hashes g.H.BlockHash.hash64 g.H.BlockHash.hash128 in
    let f : Form = run_form by c.args.config in
    let sizes : Sizes = record { block = c.args.block_size; table = 18446744073709551615 } in
    let bytes = c.in-Ok.written.1.items in
    let h = c.in-Some.handles in
    let t = table_layout f sizes c.new-out.result.items bytes c.args.kept c.write_table-written.new.source c.in-Ok.written.0 h c.in-Ok.ensures.table c.in-Some.is c.new-out.ensures.items in
    let o = c.sound_opens.ensures by t.0 bytes h (c.layout_is_sound.ensures f t.0 bytes h t.1) in
    some_frame bytes h.filter o.filter_range
