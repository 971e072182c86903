use Rattle.std.proofs.Common.{◌≡◌, Ok, Err, Result, sym, ap, ◌∙◌}
use Rattle.sstable_blocks.specs.Results.{Error}
use Rattle.sst_parts.proofs.Writing.Footers.{footer_at, footer_some}
use Rattle.sstable_blocks.specs.Footer.{footer_handles}
use Rattle.sstable_blocks.specs.declared.run.RunHandles.{RunHandles}
use Rattle.sst_parts.proofs.parted_ref.places_of.Goals as goal

pub overflow_sub-file : goal.overflow_sub-file
overflow_sub-file c = footer_some c.args.file.now c.requires.0 c.requires.1

pub unreachable-requires : goal.unreachable-requires
unreachable-requires c =
    let read = footer_at c.args.file.now ∙ ap footer_handles (sym c.split_at.ensures.back) ∙ sym c.decode_footer.ensures ∙ c.in-Err.is in
    let wrong : ◌≡◌ {A = Result RunHandles Error} (Ok c.requires.0) (Err c.in-Err.field-0) = sym c.requires.1 ∙ read in
    cc

pub returns : goal.returns
returns c = footer_at c.args.file.now ∙ ap footer_handles (sym c.split_at.ensures.back) ∙ sym c.decode_footer.ensures ∙ c.in-Ok.is
