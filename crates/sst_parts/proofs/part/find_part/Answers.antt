use Rattle.std.proofs.Common.{◌∙◌, ap}
use Rattle.std.specs.Option.{option_map}
use Rattle.sst_parts.proofs.Reading.Places.{end_fits}
use Rattle.sstable_blocks.specs.Lookup.{handle_for}
use Rattle.sstable_blocks.specs.Opened.{range_of}
use Rattle.sstable_blocks.specs.Prelude.{handles}
use Rattle.sst_parts.proofs.part.find_part.Goals as goal

pub returns-clause-end : goal.returns-clause-end
returns-clause-end c =
    end_fits _ _ _ _ _ _ c.as_slice-payload.ensures.encoded
    (c.find_in.ensures.found ∙ ap (λ b. option_map range_of (handle_for handles c.args.needle.now c.args.seqno b.items)) c.by_ref.ensures)
