use Rattle.std.proofs.Common.{◌∙◌, List, ap, subst}
use Rattle.sstable_blocks.specs.Prelude.{Entry}
use Rattle.sstable_blocks.specs.Run.{block_frame, block_payload, IsFramed}
use Rattle.sstable_blocks.specs.RunReading.{hashes}
use Rattle.sst_calls.specs.Runs.{run_form}
use Rattle.sst_calls.proofs.Lists.RunHashes.{block_written}
use Rattle.sst_calls.proofs.run_write.write_block.Goals as goal

pub returns-in-Ok-frame_of : goal.returns-in-Ok-frame_of
returns-in-Ok-frame_of g c =
    let both = hashes g.H.BlockHash.hash64 g.H.BlockHash.hash128 in
    let config = c.args.config.now in
    let frame = c.deref.ensures.value ∙ c.in-Ok-frame_of.ensures.ok ∙ ap (λ (xs : List Entry). block_frame (run_form both config) xs) c.as_slice.ensures.value in
    let fits = subst (λ (xs : List Entry). IsFramed (block_payload (run_form both config) xs)) c.as_slice.ensures.value c.in-Ok-frame_of.ensures.fits in
    block_written both c.args.entries.now config c.deref.result.now c.args.out.now c.write_hashed.new.out c.args.out_len.now c.write_hashed.new.out_len c.args.hashes.now c.write_hashed.new.hashes c.in-Ok.items.items c.in-Ok.ensures.ok frame fits
    c.write_hashed.result c.write_hashed.ensures.written c.write_hashed.ensures.hashed
