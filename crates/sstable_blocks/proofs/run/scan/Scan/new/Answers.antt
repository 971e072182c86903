use Rattle.std.proofs.Common.{rules, ap, ◌∙◌, refl, []}
use Rattle.std.specs.Range.Bound.{bound_map}
use Rattle.sst_block_core.specs.Handles.{Handle}
use Rattle.sst_block_core.specs.IndexBlock.{IndexRefParts}
use Rattle.std.proofs.Common.{List}
use Rattle.sstable_blocks.specs.RunReading.{hashes}
use Rattle.sstable_blocks.specs.Scans.{KeyRange, handles_within, first_block, end_block}
use Rattle.sstable_blocks.proofs.Scans.ScanSteps.{fresh_reads}
use Rattle.sstable_blocks.proofs.run.scan.Scan.new.Goals as goal

pub returns : goal.returns
unfolding handles_within
returns g c =
    let h = hashes g.H.BlockHash.hash64 g.H.BlockHash.hash128 in
    let r : KeyRange = record { from = bound_map (λ k. k.now) c.args.from; to = bound_map (λ k. k.now) c.args.to } in
    let same = ap (λ (b : IndexRefParts). b.items) (c.new-index.ensures ∙ c.by_ref.ensures) ∙ c.index-index.ensures.items in
    record {
      table = refl;
      range = refl;
      handles = search rules;
      fresh = (refl, refl, refl);
      counts = search rules;
      sound = fresh_reads h r c.args.table.index c.args.table.handles _ [] [] _ _ refl refl
          (c.first_block.ensures.value ∙ ap (λ (hs : List Handle). first_block r hs) same)
          (c.end_block.ensures.value ∙ ap (λ (hs : List Handle). end_block r hs) same)
          c.index-index.ensures.kept
          (λ all blocks sound at. c.sound_is_scanned.ensures h blocks all c.args.table.handles r c.args.table.index g.met.H.BlockHash.hash128_fits sound at);
    }
