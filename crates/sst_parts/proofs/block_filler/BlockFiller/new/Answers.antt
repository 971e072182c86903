use Rattle.std.proofs.Common.{rules, ◌≡◌, [], List, sym, subst}
use Rattle.sstable_blocks.specs.Prelude.{Entry}
use Rattle.sstable_blocks.specs.RunReading.{hashes}
use Rattle.sst_parts.specs.PartMerges.{AddsEntries, with_block}
use Rattle.sst_parts.proofs.Merged.Held.{block_begun}
use Rattle.sst_parts.proofs.block_filler.BlockFiller.new.Goals as goal

pub returns-clause-added : goal.returns-clause-added
returns-clause-added g c =
    let h = hashes g.H.BlockHash.hash64 g.H.BlockHash.hash128 in
    let none : c.new.result.items ≡ [] = search rules in
    subst (λ (xs : List Entry). AddsEntries h c.args.copier (with_block c.args.copier xs) []) (sym none) (block_begun h c.args.copier)
