use Rattle.std.proofs.Common.{◌≡◌, ◌∙◌, ◌++◌, ap, sym, subst, map-id, IfOk}
use Rattle.sst_block_core.specs.Entries.{entries}
use Rattle.sst_block_core.specs.Window.{first_match}
use Rattle.sstable_blocks.specs.Blocks.{blocks_of}
use Rattle.sstable_blocks.specs.RunReading.{hashes}
use Rattle.sstable_blocks.specs.Sound.{IsSound}
use Rattle.sstable_blocks.proofs.run.round_trip.write_and_read.Goals as goal

pub returns-clause-found : goal.returns-clause-found
returns-clause-found g c =
    let s = c.in_ok-handles.ensures.sound in
    let blocks = blocks_of c.args.cuts.now c.args.items.now in
    let text : c.in_ok-bytes.bytes ≡ s.0 = c.in_ok-bytes.ensures.ok ∙ s.2 ∙ ap (λ xs. xs ++ s.0) c.new-bytes.ensures.items in
    let written = subst (λ items. IsSound (hashes g.H.BlockHash.hash64 g.H.BlockHash.hash128) (blocks_of c.args.cuts.now items) s.0 c.in_ok-handles.handles) (map-id c.args.items.now) s.1 in
    let sound = subst (λ xs. IsSound (hashes g.H.BlockHash.hash64 g.H.BlockHash.hash128) blocks xs c.in_ok-handles.handles) (sym text) written in
    subst (λ xs. IfOk c.read_entry.result (λ found. found ≡ first_match entries c.args.needle.now c.args.seqno xs)) (c.blocks_are_the_list.ensures c.args.items.now c.args.cuts.now c.requires.some c.requires.cuts).0 (c.read_entry.ensures.found blocks sound)
