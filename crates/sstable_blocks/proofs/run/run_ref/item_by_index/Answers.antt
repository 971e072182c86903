use Rattle.std.proofs.Common.{ap, ◌∙◌, ◌≡◌, List}
use Rattle.std.specs.Option.{option_map}
use Rattle.sst_block_core.specs.Handles.{Handle, handles}
use Rattle.sstable_blocks.specs.Lookup.{handle_for}
use Rattle.sstable_blocks.specs.Opened.{range_of}
use Rattle.sstable_blocks.specs.ReadCosts.{handle_in}
use Rattle.sstable_blocks.specs.RunReading.{hashes}
use Rattle.sstable_blocks.specs.PointLaws.{chosen, found_none, found_some}
use Rattle.sstable_blocks.proofs.run.run_ref.item_by_index.Goals as goal

pub item_in-requires-clause-range : goal.item_in-requires-clause-range
item_in-requires-clause-range g c =
    let s = c.requires.sound in
    let o = c.sound_opens.ensures (hashes g.H.BlockHash.hash64 g.H.BlockHash.hash128) s.0 _ _ s.1 in
    let at : c.find.result ≡ option_map range_of (handle_in c.args.bytes.now c.args.handles.now c.args.needle.now c.args.seqno) = c.find.ensures.found ∙ ap (λ (hs : List Handle). option_map range_of (handle_for handles c.args.needle.now c.args.seqno hs)) c.requires.index.index_is in
    (chosen _ _ _ _ c.args.needle.now c.args.seqno o _ _ at c.in-Some.is).2.range

pub item_in-requires-clause-block : goal.item_in-requires-clause-block
item_in-requires-clause-block g c =
    let s = c.requires.sound in
    let o = c.sound_opens.ensures (hashes g.H.BlockHash.hash64 g.H.BlockHash.hash128) s.0 _ _ s.1 in
    let at : c.find.result ≡ option_map range_of (handle_in c.args.bytes.now c.args.handles.now c.args.needle.now c.args.seqno) = c.find.ensures.found ∙ ap (λ (hs : List Handle). option_map range_of (handle_for handles c.args.needle.now c.args.seqno hs)) c.requires.index.index_is in
    let b = chosen _ _ _ _ c.args.needle.now c.args.seqno o _ _ at c.in-Some.is in
    (b.0, b.2.interval, b.2.buckets, b.2.is_block)

pub returns-in-None-clause-found : goal.returns-in-None-clause-found
returns-in-None-clause-found g c = λ blocks sound.
    let o = c.sound_opens.ensures (hashes g.H.BlockHash.hash64 g.H.BlockHash.hash128) blocks _ _ sound in
    let at : c.find.result ≡ option_map range_of (handle_in c.args.bytes.now c.args.handles.now c.args.needle.now c.args.seqno) = c.find.ensures.found ∙ ap (λ (hs : List Handle). option_map range_of (handle_for handles c.args.needle.now c.args.seqno hs)) c.requires.index.index_is in
    found_none _ _ _ _ c.args.needle.now c.args.seqno o _ at c.in-None.is

pub returns-in-Some-clause-found : goal.returns-in-Some-clause-found
returns-in-Some-clause-found g c = λ blocks sound.
    let o = c.sound_opens.ensures (hashes g.H.BlockHash.hash64 g.H.BlockHash.hash128) blocks _ _ sound in
    let at : c.find.result ≡ option_map range_of (handle_in c.args.bytes.now c.args.handles.now c.args.needle.now c.args.seqno) = c.find.ensures.found ∙ ap (λ (hs : List Handle). option_map range_of (handle_for handles c.args.needle.now c.args.seqno hs)) c.requires.index.index_is in
    rw (found_some _ _ _ _ c.args.needle.now c.args.seqno o _ _ at c.in-Some.is) at c.item_in.ensures.found
