use Rattle.std.proofs.Common.{ℕ, List, sym, subst, IfSome}
use Rattle.sst_block_core.specs.Handles.{IsIndexBlock}
use Rattle.sstable_blocks.specs.Opened.{IsFrameRange, IsDenied, index_in, payload_in}
use Rattle.sstable_blocks.specs.RunReading.{hashes}
use Rattle.sstable_blocks.specs.PointLaws.{found_denied}
use Rattle.sstable_blocks.proofs.run.read.read_entry.Goals as goal

pub is_allowed-requires : goal.is_allowed-requires
is_allowed-requires g c =
    let s = c.requires.sound in
    let o = c.sound_opens.ensures (hashes g.H.BlockHash.hash64 g.H.BlockHash.hash128) s.0 _ _ s.1 in
    subst (λ xs. IfSome c.args.handles.now.filter (IsFrameRange xs)) (sym c.as_slice-data.ensures) o.filter_range

pub returns-then-not-is_allowed-clause-found : goal.returns-then-not-is_allowed-clause-found
returns-then-not-is_allowed-clause-found g c = λ blocks sound.
    let o = c.sound_opens.ensures (hashes g.H.BlockHash.hash64 g.H.BlockHash.hash128) blocks _ _ sound in
    let denied = subst (λ xs. IsDenied xs c.args.handles.now.filter c.hash64.result) c.as_slice-data.ensures (c.is_allowed.ensures.0 c.if-not-is_allowed.true) in
    found_denied _ _ _ _ c.args.needle.now c.args.seqno o _ c.hash64.ensures denied

pub index_over-requires-clause-range : goal.index_over-requires-clause-range
index_over-requires-clause-range g c =
    let s = c.requires.sound in
    let o = c.sound_opens.ensures (hashes g.H.BlockHash.hash64 g.H.BlockHash.hash128) s.0 _ _ s.1 in
    subst (λ xs. IsFrameRange xs c.args.handles.now.index) (sym c.as_slice-data.ensures) o.index_range

pub index_over-requires-clause-index : goal.index_over-requires-clause-index
index_over-requires-clause-index g c =
    let s = c.requires.sound in
    let o = c.sound_opens.ensures (hashes g.H.BlockHash.hash64 g.H.BlockHash.hash128) s.0 _ _ s.1 in
    let at = c.args.handles.now.index in
    let hs = index_in c.args.bytes.now at in
    (hs, o.index_interval, subst (λ (xs : List ℕ). IsIndexBlock (payload_in xs at) hs o.index_interval) (sym c.as_slice-data.ensures) o.index_block)
