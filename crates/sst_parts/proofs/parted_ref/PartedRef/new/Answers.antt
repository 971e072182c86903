use Rattle.std.proofs.Common.{List, Ok, ap, sym, ◌∙◌}
use Rattle.sstable_blocks.specs.Prelude.{Handle}
use Rattle.sstable_blocks.specs.RunReading.{hashes}
use Rattle.sst_parts.proofs.parted_ref.PartedRef.new.Goals as goal

pub index_over-requires-clause-range : goal.index_over-requires-clause-range
index_over-requires-clause-range g c =
    let s = c.requires in
    (c.parted_index_is_read.ensures (hashes g.H.BlockHash.hash64 g.H.BlockHash.hash128) s.0 c.args.bytes.now c.args.top.now g.met.H.BlockHash.hash128_fits s.1).range

pub index_over-requires-clause-index : goal.index_over-requires-clause-index
index_over-requires-clause-index g c =
    let s = c.requires in
    let i = c.parted_index_is_read.ensures (hashes g.H.BlockHash.hash64 g.H.BlockHash.hash128) s.0 c.args.bytes.now c.args.top.now g.met.H.BlockHash.hash128_fits s.1 in
    (i.items, i.interval, i.is_block)

pub returns-clause-tops : goal.returns-clause-tops
returns-clause-tops g c =
    let s = c.requires in
    let i = c.parted_index_is_read.ensures (hashes g.H.BlockHash.hash64 g.H.BlockHash.hash128) s.0 c.args.bytes.now c.args.top.now g.met.H.BlockHash.hash128_fits s.1 in
    i.read ∙ ap (λ (hs : List Handle). Ok hs) (sym (c.index_over.ensures.read i.items i.interval i.is_block).0)

pub invariant_of-result : goal.invariant_of-result
invariant_of-result g c =
    let s = c.requires in
    let i = c.parted_index_is_read.ensures (hashes g.H.BlockHash.hash64 g.H.BlockHash.hash128) s.0 c.args.bytes.now c.args.top.now g.met.H.BlockHash.hash128_fits s.1 in
    (s, i.read ∙ ap (λ (hs : List Handle). Ok hs) (sym (c.index_over.ensures.read i.items i.interval i.is_block).0))
