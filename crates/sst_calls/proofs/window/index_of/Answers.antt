use Rattle.std.proofs.Common.{sym, subst}
use Rattle.sstable_blocks.specs.Prelude.{IsIndexBlock}
use Rattle.sstable_blocks.specs.Opened.{index_in}
use Rattle.sst_calls.proofs.window.index_of.Goals as goal

pub payload_at-requires : goal.payload_at-requires
payload_at-requires c = (c.sound_opens.ensures c.requires.0 c.requires.1.0 c.args.bytes.now c.args.handles.now c.requires.1.1).index_range

pub new-requires-clause-encoding : goal.new-requires-clause-encoding
new-requires-clause-encoding c =
    let o = c.sound_opens.ensures c.requires.0 c.requires.1.0 c.args.bytes.now c.args.handles.now c.requires.1.1 in
    let items = index_in c.args.bytes.now c.args.handles.now.index in
    (items, o.index_interval, subst (λ p. IsIndexBlock p items o.index_interval) (sym c.payload_at.ensures) o.index_block)
