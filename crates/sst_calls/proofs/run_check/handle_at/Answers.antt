use Rattle.std.proofs.Common.{rules, ◌∙◌, ◌<◌, ◌^◌, List, length, ap, subst, sym, arith}
use Rattle.std.specs.Option.{option_map}
use Rattle.std.specs.Prelude.{slice_get}
use Rattle.sstable_blocks.specs.BlockLaws.{handle_range}
use Rattle.sstable_blocks.specs.Opened.{payload_in}
use Rattle.sstable_blocks.specs.Prelude.{Handle, IsBytes, IsIndexBlock}
use Rattle.sstable_blocks.specs.RunLaws.{payload_fits}
use Rattle.sst_calls.proofs.Lists.CheckEnds.{index_read, items_same}
use Rattle.sst_calls.proofs.run_check.handle_at.Goals as goal

pub payload_at-requires : goal.payload_at-requires
payload_at-requires c =
    let small : IsBytes c.args.bytes.now = search rules in
    (index_read c.requires.0 c.args.bytes.now c.args.handles.now.index c.requires.1 small c.requires.2).0

pub new-index-requires-clause-fits : goal.new-index-requires-clause-fits
new-index-requires-clause-fits c =
    let h = c.args.handles.now.index in
    let size : h.size < 2 ^ 32 = search (arith, rules) in
    omega (arith, size, payload_fits c.args.bytes.now h, ap length c.payload_at.ensures)

pub new-index-requires-clause-encoding : goal.new-index-requires-clause-encoding
new-index-requires-clause-encoding c =
    let bytes = c.args.bytes.now in
    let h = c.args.handles.now.index in
    let small : IsBytes bytes = search rules in
    let size : h.size < 2 ^ 32 = search (arith, rules) in
    let read = index_read c.requires.0 bytes h c.requires.1 small c.requires.2 in
    let fits : length (payload_in bytes h) < 2 ^ 32 = omega (arith, size, payload_fits bytes h) in
    let block = (c.index_check_accepts_encodings.ensures (payload_in bytes h) c.requires.1 read.2 fits).0 read.1 in
    (c.requires.1, block.0, subst (λ p. IsIndexBlock p c.requires.1 block.0) (sym c.payload_at.ensures) block.1)

pub handle_at-requires : goal.handle_at-requires
handle_at-requires c =
    let bytes = c.args.bytes.now in
    let h = c.args.handles.now.index in
    let hs = c.requires.1 in
    let small : IsBytes bytes = search rules in
    let size : h.size < 2 ^ 32 = search (arith, rules) in
    let same = items_same c.index_check_accepts_encodings.ensures c.requires.0 bytes h hs c.payload_at.result.now c.new-index.result.items small size c.requires.2 c.payload_at.ensures (λ r block. (c.new-index.ensures.read hs r block).0) in
    omega (arith, c.requires.3, ap (λ (xs : List Handle). length xs) same)

pub returns : goal.returns
returns c = λ k hs read.
    (let bytes = c.args.bytes.now in
    let h = c.args.handles.now.index in
    let small : IsBytes bytes = search rules in
    let size : h.size < 2 ^ 32 = search (arith, rules) in
    let same = items_same c.index_check_accepts_encodings.ensures k bytes h hs c.payload_at.result.now c.new-index.result.items small size read c.payload_at.ensures (λ r block. (c.new-index.ensures.read hs r block).0) in
    c.handle_at.ensures.range ∙ ap (λ (xs : List Handle). option_map handle_range (slice_get xs c.args.block)) same)
