use Rattle.std.proofs.Common.{◌≡◌, List, IfSome, ap, subst, ◌∙◌, arith}
use Rattle.sstable_blocks.specs.Lookup.{place_for}
use Rattle.sstable_blocks.specs.Opened.{index_in, payload_in}
use Rattle.sstable_blocks.specs.Prelude.{Handle, handles}
use Rattle.sstable_blocks.specs.declared.run.RunHandles.{RunHandles}
use Rattle.sst_calls.proofs.Lists.Fronts.{table_of}
use Rattle.sst_calls.proofs.open_run.place_of.Goals as goal

pub place_by-requires : goal.place_by-requires
place_by-requires c =
    let items = c.index_of-index.ensures.items ∙ ap (λ (h : RunHandles). index_in c.args.bytes.now h.index) c.requires.frames in
    let payload = c.as_slice.ensures.value ∙ c.index_of-index.ensures.payload ∙ ap (λ (h : RunHandles). payload_in c.args.bytes.now h.index) c.requires.frames in
    (c.index_of-index.result.items, c.as_slice.ensures.encoded.block.ordered, table_of c.args.bytes.now c.as_slice.result.now c.args.run.now c.args.numbers.now _ c.requires.table (λ none. omega (arith, none, c.requires.some)) payload items)

pub returns : goal.returns
returns c = λ seqno.
    let items = c.index_of-index.ensures.items ∙ ap (λ (h : RunHandles). index_in c.args.bytes.now h.index) c.requires.frames in
    let payload = c.as_slice.ensures.value ∙ c.index_of-index.ensures.payload ∙ ap (λ (h : RunHandles). payload_in c.args.bytes.now h.index) c.requires.frames in
    let are = table_of c.args.bytes.now c.as_slice.result.now c.args.run.now c.args.numbers.now _ c.requires.table (λ none. omega (arith, none, c.requires.some)) payload items in
    subst (λ (xs : List Handle). IfSome c.place_by.result (λ n. n ≡ place_for handles c.args.key.now seqno xs)) c.index_of-index.ensures.items (c.place_by.ensures c.index_of-index.result.items seqno c.as_slice.ensures.encoded.block.ordered are)
