use Rattle.std.proofs.Common.{◌≡◌, ◌∙◌, length, sym, ap, subst}
use Rattle.sstable_blocks.specs.Prelude.{DataRefParts, trailer_in}
use Rattle.sst_calls.proofs.block_view.BlockView.len.Goals as goal

pub new-requires : goal.new-requires
new-requires c =
    let b = c.self.invariant.1 in
    let e = b.1.encoding in
    (c.data_block_is_read.ensures b.0 c.self.inside.payload.now e.0 e.1 e.2 b.1.fits e.3).0.encoded.trailer

pub returns : goal.returns
returns c =
    let p = c.self.inside.payload.now in
    let b = c.self.invariant.1 in
    let e = b.1.encoding in
    let pass = (c.data_block_is_read.ensures b.0 p e.0 e.1 e.2 b.1.fits e.3).0.encoded in
    let count = (c.forms_stage_is_body.ensures p c.self.invariant.0 pass.trailer pass.parts pass.forms).2 in
    let P : DataRefParts → Type 0 = λ d. c.item_count.result ≡ length d.items in
    record { count = subst P c.self.view_is (c.item_count.ensures ∙ ap (λ q. (trailer_in q).item_count) c.new.ensures ∙ sym count) }
