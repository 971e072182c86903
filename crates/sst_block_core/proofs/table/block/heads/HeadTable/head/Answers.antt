use Rattle.std.proofs.Common.{◌≡◌, ◌∙◌, sym, ap, Some}
use Rattle.sst_block_core.specs.declared.table.block.heads.Head.{Head}
use Rattle.sst_block_core.specs.Heads.{key_in}
use Rattle.std.proofs.lemmas.Option.{slice_get-get_or}
use Rattle.sst_block_core.proofs.Search.Cuts.{some_some}
use Rattle.sst_block_core.proofs.table.block.heads.HeadTable.head.Goals as goal

pub bytes_of-requires : goal.bytes_of-requires
bytes_of-requires c =
    let table = rw (← c.self.view_is) at c.requires.table in
    let inside = rw (← c.self.view_is) at c.requires.inside in
    let there = slice_get-get_or _ c.args.j c.index.result.now inside ∙ ap (λ h. Some h) (sym c.index.ensures) in
    (table.each_is c.args.j c.index.result.now there).range

pub returns-clause-head : goal.returns-clause-head
returns-clause-head c = λ h at.
    let inside = rw (← c.self.view_is) at c.requires.inside in
    let here = rw (← c.self.view_is) at at in
    let there = slice_get-get_or _ c.args.j c.index.result.now inside ∙ ap (λ g. Some g) (sym c.index.ensures) in
    let same : c.index.result.now ≡ h = some_some (sym there ∙ here) in
    (c.bytes_of.ensures ∙ ap (key_in c.args.payload.now) same, ap (λ (g : Head). g.seqno) same)
