use Rattle.std.proofs.Common.{◌≡◌, ◌∙◌, sym, ap, Some}
use Rattle.std.proofs.lemmas.Option.{slice_get-get_or}
use Rattle.sst_block_core.proofs.Search.Cuts.{some_some}
use Rattle.sst_block_core.proofs.table.block.heads.HeadTable.compare_rest.Goals as goal

pub bytes_of-requires : goal.bytes_of-requires
bytes_of-requires c =
    let table = rw (← c.self.view_is) at c.requires.table in
    let inside = rw (← c.self.view_is) at c.requires.inside in
    let there = slice_get-get_or _ c.args.j c.index-head.result.now inside ∙ ap (λ h. Some h) (sym c.index-head.ensures) in
    (table.each_is c.args.j c.index-head.result.now there).range

pub behind_prefix-requires-clause-begins : goal.behind_prefix-requires-clause-begins
behind_prefix-requires-clause-begins c =
    let table = rw (← c.self.view_is) at c.requires.table in
    let inside = rw (← c.self.view_is) at c.requires.inside in
    let there = slice_get-get_or _ c.args.j c.index-head.result.now inside ∙ ap (λ h. Some h) (sym c.index-head.ensures) in
    rw (← c.self.view_is) (rw c.bytes_of.ensures (table.each_is c.args.j c.index-head.result.now there).begins)

pub returns : goal.returns
returns c = λ h at.
    let inside = rw (← c.self.view_is) at c.requires.inside in
    let here = rw (← c.self.view_is) at at in
    let there = slice_get-get_or _ c.args.j c.index-head.result.now inside ∙ ap (λ g. Some g) (sym c.index-head.ensures) in
    let same : c.index-head.result.now ≡ h = some_some (sym there ∙ here) in
    rw (← same) (rw (c.behind_prefix.ensures, c.bytes_of.ensures) at c.compare_bytes.ensures)
