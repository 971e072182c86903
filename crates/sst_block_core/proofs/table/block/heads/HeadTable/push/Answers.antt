use Rattle.std.proofs.Common.{refl, ◌∙◌, ◌/◌, ap}
use Rattle.sst_block_core.specs.Heads.{head_of, front}
use Rattle.sst_block_core.proofs.Heads.TableSearches.{table_more}
use Rattle.sst_block_core.proofs.table.block.heads.HeadTable.push.Goals as goal

pub returns-clause-table : goal.returns-clause-table
returns-clause-table c =
    let table = rw (← c.self.view_is) at c.requires.table in
    let begins = rw (← c.self.view_is) at c.requires.begins in
    let order = rw (← c.self.view_is) at c.requires.order in
    let prefix = rw (← c.self.view_is) at c.behind_prefix.ensures in
    table_more c.args.payload.now _ _ (head_of c.args.offset c.args.seqno c.args.key) _ table c.in-Ok.ensures.items c.in-Ok-pushed.ensures.items refl
    (record { range = c.requires.range; begins = begins; front_is = ap (λ n. n / 2) (c.front_of-number.ensures ∙ ap front (rw c.bytes_of.ensures at prefix)) }) order
