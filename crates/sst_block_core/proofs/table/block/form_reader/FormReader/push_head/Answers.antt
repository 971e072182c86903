use Rattle.std.proofs.Common.{◌∙◌, ap}
use Rattle.sst_block_core.proofs.Heads.TablesAndLists.{if_last}
use Rattle.sst_block_core.proofs.table.block.form_reader.FormReader.push_head.Goals as goal
use Rattle.sst_base.specs.ReadingLaws.{some_value}

pub push-requires-clause-begins : goal.push-requires-clause-begins
push-requires-clause-begins g c =
    let f = some_value _ c.requires.head in
    let key = (c.key_range-seqno.ensures.key f.0.0 f.0.1 f.1).0 in
    let begins = (c.requires.next f.0.0 f.0.1 f.1).begins in
    let same = ap (λ r. r.payload) c.self.view_is ∙ c.key_range-seqno.ensures.payload in
    rw same (rw key begins)

pub push-requires-clause-order : goal.push-requires-clause-order
push-requires-clause-order g c =
    let f = some_value _ c.requires.head in
    let key = c.key_range-seqno.ensures.key f.0.0 f.0.1 f.1 in
    let same = ap (λ r. r.payload) c.self.view_is ∙ c.key_range-seqno.ensures.payload in
    if_last c.args.table.now.heads _ (λ last at. rw (same, key.0, key.1) ((c.requires.next f.0.0 f.0.1 f.1).order last at))
