use Rattle.std.proofs.Common.{List, ℕ, Some, sym, subst}
use Rattle.sstable_blocks.specs.Blocks.{joined}
use Rattle.sst_parts.proofs.Writing.Blocks.{last_key_behind}
use Rattle.sst_parts.specs.PartCopies.{IsLastKey, PartsSoFar, known_parts, known_so_far}
use Rattle.sst_parts.specs.PartWriting.{IsEndOf}
use Rattle.sst_parts.proofs.part_core.PartCore.last_end.Goals as goal

pub returns-in-Some-clause-last : goal.returns-in-Some-clause-last
returns-in-Some-clause-last g c =
    let i = c.self.inside in
    let n = c.in-Some.end.seqno in
    let known = joined (known_parts i.closed.parts) in
    let end = subst (IsEndOf i.run.blocks) c.in-Some.is c.self.invariant.current.end_is in
    subst (λ (v : PartsSoFar g.row.W.Denot). IsLastKey (joined (known_so_far v)) (Some (c.as_slice.result.now, n))) c.self.view_is
    (subst (λ (k : List ℕ). IsLastKey (joined (known_so_far {W = g.row.W.Denot} (record { config = i.closed.config; sizes = i.sizes; closed = i.closed.parts; current = i.run.blocks; start = i.closed.start; writer = i.run.writer }))) (Some (k, n))) (sym c.as_slice.ensures) (last_key_behind known i.run.blocks c.in-Some.end.key n end.1))
