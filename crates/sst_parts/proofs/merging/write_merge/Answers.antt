use Rattle.sst_sources.specs.ErrorLaws.{gives_more}
use Rattle.std.proofs.Common.{inl, inr}
use Rattle.std.proofs.lemmas.Result.{err_from_is_err_and}
use Rattle.sstable_blocks.specs.RunReading.{hashes}
use Rattle.sst_parts.proofs.Merged.Held.{merges_none, same_on, same_self}
use Rattle.sst_parts.proofs.Merged.Faults.{fails_lesser}
use Rattle.sst_parts.proofs.Merged.Steps.{one_more, part_done}
use Rattle.sst_parts.proofs.merging.write_merge.Goals as goal

pub next-init : goal.next-init
next-init g c = record {
  merged = λ xs ys is at. (ys, at, merges_none (hashes g.H.BlockHash.hash64 g.H.BlockHash.hash128) c.args.filler c.args.newer.now.list ys xs is);
  same = same_self g.W.Output.never_fails c.args.filler;
  no_more = λ e met. met;
  part_no_more = λ e met. met;
}

pub next-preserved : goal.next-preserved
next-preserved g c =
    let h = hashes g.H.BlockHash.hash64 g.H.BlockHash.hash128 in
    let inv = c.next.invariant in
    let taken = rw c.in-Some.is at c.in_ok-entry.ensures.taken in
    record {
      merged = one_more h c.args.filler c.next.filler c.in_ok-filler.filler c.in-Some.entry c.args.newer.now.list c.next.newer.list c.take_lesser.new.newer.list c.args.part.now.list c.next.part.list c.take_lesser.new.part.list inv.merged (λ xs ys a b. taken.lesser xs ys a b) c.in_ok-filler.ensures.added;
      same = same_on g.W.Output.never_fails c.args.filler c.next.filler c.in_ok-filler.filler inv.same c.in_ok-filler.ensures.same;
      no_more = λ e met. inv.no_more e (c.in_ok-entry.ensures.no_more.0 e met);
      part_no_more = λ e met. inv.part_no_more e (c.in_ok-entry.ensures.no_more.1 e met);
    }

pub next-smaller : goal.next-smaller
next-smaller g c = let taken = rw c.in-Some.is at c.in_ok-entry.ensures.taken in taken.fewer

pub returns-in_default-clause-merged : goal.returns-in_default-clause-merged
returns-in_default-clause-merged g c = λ ys at.
    let taken = rw c.in_default.is at c.in_ok-entry.ensures.taken in
    part_done (hashes g.H.BlockHash.hash64 g.H.BlockHash.hash128) c.args.filler c.next.filler c.args.newer.now.list c.next.newer.list c.take_lesser.new.newer.list c.args.part.now.list c.next.part.list c.take_lesser.new.part.list c.next.invariant.merged (λ xs zs a b. taken.lesser xs zs a b) ys at

pub returns-in_err-entry-clause-cause : goal.returns-in_err-entry-clause-cause
returns-in_err-entry-clause-cause g c =
    let p = err_from_is_err_and c.from_residual.result c.from_residual.ensures.1 in
    let inv = c.next.invariant in
    rw (p.1, p.2) (λ ys at. elim c.in_err-entry.ensures.cause [
      | inl part ↦ inl (gives_more g.J.Source.may_fail c.args.part.now c.next.part c.in_err-entry.field-0.0 inv.part_no_more part)
      | inr newer ↦ inr (inl (gives_more g.I.Source.may_fail c.args.newer.now c.next.newer c.in_err-entry.field-0.0 inv.no_more newer))
    ])

pub returns-in_err-filler-clause-cause : goal.returns-in_err-filler-clause-cause
returns-in_err-filler-clause-cause g c =
    let p = err_from_is_err_and c.from_residual-in_err-filler.result c.from_residual-in_err-filler.ensures.1 in
    let inv = c.next.invariant in
    let taken = rw c.in-Some.is at c.in_ok-entry.ensures.taken in
    rw (p.1, p.2) (λ ys at. inr (fails_lesser g.W.Output.never_fails (hashes g.H.BlockHash.hash64 g.H.BlockHash.hash128) c.args.filler c.next.filler c.in_err-filler.field-0.0 inv.same g.I.Source.may_fail c.args.newer.now c.next.newer.list c.take_lesser.new.newer.list
    c.args.part.now.list c.next.part.list c.take_lesser.new.part.list c.in-Some.entry ys inv.merged at (λ xs ys a b. taken.lesser xs ys a b) c.in_err-filler.ensures.cause))

pub returns-in_default-clause-no_more : goal.returns-in_default-clause-no_more
returns-in_default-clause-no_more g c = λ e met. c.next.invariant.no_more e (c.in_ok-entry.ensures.no_more.0 e met)
