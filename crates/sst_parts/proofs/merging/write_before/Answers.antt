use Rattle.sst_sources.specs.ErrorLaws.{gives_more}
use Rattle.std.proofs.Common.{inl, sym, subst, ◌∙◌}
use Rattle.std.proofs.lemmas.Result.{err_from_is_err_and}
use Rattle.sstable_blocks.specs.RunReading.{hashes}
use Rattle.sst_parts.specs.PartMerges.{Merges}
use Rattle.sst_parts.proofs.Merged.Held.{merges_both, merges_none, same_on, same_self}
use Rattle.sst_parts.proofs.Merged.Faults.{fails_before}
use Rattle.sst_parts.proofs.Merged.Steps.{newer_taken}
use Rattle.sst_parts.proofs.merging.write_before.Goals as goal

pub next-init : goal.next-init
next-init g c = record {
  merged = λ ys is. merges_none (hashes g.H.BlockHash.hash64 g.H.BlockHash.hash128) c.args.filler c.args.newer.now.list ys;
  same = same_self g.W.Output.never_fails c.args.filler;
  no_more = λ e met. met;
}

pub next-preserved : goal.next-preserved
next-preserved g c =
    let h = hashes g.H.BlockHash.hash64 g.H.BlockHash.hash128 in
    let inv = c.next.invariant in
    let before = c.next.newer.list in
    let now = c.take.new.self.list in
    let first = rw c.in-Some.is at c.in_ok-entry.ensures.first in
    record {
      merged = λ ys is. merges_both h c.args.filler c.next.filler c.in_ok-filler.filler c.args.newer.now.list before now ys ys ys (inv.merged ys is)
          (newer_taken h c.next.filler c.in_ok-filler.filler c.in-Some.entry before now ys (λ xs known. sym (c.is_first.ensures xs ys known is) ∙ c.next-test.true) first.0 c.in_ok-filler.ensures.added);
      same = same_on g.W.Output.never_fails c.args.filler c.next.filler c.in_ok-filler.filler inv.same c.in_ok-filler.ensures.same;
      no_more = λ e met. inv.no_more e (c.in_ok-entry.ensures.no_more e met);
    }

pub returns-in_default-clause-merged : goal.returns-in_default-clause-merged
returns-in_default-clause-merged g c = λ ys is.
    let first = rw c.in_default.is at c.in_ok-entry.ensures.first in
    subst (λ o. Merges (hashes g.H.BlockHash.hash64 g.H.BlockHash.hash128) c.args.filler c.next.filler c.args.newer.now.list o ys ys) (sym first.0) (c.next.invariant.merged ys is)

pub returns-in_err-entry-clause-cause : goal.returns-in_err-entry-clause-cause
returns-in_err-entry-clause-cause g c =
    let p = err_from_is_err_and c.from_residual.result c.from_residual.ensures.1 in
    rw (p.1, p.2) (λ ys is. inl (gives_more g.I.Source.may_fail c.args.newer.now c.next.newer c.in_err-entry.field-0.0 c.next.invariant.no_more c.in_err-entry.ensures.cause))

pub returns-in_err-filler-clause-cause : goal.returns-in_err-filler-clause-cause
returns-in_err-filler-clause-cause g c =
    let p = err_from_is_err_and c.from_residual-in_err-filler.result c.from_residual-in_err-filler.ensures.1 in
    let inv = c.next.invariant in
    let first = rw c.in-Some.is at c.in_ok-entry.ensures.first in
    rw (p.1, p.2) (λ ys is. fails_before g.W.Output.never_fails (hashes g.H.BlockHash.hash64 g.H.BlockHash.hash128) c.args.filler c.next.filler c.in_err-filler.field-0.0 inv.same g.I.Source.may_fail c.args.newer.now c.next.newer.list c.take.new.self.list c.in-Some.entry ys (inv.merged ys is)
    (λ xs known. sym (c.is_first.ensures xs ys known is) ∙ c.next-test.true) first.0 c.in_err-filler.ensures.cause)

pub returns-in_default-clause-no_more : goal.returns-in_default-clause-no_more
returns-in_default-clause-no_more g c = λ e met. c.next.invariant.no_more e (c.in_ok-entry.ensures.no_more e met)
