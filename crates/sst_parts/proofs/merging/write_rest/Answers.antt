use Rattle.std.proofs.Common.{[]}
use Rattle.sst_parts.specs.PartMerges.{decoded}
use Rattle.sst_parts.proofs.Merged.Held.{adds_none, adds_on}
use Rattle.std.proofs.lemmas.Result.{IfOk-weaker, IfErr-weaker, err_from_is_err_and}
use Rattle.sstable_blocks.specs.RunReading.{hashes}
use Rattle.sst_parts.proofs.Merged.Faults.{rest_ends, rest_fails}
use Rattle.sst_parts.proofs.merging.write_rest.Goals as goal

pub returns-clause-written : goal.returns-clause-written
returns-clause-written g c =
    let h = hashes g.H.BlockHash.hash64 g.H.BlockHash.hash128 in
    let begun = c.new-filler.result in
    let f = c.in_ok-filler.filler in
    IfOk-weaker c.finish.result _ _ (λ w k xs known.
    let all = c.in_ok-filler.ensures.written xs known in
    record {
      none_left = all.none_left;
      added = adds_none h c.args.copier f w (decoded xs) (adds_on h c.args.copier begun f [] (decoded xs) c.new-filler.ensures.added all.added) k;
    }) c.finish.ensures.added

pub returns-in_err-filler-clause-cause : goal.returns-in_err-filler-clause-cause
returns-in_err-filler-clause-cause g c =
    let h = hashes g.H.BlockHash.hash64 g.H.BlockHash.hash128 in
    let p = err_from_is_err_and c.from_residual.result c.from_residual.ensures.1 in
    rw (p.1, p.2) (rest_fails g.W.Output.never_fails g.I.Source.may_fail h c.args.copier c.new-filler.result c.in_err-filler.field-0.0 c.args.newer.now c.new-filler.ensures.same c.new-filler.ensures.added c.in_err-filler.ensures.cause)

pub returns-clause-cause : goal.returns-clause-cause
returns-clause-cause g c =
    let h = hashes g.H.BlockHash.hash64 g.H.BlockHash.hash128 in
    IfErr-weaker c.finish.result _ _ (λ e k. rest_ends g.W.Output.never_fails g.I.Source.may_fail h c.args.copier c.new-filler.result c.in_ok-filler.filler e c.args.newer.now c.write_left.new.newer.list c.new-filler.ensures.same c.in_ok-filler.ensures.same c.new-filler.ensures.added c.in_ok-filler.ensures.written k) c.finish.ensures.cause
