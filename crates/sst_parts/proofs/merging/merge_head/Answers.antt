use Rattle.std.proofs.Common.{◌≡◌, [], List, Some, sym, ◌∙◌, inl, inr}
use Rattle.std.proofs.lemmas.Result.{IfOk-weaker, IfErr-weaker, err_from_is_err_and, on_ok_weaker}
use Rattle.sstable_blocks.specs.Blocks.{joined}
use Rattle.sstable_blocks.specs.Prelude.{Entry}
use Rattle.sstable_blocks.specs.RunReading.{hashes}
use Rattle.sst_parts.specs.PartMerges.{decoded}
use Rattle.sst_parts.proofs.Merged.Held.{merges_both, same_on}
use Rattle.sst_parts.proofs.Merged.Steps.{merges_copied_of, merges_plain, decoded_twice}
use Rattle.sst_parts.proofs.Merged.Faults.{fails_copied, fails_on, fails_plain, meets_on}
use Rattle.sst_parts.proofs.merging.merge_head.Goals as goal

pub returns-then-begins_behind-clause-merged : goal.returns-then-begins_behind-clause-merged
returns-then-begins_behind-clause-merged g c =
    let h = hashes g.H.BlockHash.hash64 g.H.BlockHash.hash128 in
    let a = c.args.filler in
    let b = c.in_ok-filler.filler in
    let n = c.args.newer.now.list in
    let m = c.write_before.new.newer.list in
    let end = c.args.end.now in
    let behind = λ (xs : List Entry) (known : m ≡ Some xs). sym (c.begins_behind.ensures xs known) ∙ c.if-begins_behind.true in
    IfOk-weaker c.copy.result _ _ (λ f k part is list.
    let items = decoded (joined part) in
    merges_plain h a f n m (joined part) [] (merges_both h a b f n m m items items [] (c.in_ok-filler.ensures.merged items list)
    (merges_copied_of h b f m part c.args.bytes.now end is behind (k part is)))) c.copy.ensures.added

pub returns-else-begins_behind-clause-merged : goal.returns-else-begins_behind-clause-merged
returns-else-begins_behind-clause-merged g c =
    let h = hashes g.H.BlockHash.hash64 g.H.BlockHash.hash128 in
    let a = c.args.filler in
    let b = c.in_ok-filler.filler in
    let n = c.args.newer.now.list in
    let m = c.write_before.new.newer.list in
    IfOk-weaker c.write_merge.result _ _ (λ f k part is list.
    let items = decoded (joined part) in
    merges_plain h a f n c.write_merge.new.newer.list (joined part) [] (merges_both h a b f n m c.write_merge.new.newer.list items items [] (c.in_ok-filler.ensures.merged items list) (k items list))) c.write_merge.ensures.merged

pub returns-in_err-filler-clause-cause : goal.returns-in_err-filler-clause-cause
returns-in_err-filler-clause-cause g c =
    let h = hashes g.H.BlockHash.hash64 g.H.BlockHash.hash128 in
    let p = err_from_is_err_and c.from_residual.result c.from_residual.ensures.1 in
    rw (p.1, p.2) (λ part is list. inr (fails_plain g.W.Output.never_fails g.I.Source.may_fail h c.args.newer.now c.args.filler (joined part) c.in_err-filler.field-0.0 (c.in_err-filler.ensures.cause (decoded (joined part)) list)))

pub returns-then-begins_behind-clause-cause : goal.returns-then-begins_behind-clause-cause
returns-then-begins_behind-clause-cause g c =
    let h = hashes g.H.BlockHash.hash64 g.H.BlockHash.hash128 in
    let a = c.args.filler in
    let b = c.in_ok-filler.filler in
    let n = c.args.newer.now in
    let m = c.write_before.new.newer.list in
    let end = c.args.end.now in
    let behind = λ (xs : List Entry) (known : m ≡ Some xs). sym (c.begins_behind.ensures xs known) ∙ c.if-begins_behind.true in
    IfErr-weaker c.copy.result _ _ (λ e k part is list.
    let items = decoded (joined part) in
    inr (fails_plain g.W.Output.never_fails g.I.Source.may_fail h n a (joined part) e
    (fails_copied g.W.Output.never_fails h a b e c.in_ok-filler.ensures.same g.I.Source.may_fail n m items items c.args.bytes.now part end (c.in_ok-filler.ensures.merged items list) (decoded_twice (joined part)) is behind (k part is)))) c.copy.ensures.cause

pub returns-else-begins_behind-clause-cause : goal.returns-else-begins_behind-clause-cause
returns-else-begins_behind-clause-cause g c =
    let h = hashes g.H.BlockHash.hash64 g.H.BlockHash.hash128 in
    let a = c.args.filler in
    let b = c.in_ok-filler.filler in
    let n = c.args.newer.now in
    let m = c.write_before.new.newer in
    IfErr-weaker c.write_merge.result _ _ (λ e k part is list.
    let items = decoded (joined part) in
    elim (k items list) [
      | inl p ↦ inl p
      | inr f ↦ inr (fails_plain g.W.Output.never_fails g.I.Source.may_fail h n a (joined part) e
          (fails_on g.W.Output.never_fails h a b e c.in_ok-filler.ensures.same g.I.Source.may_fail n m items items c.in_ok-filler.ensures.no_more (c.in_ok-filler.ensures.merged items list) f))
    ]) c.write_merge.ensures.cause

pub returns-else-begins_behind-clause-no_more : goal.returns-else-begins_behind-clause-no_more
returns-else-begins_behind-clause-no_more g c =
    on_ok_weaker c.write_merge.result (λ k. meets_on c.args.newer.now c.write_before.new.newer c.write_merge.new.newer c.in_ok-filler.ensures.no_more k) c.write_merge.ensures.no_more

pub returns-else-begins_behind-clause-same : goal.returns-else-begins_behind-clause-same
returns-else-begins_behind-clause-same g c = IfOk-weaker c.write_merge.result _ _ (λ f k. same_on g.W.Output.never_fails c.args.filler c.in_ok-filler.filler f c.in_ok-filler.ensures.same k) c.write_merge.ensures.same

pub returns-then-begins_behind-clause-same : goal.returns-then-begins_behind-clause-same
returns-then-begins_behind-clause-same g c = IfOk-weaker c.copy.result _ _ (λ f k. same_on g.W.Output.never_fails c.args.filler c.in_ok-filler.filler f c.in_ok-filler.ensures.same k) c.copy.ensures.same
