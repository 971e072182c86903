use Rattle.std.proofs.Common.{◌≡◌, ℕ, List, Some, sym, subst, ◌∙◌, refl}
use Rattle.std.proofs.lemmas.Result.{IfOk-weaker, IfErr-weaker}
use Rattle.sstable_blocks.specs.Prelude.{Entry}
use Rattle.sstable_blocks.specs.RunReading.{hashes}
use Rattle.sst_parts.specs.PartMerges.{IsPartBytes}
use Rattle.sst_parts.proofs.Merged.Steps.{merges_copied}
use Rattle.sstable_blocks.specs.Blocks.{joined}
use Rattle.sst_parts.proofs.Merged.Held.{merges_none, same_self}
use Rattle.sst_parts.proofs.Merged.Faults.{fails_copied}
use Rattle.sst_parts.proofs.merging.merge_bytes.Goals as goal

pub returns-then-is_copied-clause-merged : goal.returns-then-is_copied-clause-merged
returns-then-is_copied-clause-merged g c =
    let h = hashes g.H.BlockHash.hash64 g.H.BlockHash.hash128 in
    let n = c.args.newer.now.list in
    let end = c.args.end.now in
    let behind = λ (xs : List Entry) (known : n ≡ Some xs). sym (c.begins_behind-is_copied.ensures xs known) ∙ c.if-is_copied.true in
    IfOk-weaker c.copy.result _ _ (λ f k part is.
    merges_copied h c.args.filler f n part c.args.bytes.now end is behind (k part (subst (λ (xs : List ℕ). IsPartBytes h xs part end) (sym c.as_slice.ensures) is))) c.copy.ensures.added

pub returns-then-is_copied-clause-cause : goal.returns-then-is_copied-clause-cause
returns-then-is_copied-clause-cause g c =
    let h = hashes g.H.BlockHash.hash64 g.H.BlockHash.hash128 in
    let a = c.args.filler in
    let n = c.args.newer.now in
    let end = c.args.end.now in
    let behind = λ (xs : List Entry) (known : n.list ≡ Some xs). sym (c.begins_behind-is_copied.ensures xs known) ∙ c.if-is_copied.true in
    IfErr-weaker c.copy.result _ _ (λ e k part is.
    fails_copied g.W.Output.never_fails h a a e (same_self g.W.Output.never_fails a) g.I.Source.may_fail n n.list (joined part) (joined part) c.args.bytes.now part end (merges_none h a n.list (joined part)) refl is behind
    (k part (subst (λ (xs : List ℕ). IsPartBytes h xs part end) (sym c.as_slice.ensures) is))) c.copy.ensures.cause
