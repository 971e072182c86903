use Rattle.std.proofs.Common.{◌∙◌, ap, subst}
use Rattle.std.proofs.lemmas.List.{take_all}
use Rattle.sstable_blocks.specs.Filter.{Filter, IsFilterOf}
use Rattle.sstable_blocks.proofs.Filters.FilterTexts.{next_inserted, filter_text}
use Rattle.sstable_blocks.proofs.run.run_core.filter_of.Goals as goal
use Rattle.sstable_blocks.specs.SourceLaws.{if_ok_map}

pub loop-hash-preserved : goal.loop-hash-preserved
loop-hash-preserved c =
    let i = c.loop-hash.invariant in
    let e = c.set_with_hash.ensures in
    record {
      m = e.m ∙ i.m;
      k = e.k ∙ i.k;
      inserted = next_inserted c.args.hashes.now c.loop-hash.hash-index _ c.loop-hash-test.true (e.inserted _ i.inserted);
    }

pub returns-clause-ok : goal.returns-clause-ok
returns-clause-ok c =
    let i = c.loop-hash.invariant in
    let start = c.in_ok-builder.ensures.ok in
    let all = subst (λ xs. IsFilterOf xs c.loop-hash.builder) (take_all c.loop-hash.hash-index c.args.hashes.now c.loop-hash-test.false) i.inserted in
    if_ok_map c.build.result _ _ (λ v e. filter_text c.args.hashes.now _ v.items c.loop-hash.builder (i.m ∙ ap (λ (f : Filter). f.m) start) (i.k ∙ ap (λ (f : Filter). f.k) start) all e) c.build.ensures.ok
