use Rattle.std.proofs.Common.{◌∙◌, ℕ, List, subst, sym}
use Rattle.std.proofs.lemmas.List.{take_more}
use Rattle.sstable_blocks.specs.Filter.{IsFilterOf}
use Rattle.sst_calls.proofs.filter.insert_hashes.Goals as goal

pub loop-hash-preserved : goal.loop-hash-preserved
loop-hash-preserved c =
    let hashes = c.args.hashes.now in
    let i = c.loop-hash.hash-index in
    record {
      inserted = subst (λ (xs : List ℕ). IsFilterOf xs c.set_with_hash.new.self) (sym (take_more hashes i _ c.loop-hash-test.true)) (c.set_with_hash.ensures.inserted _ c.loop-hash.invariant.inserted);
      m = c.set_with_hash.ensures.m ∙ c.loop-hash.invariant.m;
      k = c.set_with_hash.ensures.k ∙ c.loop-hash.invariant.k;
    }
