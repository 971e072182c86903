use Rattle.std.proofs.Common.{rules, ◌≡◌, ◌∙◌, sym, ap, drop, Ok}
use Rattle.sstable_blocks.specs.Filter.{Filter, filter_at}
use Rattle.sstable_blocks.specs.FilterLaws.{filter_at_reads}
use Rattle.sstable_blocks.specs.declared.table.filter.standard_bloom.FilterShape.{FilterShape}
use Rattle.sstable_blocks.proofs.run.kept_filter.KeptFilter.read.Goals as goal

pub invariant_of-result : goal.invariant_of-result
invariant_of-result c =
    let found = c.in_ok-new.field-0 in
    let text : c.new-2.result.payload ≡ c.as_slice.result.now = search rules in
    let at : filter_at c.as_slice.result.now ≡ Ok found = sym c.in_ok-new.ensures in
    let bits = ap (λ (f : Filter). f.bits) (filter_at_reads c.as_slice.result.now found at).0 in
    let shape = c.into_shape-shape.ensures in
    ap filter_at text ∙ at
    ∙ (λ i. Ok (record {
      m = sym (ap (λ (s : FilterShape). s.m) shape) i;
      k = sym (ap (λ (s : FilterShape). s.k) shape) i;
      bits = sym (ap (drop 22) text ∙ bits) i;
    }))
