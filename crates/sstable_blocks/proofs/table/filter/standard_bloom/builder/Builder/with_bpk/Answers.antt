use Rattle.std.proofs.Common.{arith, ℕ, ◌≤◌, ◌*◌, [], subst, sym}
use Rattle.std.proofs.lemmas.Grind.{common_steps}
use Rattle.sstable_blocks.specs.Filter.{IsFilterOf}
use Rattle.sstable_blocks.proofs.Filters.Counts.{probes_below_bits}
use Rattle.sstable_blocks.specs.FilterLaws.{none_inserted}
use Rattle.sstable_blocks.proofs.table.filter.standard_bloom.builder.Builder.with_bpk.Goals as goal

pub returns-clause-empty : goal.returns-clause-empty
returns-clause-empty c =
    let m = c.div_ceil-bytes.result * 8 in
    let k = c.max-k.result in
    let some : 1 ≤ k = grind (arith, common_steps) in
    let most : k ≤ m = let h = probes_below_bits c.args.n c.args.bpk c.requires.some c.requires.active in grind (arith, common_steps) in
    let empty = subst (λ (xs : _). IsFilterOf [] (record { m = m; k = k; bits = xs })) (sym c.in_ok-with_capacity.ensures.ok) (none_inserted m k c.div_ceil-bytes.result (omega arith) some most) in
    subst (λ (n : ℕ). IsFilterOf [] (record { m = n; k = k; bits = c.in_ok-with_capacity.field-0 })) (sym c.new.ensures) empty
