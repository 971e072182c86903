use Rattle.std.proofs.Common.{subst, sym, refl}
use Rattle.sstable_blocks.specs.Filter.{Filter, IsFilterOf}
use Rattle.sstable_blocks.specs.FilterLaws.{one_inserted}
use Rattle.sstable_blocks.proofs.table.filter.standard_bloom.builder.Builder.set_with_hash.Goals as goal

pub returns-clause-inserted : goal.returns-clause-inserted
returns-clause-inserted c hashes is =
    let before : Filter = record { m = c.self.inside.m; k = c.self.inside.k; bits = c.self.inside.inner } in
    let after : Filter = record { m = c.self.inside.m; k = c.self.inside.k; bits = c.enable_probes.new.bits } in
    one_inserted before after c.args.hash refl refl c.enable_probes.ensures.length c.enable_probes.ensures.bits hashes (subst (IsFilterOf hashes) (sym c.self.view_is) is)
