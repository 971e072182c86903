use Rattle.std.proofs.Common.{◌∙◌, ◌↔◌, List, ℕ, Ok, IsTrue, sym, subst}
use Rattle.sstable_blocks.specs.Filter.{HasProbes, MayContain}
use Rattle.sstable_blocks.specs.FilterLaws.{filter_at_reads}
use Rattle.sstable_blocks.specs.CheckedLaws.{asked}
use Rattle.sstable_blocks.proofs.table.filter.standard_bloom.FilterShape.allows.Goals as goal

pub split_at-requires : goal.split_at-requires
split_at-requires c = (filter_at_reads c.args.payload.now _ c.requires).1

pub has_probes-requires : goal.has_probes-requires
has_probes-requires c =
    subst (λ (bits : List ℕ). HasProbes (record { m = c.args.self.now.m; k = c.args.self.now.k; bits = bits })) (sym (c.new.ensures ∙ c.split_at.ensures.back)) (filter_at_reads c.args.payload.now _ c.requires).2

pub returns : goal.returns
returns c =
    let shape = c.args.self.now in
    let says = subst (λ (bits : List ℕ). IsTrue c.has_probes.result ↔ MayContain (record { m = shape.m; k = shape.k; bits = bits }) c.args.hash) (c.new.ensures ∙ c.split_at.ensures.back) c.has_probes.ensures in
    asked c.args.payload.now c.args.hash (Ok c.has_probes.result) (_, c.requires, says) tt
