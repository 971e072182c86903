use Rattle.std.proofs.Common.{sym, subst, ◌∙◌}
use Rattle.sstable_blocks.specs.RunReading.{hashes}
use Rattle.sstable_blocks.specs.Sources.{FailsAs}
use Rattle.sst_parts.proofs.parted_ref.PartedRef.check.Goals as goal

pub returns-in-Ok-clause-accepts : goal.returns-in-Ok-clause-accepts
returns-in-Ok-clause-accepts g c = λ parts parted.
    sym (c.parted_is_accepted.ensures (hashes g.H.BlockHash.hash64 g.H.BlockHash.hash128) parts c.args.bytes.now c.args.top.now g.met.H.BlockHash.hash128_fits parted) ∙ c.in-Ok.ensures.exact

pub returns-in-Err-clause-accepts : goal.returns-in-Err-clause-accepts
returns-in-Err-clause-accepts g c = λ parts parted.
    subst (λ q. FailsAs ⊥ ⊥ q c.in-Err.error) (c.parted_is_accepted.ensures (hashes g.H.BlockHash.hash64 g.H.BlockHash.hash128) parts c.args.bytes.now c.args.top.now g.met.H.BlockHash.hash128_fits parted) c.in-Err.ensures.exact
