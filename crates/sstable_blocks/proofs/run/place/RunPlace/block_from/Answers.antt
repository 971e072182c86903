use Rattle.std.proofs.Common.{sym, ◌∙◌}
use Rattle.sst_base.specs.Frame.{payload_of_type}
use Rattle.sstable_blocks.specs.RunPlaceLaws.{passed_by, placed_in_any, refused_by}
use Rattle.sstable_blocks.proofs.run.place.RunPlace.block_from.Goals as goal

pub frame-requires : goal.frame-requires
frame-requires g c = placed_in_any _ _ c.requires

pub returns-in-None-clause-exact : goal.returns-in-None-clause-exact
returns-in-None-clause-exact g c = refused_by (payload_of_type g.H.BlockHash.hash128 c.args.block_type) c.args.self.now _ c.args.handle.now _ _ c.requires (sym c.frame.ensures ∙ c.in-None.is)

pub returns-in-Some-clause-exact : goal.returns-in-Some-clause-exact
returns-in-Some-clause-exact g c = passed_by (λ b. b.payload) (payload_of_type g.H.BlockHash.hash128 c.args.block_type) c.args.self.now _ c.args.handle.now c.in-Some.frame _ _ _ c.requires (sym c.frame.ensures ∙ c.in-Some.is) c.block_from.ensures.exact
