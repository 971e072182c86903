use Rattle.std.proofs.Common.{◌<◌, ◌^◌, arith, subst, IfSome}
use Rattle.sstable_blocks.specs.Prelude.{IsBytes}
use Rattle.sst_parts.specs.PartChecks.{check_parted}
use Rattle.sst_parts.proofs.Checks.PartCheckSteps.{accepts_by, by_kept, sound_by}
use Rattle.sstable_blocks.specs.RunReading.{hashes}
use Rattle.sstable_blocks.specs.Sources.{GivesOr}
use Rattle.sst_parts.proofs.table.PartedTable.verify.Goals as goal

pub returns-clause-exact : goal.returns-clause-exact
returns-clause-exact g c =
    let h = hashes g.H.BlockHash.hash64 g.H.BlockHash.hash128 in
    subst (λ w. IfSome (g.S.FrameSource.bytes w.source) (λ all. GivesOr (g.S.FrameSource.failures w.source < g.S.FrameSource.failures c.check_parts.new.source) (g.S.FrameSource.is_reliable w.source) (λ x. x) c.check_parts.result (check_parted h all w.top)))
    c.self.view_is
    (by_kept h _ _ _ _ _ _ c.self.invariant.0 c.check_parts.ensures.exact)

pub returns-clause-sound : goal.returns-clause-sound
returns-clause-sound g c =
    let h = hashes g.H.BlockHash.hash64 g.H.BlockHash.hash128 in
    let inside : c.self.inside.top.size < 2 ^ 32 = omega (arith, c.size-fits.ensures) in
    let short = subst (λ w. w.top.size < 2 ^ 32) c.self.view_is inside in
    sound_by h _ c.args.self.now.top _ _ _
    (λ all s cells is. c.accepted_parted_is_sound.ensures h all c.args.self.now.top s cells short is)
    (subst (λ w. IfSome (g.S.FrameSource.bytes w.source) IsBytes) c.self.view_is c.self.invariant.2)
    (returns-clause-exact g c)

pub returns-clause-accepts : goal.returns-clause-accepts
returns-clause-accepts g c =
    let h = hashes g.H.BlockHash.hash64 g.H.BlockHash.hash128 in
    accepts_by h _ c.args.self.now.top _ _ _
    (λ all parts parted. c.parted_is_accepted.ensures h parts all c.args.self.now.top g.met.H.BlockHash.hash128_fits parted)
    (returns-clause-exact g c)
