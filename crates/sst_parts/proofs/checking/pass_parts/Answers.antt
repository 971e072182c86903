use Rattle.std.proofs.Common.{◌∙◌, sym, ap, subst, arith, List, length}
use Rattle.std.proofs.lemmas.Result.{err_from_is_err_and}
use Rattle.std.specs.List.{AllByRecursion}
use Rattle.sstable_blocks.specs.Prelude.{Handle, EndFits}
use Rattle.sst_parts.specs.PartChecks.{check_part, no_parts}
use Rattle.sstable_blocks.specs.RunReading.{hashes}
use Rattle.sstable_blocks.specs.WalkLaws.{frames_done, frames_end, frames_on, handle_left, none_left, walk_done, walk_fails, walk_on}
use Rattle.sstable_blocks.specs.Walks.{place_frames}
use Rattle.sst_parts.proofs.checking.pass_parts.Goals as goal

pub check_part-requires : goal.check_part-requires
check_part-requires g c =
    let i = c.loop-item.invariant in
    let left = handle_left _ _ _ _ c.in_ok-handle.handle c.in-Some.ensures.steps (i.payload ∙ sym c.as_slice-payload.ensures.value) c.in_ok-handle.ensures.ok in
    (subst (λ (hs : List Handle). AllByRecursion EndFits hs) left i.fits).0

pub returns-in_err-passed-clause-exact : goal.returns-in_err-passed-clause-exact
returns-in_err-passed-clause-exact g c =
    let h = hashes g.H.BlockHash.hash64 g.H.BlockHash.hash128 in
    let i = c.loop-item.invariant in
    let left = handle_left _ _ _ _ c.in_ok-handle.handle c.in-Some.ensures.steps (i.payload ∙ sym c.as_slice-payload.ensures.value) c.in_ok-handle.ensures.ok in
    let r = err_from_is_err_and c.from_residual-in_err-passed.result c.from_residual-in_err-passed.ensures.1 in
    rw (r.1, r.2) (walk_fails (λ all. check_part h all) no_parts c.args.index.now.items _ _ c.loop-item.passed _ _ c.in_ok-handle.handle _ _ _ _ _ i.source.same i.known left (λ less. omega (arith, less, i.source.failures_grow)) i.source.kept c.in_err-passed.ensures.exact)

pub loop-item-preserved : goal.loop-item-preserved
loop-item-preserved g c =
    let h = hashes g.H.BlockHash.hash64 g.H.BlockHash.hash128 in
    let i = c.loop-item.invariant in
    let e = c.in_ok-passed.ensures in
    let left = handle_left _ _ _ _ c.in_ok-handle.handle c.in-Some.ensures.steps (i.payload ∙ sym c.as_slice-payload.ensures.value) c.in_ok-handle.ensures.ok in
    let count = ap length left in
    record {
      payload = c.in-Some.ensures.steps.payload ∙ i.payload;
      fits = (subst (λ (hs : List Handle). AllByRecursion EndFits hs) left i.fits).1;
      source = record {
        same = e.source.same ∙ i.source.same;
        failures_grow = omega (arith, i.source.failures_grow, e.source.failures_grow);
        kept = λ r. e.source.kept (i.source.kept r);
      };
      reads = omega (arith, count, i.reads, e.source.asks, e.placed);
      grow = omega (arith, i.grow, e.source.asks);
      asked = frames_on (λ all. check_part h all) no_parts c.args.index.now.items (λ s k. place_frames s.offset k) _ _ c.loop-item.passed _ c.in_ok-handle.handle _ _ _ _ _ i.source.same left e.source.asks e.exact i.asked;
      known = walk_on (λ all. check_part h all) no_parts c.args.index.now.items _ _ c.loop-item.passed _ _ _ c.in_ok-handle.handle i.source.same i.known left e.exact;
    }

pub returns-clause-source : goal.returns-clause-source
returns-clause-source g c =
    let i = c.loop-item.invariant in
    let none = ap length (none_left _ _ c.in-None.ensures.steps) in
    record {
      same = i.source.same;
      failures_grow = i.source.failures_grow;
      kept = i.source.kept;
      io = tt;
      asks = (i.grow, omega (arith, none, i.reads));
    }

pub returns-in_err-passed-clause-asked : goal.returns-in_err-passed-clause-asked
returns-in_err-passed-clause-asked g c =
    let h = hashes g.H.BlockHash.hash64 g.H.BlockHash.hash128 in
    let i = c.loop-item.invariant in
    let e = c.in_err-passed.ensures in
    let left = handle_left _ _ _ _ c.in_ok-handle.handle c.in-Some.ensures.steps (i.payload ∙ sym c.as_slice-payload.ensures.value) c.in_ok-handle.ensures.ok in
    let r = err_from_is_err_and c.from_residual-in_err-passed.result c.from_residual-in_err-passed.ensures.1 in
    rw (r.1, r.2) (frames_end (λ all. check_part h all) no_parts c.args.index.now.items (λ s k. place_frames s.offset k) _ _ c.loop-item.passed c.in_ok-handle.handle _ _ _ _ _ _ _ _ _ _ i.source.same left e.source.asks i.source.failures_grow e.source.failures_grow e.exact i.asked)

pub returns-clause-asked : goal.returns-clause-asked
returns-clause-asked g c =
    frames_done (λ all. check_part (hashes g.H.BlockHash.hash64 g.H.BlockHash.hash128) all) no_parts c.args.index.now.items (λ s k. place_frames s.offset k) _ c.loop-item.passed _ _ _ _ _ _ (none_left _ _ c.in-None.ensures.steps) c.loop-item.invariant.asked

pub returns-clause-exact : goal.returns-clause-exact
returns-clause-exact g c =
    walk_done (λ all. check_part (hashes g.H.BlockHash.hash64 g.H.BlockHash.hash128) all) no_parts c.args.index.now.items _ c.loop-item.passed _ c.loop-item.invariant.known (none_left _ _ c.in-None.ensures.steps)
