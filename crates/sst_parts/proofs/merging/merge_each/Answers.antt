use Rattle.std.proofs.Common.{◌≤◌, List, length, Some, refl, sym, ap, subst, ◌∙◌, arith, ◌<◌}
use Rattle.std.proofs.lemmas.Option.{slice_get-get_or}
use Rattle.std.specs.List.{slice_get}
use Rattle.sstable_blocks.specs.Prelude.{Handle}
use Rattle.sstable_blocks.specs.RunReading.{hashes}
use Rattle.sst_parts.specs.Parts.{PartedParts}
use Rattle.sst_parts.proofs.Merged.Held.{same_on, same_self}
use Rattle.sst_parts.proofs.Merged.Steps.{each_done, each_next, each_none, zips_by}
use Rattle.std.proofs.lemmas.Result.{err_from_is_err_and}
use Rattle.sst_parts.proofs.Merged.Faults.{each_fails}
use Rattle.sst_parts.proofs.merging.merge_each.Goals as goal

pub parts-init : goal.parts-init
parts-init g c =
    let base = c.args.base.now in
    record {
      kept = refl;
      source = record { same = refl; failures_grow = omega arith; kept = λ r. r };
      asks = omega arith;
      inside = omega arith;
      merged = each_none (hashes g.H.BlockHash.hash64 g.H.BlockHash.hash128) c.args.filler c.args.newer.now.list (g.S.FrameSource.bytes base.source) base.top;
      same = same_self g.W.Output.never_fails c.args.filler;
      no_more = λ e met. met;
    }

pub merge_part-requires : goal.merge_part-requires
merge_part-requires g c =
    let inv = c.parts.invariant in
    let tops = ap (λ (t : PartedParts g.row.S.Denot). t.tops) inv.kept ∙ sym c.requires.handles in
    let end = c.index-handles-index in
    record {
      inside = ap (λ (hs : List Handle). slice_get hs c.parts.index) tops ∙ slice_get-get_or c.args.handles.now c.parts.index end.result (omega (arith, c.parts-test.true)) ∙ ap (λ (x : Handle). Some x) (sym end.is);
    }

pub parts-preserved : goal.parts-preserved
parts-preserved g c =
    let h = hashes g.H.BlockHash.hash64 g.H.BlockHash.hash128 in
    let inv = c.parts.invariant in
    let e = c.in_ok-filler.ensures in
    let base = c.args.base.now in
    let now = c.merge_part.new.base in
    let sums = g.met.H.BlockHash.hash128_fits in
    let end = c.index-handles-index in
    let bytes = g.S.FrameSource.bytes base.source in
    let at = ap (λ (hs : List Handle). slice_get hs c.parts.index) (sym c.requires.handles) ∙ slice_get-get_or c.args.handles.now c.parts.index end.result (omega (arith, c.parts-test.true)) ∙ ap (λ (x : Handle). Some x) (sym end.is) in
    let zips = zips_by h bytes base.top base.tops (λ parts all is kept. c.parted_parts_are_stored.ensures h parts all base.top base.tops sums is kept) c.index-index.ensures.kept in
    record {
      kept = e.kept ∙ ap (λ (t : PartedParts g.row.S.Denot). record t { source = now.source }) inv.kept;
      source = record {
        same = e.source.same ∙ inv.source.same;
        failures_grow = omega (arith, inv.source.failures_grow, e.source.failures_grow);
        kept = λ r. e.source.kept (inv.source.kept r);
      };
      asks = omega (arith, e.asks, inv.asks);
      inside = omega (arith, c.parts-test.true);
      merged = each_next h c.args.filler c.parts.filler c.in_ok-filler.filler c.args.newer.now.list c.parts.newer.list c.merge_part.new.newer.list bytes (g.S.FrameSource.bytes c.parts.base.source) base.top base.tops c.parts.index end.result inv.source.same at zips inv.merged e.merged;
      same = same_on g.W.Output.never_fails c.args.filler c.parts.filler c.in_ok-filler.filler inv.same e.same;
      no_more = λ x met. inv.no_more x (e.no_more x met);
    }

pub returns-clause-merged : goal.returns-clause-merged
returns-clause-merged g c =
    let h = hashes g.H.BlockHash.hash64 g.H.BlockHash.hash128 in
    let inv = c.parts.invariant in
    let base = c.args.base.now in
    let sums = g.met.H.BlockHash.hash128_fits in
    let bytes = g.S.FrameSource.bytes base.source in
    let end = subst (λ (hs : List Handle). length hs ≤ c.parts.index) c.requires.handles c.parts-test.false in
    let zips = zips_by h bytes base.top base.tops (λ parts all is kept. c.parted_parts_are_stored.ensures h parts all base.top base.tops sums is kept) c.index-index.ensures.kept in
    each_done h c.args.filler c.parts.filler c.args.newer.now.list c.parts.newer.list bytes base.top base.tops c.parts.index end zips inv.merged

pub returns-in_err-filler-clause-cause : goal.returns-in_err-filler-clause-cause
returns-in_err-filler-clause-cause g c =
    let h = hashes g.H.BlockHash.hash64 g.H.BlockHash.hash128 in
    let inv = c.parts.invariant in
    let base = c.args.base.now in
    let x = c.in_err-filler.field-0.0 in
    let failures = g.S.FrameSource.failures in
    let reliable = g.S.FrameSource.is_reliable in
    let sums = g.met.H.BlockHash.hash128_fits in
    let end = c.index-handles-index in
    let bytes = g.S.FrameSource.bytes base.source in
    let at = ap (λ (hs : List Handle). slice_get hs c.parts.index) (sym c.requires.handles) ∙ slice_get-get_or c.args.handles.now c.parts.index end.result (omega (arith, c.parts-test.true)) ∙ ap (λ (x : Handle). Some x) (sym end.is) in
    let zips = zips_by h bytes base.top base.tops (λ parts all is kept. c.parted_parts_are_stored.ensures h parts all base.top base.tops sums is kept) c.index-index.ensures.kept in
    let p = err_from_is_err_and c.from_residual.result c.from_residual.ensures.1 in
    rw (p.1, p.2) (each_fails g.W.Output.never_fails g.I.Source.may_fail h c.args.filler c.parts.filler x c.args.newer.now c.parts.newer
    (failures base.source < failures c.merge_part.new.base.source) (failures c.parts.base.source < failures c.merge_part.new.base.source) (reliable base.source) (reliable c.parts.base.source)
    bytes (g.S.FrameSource.bytes c.parts.base.source) base.top base.tops c.parts.index end.result inv.same inv.no_more (λ f. omega (arith, f, inv.source.failures_grow)) inv.source.kept inv.source.same at zips inv.merged c.in_err-filler.ensures.cause)
