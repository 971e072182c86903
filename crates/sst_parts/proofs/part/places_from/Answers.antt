use Rattle.std.proofs.Common.{◌≡◌, ◌+◌, ◌-◌, ◌≤◌, arith, sym, ap, subst}
use Rattle.std.proofs.lemmas.Result.{err_from_is_err_and}
use Rattle.sstable_blocks.specs.Prelude.{HandleParts}
use Rattle.sstable_blocks.specs.BlockLaws.{NotIo}
use Rattle.sstable_blocks.specs.RunPlaces.{IsInside}
use Rattle.sst_parts.proofs.Reading.Places.{footer_fails, footer_read, on_ok, part_inside, short}
use Rattle.sstable_blocks.specs.FooterLaws.{failed_not_io, handles_not_io}
use Rattle.sst_parts.proofs.part.places_from.Goals as goal

pub returns-then-size-lt-FOOTER-clause-exact : goal.returns-then-size-lt-FOOTER-clause-exact
returns-then-size-lt-FOOTER-clause-exact g c = short _ c.args.part.now _ _ (omega arith)

pub returns-in_err-footer-clause-exact : goal.returns-in_err-footer-clause-exact
returns-in_err-footer-clause-exact g c =
    let r = err_from_is_err_and c.from_residual.result c.from_residual.ensures.1 in
    let po = ap (λ (x : HandleParts). x.offset) c.new-place.ensures in
    let ps = ap (λ (x : HandleParts). x.size) c.new-place.ensures in
    let at : c.new-place.result.offset ≡ c.args.part.now.offset + (c.args.part.now.size - 24) = omega arith in
    let long : 24 ≤ c.args.part.now.size = omega arith in
    rw (r.1, r.2) (footer_fails _ c.args.part.now c.new-place.result _ _ _ long at ps c.in_err-footer.ensures.range)

pub returns-clause-source : goal.returns-clause-source
returns-clause-source g c =
    let s = c.in_ok-footer.ensures.source in
    record {
      same = s.same;
      failures_grow = s.failures_grow;
      kept = s.kept;
      io = failed_not_io _ _ (subst NotIo (sym c.decode_footer.ensures) (handles_not_io _));
      asks = (omega (arith, s.asks), omega (arith, s.asks));
    }

pub returns-clause-inside : goal.returns-clause-inside
returns-clause-inside g c =
    let po = ap (λ (x : HandleParts). x.offset) c.new-place.ensures in
    let ps = ap (λ (x : HandleParts). x.size) c.new-place.ensures in
    let at : c.new-place.result.offset ≡ c.args.part.now.offset + (c.args.part.now.size - 24) = omega arith in
    let long : 24 ≤ c.args.part.now.size = omega arith in
    let inside : IsInside c.args.part.now (g.S.FrameSource.bytes c.args.source.now) = (c.requires, part_inside _ c.args.part.now c.new-place.result _ long at ps c.in_ok-footer.ensures.range) in
    on_ok _ _ inside

pub returns-clause-exact : goal.returns-clause-exact
returns-clause-exact g c =
    let po = ap (λ (x : HandleParts). x.offset) c.new-place.ensures in
    let ps = ap (λ (x : HandleParts). x.size) c.new-place.ensures in
    let at : c.new-place.result.offset ≡ c.args.part.now.offset + (c.args.part.now.size - 24) = omega arith in
    let long : 24 ≤ c.args.part.now.size = omega arith in
    footer_read _ c.args.part.now c.new-place.result _ _ _ _ _ long at ps c.in_ok-footer.ensures.range c.as_slice.ensures c.decode_footer.ensures
