use Rattle.std.proofs.Common.{sym, subst, refl, inl, inr}
use Rattle.std.proofs.lemmas.Result.{err_from_is_err_and}
use Rattle.sst_base.specs.FrameErrorLaws.{NotIo}
use Rattle.sstable_blocks.specs.FooterLaws.{handles_not_io, handles_truncated, failed_not_io, footer_read_on, footer_fails_on}
use Rattle.sstable_blocks.proofs.run.footer.read_footer.Goals as goal

pub returns-in_err-footer-clause-exact : goal.returns-in_err-footer-clause-exact
returns-in_err-footer-clause-exact g c =
    let r = err_from_is_err_and c.from_residual.result c.from_residual.ensures.1 in
    rw (r.1, r.2) (footer_fails_on _ _ _ _ _ _ _ c.min-size.ensures c.new-footer.ensures c.in_err-footer.ensures.range)

pub returns-clause-source : goal.returns-clause-source
returns-clause-source g c =
    let s = c.in_ok-footer.ensures.source in
    record {
      same = s.same;
      failures_grow = s.failures_grow;
      kept = s.kept;
      io = failed_not_io _ _ (subst NotIo (sym c.decode_footer.ensures) (handles_not_io _));
      asks = s.asks;
    }

pub returns-clause-exact : goal.returns-clause-exact
returns-clause-exact g c = footer_read_on _ _ _ _ _ _ _ _ _ c.min-size.ensures c.new-footer.ensures c.in_ok-footer.ensures.range c.as_slice.ensures c.decode_footer.ensures

pub returns-clause-errors : goal.returns-clause-errors
returns-clause-errors g c = handles_truncated _ (inr (inl refl)) _ _ c.decode_footer.ensures
