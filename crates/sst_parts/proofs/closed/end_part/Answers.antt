use Rattle.std.proofs.Common.{inl, inr}
use Rattle.std.proofs.lemmas.Result.{err_from_is_err_and}
use Rattle.sst_parts.proofs.Writing.Closings.{part_file, part_too_long}
use Rattle.sst_parts.proofs.closed.end_part.Goals as goal

pub returns-in_err-size-clause-cause : goal.returns-in_err-size-clause-cause
returns-in_err-size-clause-cause g c =
    let long = c.in_err-size.ensures.too_long in
    let r = err_from_is_err_and c.from_residual-in_err-size.result c.from_residual-in_err-size.ensures.1 in
    rw (r.1, r.2) (inr (inl (long.0, part_too_long _ _ _ _ _ _ c.in_ok-handles.ensures.layout long.1)))

pub returns-clause-part : goal.returns-clause-part
returns-clause-part g c =
    let s = c.in_ok-size.ensures in
    part_file _ _ c.in_ok-handles.handles c.new.result c.new-place.result _ _ _ _ _ _ _ _ c.in_ok-handles.ensures.layout c.in_ok-put.ensures.ok c.encode_footer.ensures s.size s.small s.end c.new-place.ensures c.new.ensures c.requires.end
