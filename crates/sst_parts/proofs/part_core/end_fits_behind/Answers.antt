use Rattle.std.proofs.Common.{rules, ◌≡◌, ◌≢◌, ◌∷◌, [], Some, None, sym, subst, refl, IsTrue}
use Rattle.std.specs.Cmp.Lexicographic.{slice_cmp}
use Rattle.std.specs.Ordering.{nat_cmp, ordering_then}
use Rattle.std.specs.declared.cmp.Ordering.TheVariants.{Less}
use Rattle.sst_parts.proofs.Writing.Ends.{follows_from, follows_to, not_less}
use Rattle.sst_parts.specs.PartCopies.{end_entry}
use Rattle.sst_parts.proofs.part_core.end_fits_behind.Goals as goal

pub returns-in-None : goal.returns-in-None
returns-in-None c = λ blocks l o.
    let x = end_entry c.args.end.now in
    let k = rw c.in-None.is at l in
    ((λ t. follows_from blocks None (x ∷ []) x k o refl tt tt), (λ f. refl))

pub returns-in-Some : goal.returns-in-Some
returns-in-Some c = λ blocks l o.
    let x = end_entry c.args.end.now in
    let k = rw c.in-Some.is at l in
    let key = c.in-Some.key.now in
    let number = c.in-Some.seqno in
    let is : c.then.result ≡ ordering_then (slice_cmp nat_cmp c.args.end.now.end_key key) (nat_cmp number c.args.end.now.seqno) = search rules in
    let by = c.is_ge.ensures in (
      (λ t. follows_from blocks (Some (key, number)) (x ∷ []) x k o refl tt (subst (λ r. r ≢ Less) is ((not_less c.then.result).0 (subst IsTrue by t)))),
      (λ f. subst IsTrue (sym by) ((not_less c.then.result).1 (subst (λ r. r ≢ Less) (sym is) (follows_to blocks (Some (key, number)) (x ∷ []) x k refl f).1))),
    )
