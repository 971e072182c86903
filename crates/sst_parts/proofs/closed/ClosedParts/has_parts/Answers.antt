use Rattle.std.proofs.Common.{◌≡◌, ◌≤◌, ◌↔◌, ◌==◌, Bool, true, false, ℕ, IsTrue, length, vec_len, not, refl, arith, sym, subst}
use Rattle.std.proofs.lemmas.Bool.{eqb-true, eqb-false}
use Rattle.sstable_blocks.specs.Run.{form}
use Rattle.sst_parts.proofs.Writing.Closings.{tops_count}
use Rattle.sst_parts.specs.PartCopies.{ClosedView}
use Rattle.sst_parts.proofs.closed.ClosedParts.has_parts.Goals as goal

some_by : (empty : Bool) (n m : ℕ) → empty ≡ (n == 0) → n ≡ m → IsTrue (not empty) ↔ (1 ≤ m)
some_by true n m e same = ((λ t. absurd (cc)), (λ some. let zero = eqb-true n 0 (sym e) in absurd (omega arith)))
some_by false n m e same = ((λ t. let more = eqb-false n 0 (sym e) in omega arith), (λ some. refl))

pub returns : goal.returns
returns g c =
    let i = c.self.inside in
    let f = form g.H.BlockHash.hash64 g.H.BlockHash.hash128 i.config in
    subst (λ (v : ClosedView). IsTrue (not c.is_empty.result) ↔ (1 ≤ length v.parts)) c.self.view_is
    (some_by c.is_empty.result (vec_len i.tops) (length i.parts) c.is_empty.ensures (omega (arith, i.tops.ok.0, tops_count f i.parts i.start i.after i.tops.items i.offset c.self.invariant)))
