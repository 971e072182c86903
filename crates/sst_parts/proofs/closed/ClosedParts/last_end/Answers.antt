use Rattle.std.proofs.Common.{◌≡◌, ◌∙◌, ◌-◌, [], ℕ, List, length, Some, None, ap, sym, subst}
use Rattle.std.specs.List.{slice_get}
use Rattle.sstable_blocks.specs.Prelude.{Handle}
use Rattle.sstable_blocks.specs.Blocks.{joined}
use Rattle.sstable_blocks.specs.Run.{form}
use Rattle.sst_parts.proofs.Writing.Closings.{last_closed, none_closed}
use Rattle.sst_parts.specs.PartCopies.{ClosedView, IsLastKey, known_parts}
use Rattle.sst_parts.proofs.closed.ClosedParts.last_end.Goals as goal

pub returns-in-None : goal.returns-in-None
returns-in-None g c =
    let i = c.self.inside in
    let f = form g.H.BlockHash.hash64 g.H.BlockHash.hash128 i.config in
    let none : slice_get i.tops.items (length i.tops.items - 1) ≡ None = ap (λ (xs : List Handle). slice_get xs (length xs - 1)) (sym c.deref.ensures.value) ∙ sym c.in-None.ensures.value in
    subst (λ (v : ClosedView). joined (joined (known_parts v.parts)) ≡ []) c.self.view_is (none_closed f i.parts i.start i.after i.tops.items i.offset c.self.invariant none)

pub returns-in-Some : goal.returns-in-Some
returns-in-Some g c =
    let i = c.self.inside in
    let f = form g.H.BlockHash.hash64 g.H.BlockHash.hash128 i.config in
    let h = c.in-Some.end.now in
    let last : slice_get i.tops.items (length i.tops.items - 1) ≡ Some h = ap (λ (xs : List Handle). slice_get xs (length xs - 1)) (sym c.deref.ensures.value) ∙ sym c.in-Some.ensures.value in
    let key : h.end_key ≡ c.as_slice.result.now = sym (c.as_slice.ensures ∙ c.end_key.ensures.value) in
    let number : h.seqno ≡ c.seqno.result = sym c.seqno.ensures in
    subst (λ (v : ClosedView). IsLastKey (joined (joined (known_parts v.parts))) (Some (c.as_slice.result.now, c.seqno.result))) c.self.view_is
    (subst (λ (n : ℕ). IsLastKey (joined (joined (known_parts i.parts))) (Some (c.as_slice.result.now, n))) number
    (subst (λ (k : List ℕ). IsLastKey (joined (joined (known_parts i.parts))) (Some (k, h.seqno))) key (last_closed f i.parts i.start i.after i.tops.items i.offset c.self.invariant h last)))
