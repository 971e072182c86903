use Rattle.std.proofs.Common.{rules, ap, sym, subst, ◌≤◌, ℕ, List, length}
use Rattle.std.proofs.lemmas.Result.{err_from_is_err_and}
use Rattle.sstable_blocks.specs.Run.{form, RunFits, IsFilterText}
use Rattle.sstable_blocks.specs.Writing.{Written, IsKept}
use Rattle.sstable_blocks.proofs.Layouts.Endings.{hashes_some, filter_is, filter_fits, part_refused}
use Rattle.sstable_blocks.proofs.run.run_core.RunCore.write_filter.Goals as goal

pub filter_of-requires-clause-some : goal.filter_of-requires-clause-some
filter_of-requires-clause-some g c =
    let k = subst (λ (w : Written). IsKept (form g.H.BlockHash.hash64 g.H.BlockHash.hash128 w.config) w.blocks c.self.inside.handles.items c.self.inside.hashes.items c.self.inside.offset) c.self.view_is c.self.invariant in
    let f = form g.H.BlockHash.hash64 g.H.BlockHash.hash128 c.args.self.now.config in
    let bits = ap (λ (w : Written). w.config.bits_per_key) c.self.view_is in
    let active : 1 ≤ c.self.inside.config.bits_per_key = search rules in
    let some : 1 ≤ c.args.self.now.config.bits_per_key = subst (λ n. 1 ≤ n) bits active in
    subst (λ (xs : List ℕ). 1 ≤ length xs) (sym c.deref.ensures.value) (hashes_some f c.args.self.now.blocks c.self.inside.handles.items c.self.inside.hashes.items c.self.inside.offset k c.requires.some some)

pub returns-in_err-handle-clause-cause : goal.returns-in_err-handle-clause-cause
returns-in_err-handle-clause-cause g c =
    let k = subst (λ (w : Written). IsKept (form g.H.BlockHash.hash64 g.H.BlockHash.hash128 w.config) w.blocks c.self.inside.handles.items c.self.inside.hashes.items c.self.inside.offset) c.self.view_is c.self.invariant in
    let f = form g.H.BlockHash.hash64 g.H.BlockHash.hash128 c.args.self.now.config in
    let bits = ap (λ (w : Written). w.config.bits_per_key) c.self.view_is in
    let active : 1 ≤ c.self.inside.config.bits_per_key = search rules in
    let some : 1 ≤ c.args.self.now.config.bits_per_key = subst (λ n. 1 ≤ n) bits active in
    let is = filter_is f c.args.self.now.blocks c.self.inside.handles.items c.self.inside.hashes.items c.self.inside.offset k c.requires.some some c.deref.result.now c.self.inside.config.bits_per_key c.deref-2.result.now c.deref.ensures.value bits
    (subst (IsFilterText c.deref.result.now c.self.inside.config.bits_per_key) (sym c.deref-2.ensures.value) c.in_ok-payload.ensures.ok) in
    let p = err_from_is_err_and c.from_residual-in_err-handle.result c.from_residual-in_err-handle.ensures.1 in
    rw (p.1, p.2) (part_refused (RunFits f c.args.self.now.blocks) c.args.offset c.deref-2.result.now c.in_err-handle.field-0.0 c.in_err-handle.ensures.cause (filter_fits f c.args.self.now.blocks some c.deref-2.result.now c.args.offset is c.requires.offset))
