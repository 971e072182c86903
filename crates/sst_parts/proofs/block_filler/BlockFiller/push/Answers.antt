use Rattle.std.proofs.Common.{◌∷◌, [], List, sym, subst, refl}
use Rattle.std.proofs.lemmas.Result.{IfErr-weaker, IfOk-weaker}
use Rattle.sstable_blocks.specs.Prelude.{Entry, plain}
use Rattle.sstable_blocks.specs.RunReading.{hashes}
use Rattle.sst_parts.specs.PartCopies.{PartsSoFar}
use Rattle.sst_parts.specs.PartMerges.{AddsEntries, with_block, IsRefused, IsSameCopier}
use Rattle.sst_parts.proofs.Merged.Held.{adds_none, block_grown}
use Rattle.sst_parts.proofs.Merged.Faults.{fault_map, refused_on}
use Rattle.sst_parts.proofs.block_filler.BlockFiller.push.Goals as goal

pub returns-then-len-size-clause-added : goal.returns-then-len-size-clause-added
returns-then-len-size-clause-added g c =
    let h = hashes g.H.BlockHash.hash64 g.H.BlockHash.hash128 in
    let i = c.self.inside in
    let grown = subst (λ (xs : List Entry). AddsEntries h (with_block i.copier i.block.items) (with_block i.copier xs) (plain c.args.entry ∷ [])) (sym c.in_ok-push.ensures.items) (block_grown h i.copier i.block.items c.args.entry) in
    subst (λ (v : PartsSoFar g.row.W.Denot). AddsEntries h v (with_block i.copier c.push.new.self.items) (plain c.args.entry ∷ [])) c.self.view_is grown

pub returns-clause-added : goal.returns-clause-added
returns-clause-added g c =
    let h = hashes g.H.BlockHash.hash64 g.H.BlockHash.hash128 in
    let i = c.self.inside in
    let grown = subst (λ (xs : List Entry). AddsEntries h (with_block i.copier i.block.items) (with_block i.copier xs) (plain c.args.entry ∷ [])) (sym c.in_ok-push.ensures.items) (block_grown h i.copier i.block.items c.args.entry) in
    let both = subst (λ (v : PartsSoFar g.row.W.Denot). AddsEntries h v (with_block i.copier c.push.new.self.items) (plain c.args.entry ∷ [])) c.self.view_is grown in
    IfOk-weaker c.flushed.result _ _ (λ f k. adds_none h c.args.self (with_block i.copier c.push.new.self.items) f (plain c.args.entry ∷ []) both k) c.flushed.ensures.added

pub returns-clause-cause : goal.returns-clause-cause
returns-clause-cause g c =
    let h = hashes g.H.BlockHash.hash64 g.H.BlockHash.hash128 in
    let i = c.self.inside in
    let one = plain c.args.entry ∷ [] in
    let next = with_block i.copier c.push.new.self.items in
    let grown = subst (λ (xs : List Entry). AddsEntries h (with_block i.copier i.block.items) (with_block i.copier xs) one) (sym c.in_ok-push.ensures.items) (block_grown h i.copier i.block.items c.args.entry) in
    let both = subst (λ (v : PartsSoFar g.row.W.Denot). AddsEntries h v next one) c.self.view_is grown in
    let begun : IsSameCopier g.W.Output.never_fails (with_block i.copier i.block.items) next = record { config = refl; sizes = refl; start = refl; reliable = λ n. n } in
    let same = subst (λ (v : PartsSoFar g.row.W.Denot). IsSameCopier g.W.Output.never_fails v next) c.self.view_is begun in
    IfErr-weaker c.flushed.result _ _ (λ e f. fault_map (g.W.Output.never_fails next.writer) (g.W.Output.never_fails c.args.self.writer) (IsRefused g.W.Output.never_fails h next []) (IsRefused g.W.Output.never_fails h c.args.self one) e same.reliable
    (λ r. refused_on g.W.Output.never_fails h c.args.self next e same one [] both r) f) c.flushed.ensures.cause
