use Rattle.sstable_blocks.specs.Blocks.{joined}
use Rattle.std.proofs.Common.{[], List, sym, subst, refl}
use Rattle.sstable_blocks.specs.Prelude.{Entry}
use Rattle.sstable_blocks.specs.RunReading.{hashes}
use Rattle.sst_parts.specs.PartCopies.{PartsSoFar}
use Rattle.sst_parts.specs.PartMerges.{AddsEntries, decoded, with_block, BlockRefused, IsFault, IsSameCopier}
use Rattle.sst_parts.proofs.Merged.Held.{adds_none, adds_on, block_begun, block_written, same_on}
use Rattle.std.proofs.lemmas.Result.{err_from_is_err_and}
use Rattle.sst_parts.proofs.Merged.Faults.{refuses_block, refuses_first, refuses_part}
use Rattle.sst_parts.proofs.block_filler.BlockFiller.copy.Goals as goal

pub returns-clause-added : goal.returns-clause-added
returns-clause-added g c = λ blocks is.
    let h = hashes g.H.BlockHash.hash64 g.H.BlockHash.hash128 in
    let i = c.self.inside in
    let w = c.in_ok-copier.copier in
    let v = c.in_ok-copier-2.copier in
    let xs = decoded (joined blocks) in
    let written = subst (λ (ys : List Entry). AddsEntries h i.copier w (decoded ys)) c.deref.ensures.value c.in_ok-copier.ensures.added in
    let one = block_written h i.copier w i.block.items written in
    let two = adds_on h (with_block i.copier i.block.items) w v [] xs one (c.in_ok-copier-2.ensures.added blocks is) in
    let three = adds_none h (with_block i.copier i.block.items) v (with_block v []) xs two (block_begun h v) in
    let done = subst (λ (ys : List Entry). AddsEntries h (with_block i.copier i.block.items) (with_block v ys) xs) (sym c.clear.ensures.items) three in
    subst (λ (u : PartsSoFar g.row.W.Denot). AddsEntries h u (with_block v c.clear.new.self.items) xs) c.self.view_is done

pub returns-in_err-copier-clause-cause : goal.returns-in_err-copier-clause-cause
returns-in_err-copier-clause-cause g c =
    let h = hashes g.H.BlockHash.hash64 g.H.BlockHash.hash128 in
    let i = c.self.inside in
    let e = c.in_err-copier.field-0.0 in
    let p = err_from_is_err_and c.from_residual.result c.from_residual.ensures.1 in
    let f = subst (λ (xs : List Entry). IsFault (g.W.Output.never_fails i.copier.writer) (BlockRefused h i.copier xs) e) c.deref.ensures.value c.in_err-copier.ensures.cause in
    rw (p.1, p.2) (λ blocks is. refuses_first g.W.Output.never_fails h c.args.self (decoded (joined blocks)) e (refuses_block g.W.Output.never_fails h i.copier c.args.self i.block.items e c.self.view_is f))

pub returns-in_err-copier-2-clause-cause : goal.returns-in_err-copier-2-clause-cause
returns-in_err-copier-2-clause-cause g c =
    let h = hashes g.H.BlockHash.hash64 g.H.BlockHash.hash128 in
    let i = c.self.inside in
    let w = c.in_ok-copier.copier in
    let e = c.in_err-copier-2.field-0.0 in
    let p = err_from_is_err_and c.from_residual-in_err-copier-2.result c.from_residual-in_err-copier-2.ensures.1 in
    let written = subst (λ (ys : List Entry). AddsEntries h i.copier w (decoded ys)) c.deref.ensures.value c.in_ok-copier.ensures.added in
    let one = block_written h i.copier w i.block.items written in
    let added = subst (λ (v : PartsSoFar g.row.W.Denot). AddsEntries h v w []) c.self.view_is one in
    let begun : IsSameCopier g.W.Output.never_fails (with_block i.copier i.block.items) i.copier = record { config = refl; sizes = refl; start = refl; reliable = λ n. n } in
    let same = subst (λ (v : PartsSoFar g.row.W.Denot). IsSameCopier g.W.Output.never_fails v w) c.self.view_is (same_on g.W.Output.never_fails (with_block i.copier i.block.items) i.copier w begun c.in_ok-copier.ensures.same) in
    rw (p.1, p.2) (λ blocks is. refuses_part g.W.Output.never_fails h c.args.self w c.args.part.now c.args.end.now blocks e same added is (c.in_err-copier-2.ensures.cause is.named))
