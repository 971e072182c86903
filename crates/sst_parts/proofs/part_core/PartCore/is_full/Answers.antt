use Rattle.std.proofs.Common.{◌≡◌, ◌||◌, true, ap, sym, ◌∙◌, subst}
use Rattle.sst_parts.specs.PartCopies.{PartsSoFar}
use Rattle.sst_parts.specs.PartWriting.{data_len, is_full, reaches}
use Rattle.sst_parts.proofs.Writing.Blocks.{full_by}
use Rattle.sstable_blocks.specs.Blocks.{joined}
use Rattle.sst_parts.proofs.part_core.PartCore.is_full.Goals as goal

pub returns-then-by_blocks : goal.returns-then-by_blocks
returns-then-by_blocks g c =
    let i = c.self.inside in
    let e = c.reached-by_blocks.ensures ∙ ap (reaches i.sizes.blocks) c.block_count.ensures in
    let h = c.spent-by_bytes.ensures (data_len (joined i.run.blocks)) c.self.invariant.left_is in
    let full = full_by i.sizes i.run.blocks c.reached-by_blocks.result c.spent-by_bytes.result e h ∙ ap (λ a. a || c.spent-by_bytes.result) c.if-by_blocks.true in
    subst (λ (v : PartsSoFar g.row.W.Denot). true ≡ is_full v.sizes v.current) c.self.view_is (sym full)

pub returns-else-by_blocks : goal.returns-else-by_blocks
returns-else-by_blocks g c =
    let i = c.self.inside in
    let e = c.reached-by_blocks.ensures ∙ ap (reaches i.sizes.blocks) c.block_count.ensures in
    let h = c.spent-by_bytes.ensures (data_len (joined i.run.blocks)) c.self.invariant.left_is in
    let full = full_by i.sizes i.run.blocks c.reached-by_blocks.result c.spent-by_bytes.result e h ∙ ap (λ a. a || c.spent-by_bytes.result) c.if-by_blocks.false in
    subst (λ (v : PartsSoFar g.row.W.Denot). c.spent-by_bytes.result ≡ is_full v.sizes v.current) c.self.view_is (sym full)
