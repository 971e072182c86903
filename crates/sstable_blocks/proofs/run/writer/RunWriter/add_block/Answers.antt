use Rattle.std.proofs.Common.{◌≡◌, map, sym, subst, OnOk, ◌≤◌, ◌∷◌, [], ◌++◌}
use Rattle.std.specs.Io.KnownBytes.{Appends}
use Rattle.sstable_blocks.specs.Run.{form, block_frame, block_frames}
use Rattle.sstable_blocks.specs.declared.run.RunConfig.{RunConfig}
use Rattle.sstable_blocks.proofs.Layouts.CutLoops.{bytes_next}
use Rattle.sstable_blocks.proofs.run.writer.RunWriter.add_block.Goals as goal

pub invariant_of-self-in_default-added : goal.invariant_of-self-in_default-added
invariant_of-self-in_default-added g c =
    let items = map g.T.AsEntry.entry c.args.items.now in
    let e = c.add_block-added.ensures in
    let f = form g.H.BlockHash.hash64 g.H.BlockHash.hash128 c.self.inside.core.config in
    let accepted = subst (λ r. OnOk r (c.add_block-added.new.self.blocks ≡ c.self.inside.core.blocks ++ items ∷ [])) c.in_default-added.is e.accepted in
    let bytes = subst (λ r. OnOk r (Appends (g.W.Write.contents c.self.inside.writer) (g.W.Write.contents c.add_block-added.new.writer) (block_frame f items))) c.in_default-added.is e.bytes in
    record {
      den = subst (λ (k : RunConfig). 1 ≤ k.ratio.den) (sym e.config) c.self.invariant.den;
      frames = λ z. subst (λ k. Appends c.self.inside.start (g.W.Write.contents c.add_block-added.new.writer) (block_frames (form g.H.BlockHash.hash64 g.H.BlockHash.hash128 k) c.add_block-added.new.self.blocks)) (sym e.config)
          (bytes_next f _ _ _ _ _ _ (c.self.invariant.frames z) bytes accepted);
    }
