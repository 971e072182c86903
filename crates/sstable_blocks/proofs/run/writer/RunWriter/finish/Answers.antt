use Rattle.std.proofs.Common.{◌≡◌, subst, None}
use Rattle.sstable_blocks.specs.Run.{form}
use Rattle.sstable_blocks.specs.Writing.{AppendsLayout}
use Rattle.sstable_blocks.proofs.Layouts.CutLoops.{layout_joined}
use Rattle.sstable_blocks.proofs.Layouts.SoundLayouts.{layout_is_sound}
use Rattle.sstable_blocks.proofs.run.writer.RunWriter.finish.Goals as goal

pub returns-clause-layout : goal.returns-clause-layout
returns-clause-layout g c =
    let f = form g.H.BlockHash.hash64 g.H.BlockHash.hash128 c.self.inside.core.config in
    let none : c.self.inside.refusal ≡ None = search (c.in_default.is, c.in_default.not-Some) in
    let layout = layout_joined f c.self.inside.core.blocks c.self.inside.start (g.W.Write.contents c.self.inside.writer) (g.W.Write.contents c.finish.new.writer) c.in_ok-handles.handles (c.self.invariant.frames none) c.in_ok-handles.ensures.layout in
    subst (λ w. AppendsLayout (form g.H.BlockHash.hash64 g.H.BlockHash.hash128 w.config) w.blocks w.start (g.W.Write.contents c.finish.new.writer) c.in_ok-handles.handles) c.self.view_is layout

pub returns-clause-sound : goal.returns-clause-sound
returns-clause-sound g c =
    let l = returns-clause-layout g c in
    (l.0, layout_is_sound _ _ l.0 _ l.1, l.2)
