use Rattle.std.proofs.Common.{◌++◌, ◌∷◌, [], ap, ◌∙◌}
use Rattle.sst_parts.proofs.Writing.Closings.{parted_ended}
use Rattle.sstable_blocks.specs.Footer.{footer}
use Rattle.sstable_blocks.specs.Run.{form}
use Rattle.sst_parts.proofs.writer.PartWriter.finish.Goals as goal

pub returns-clause-layout : goal.returns-clause-layout
returns-clause-layout g c =
    let s = c.args.self in
    let contents = g.W.Write.contents in
    parted_ended (form g.H.BlockHash.hash64 g.H.BlockHash.hash128 s.config) (s.parts ++ s.current ∷ []) s.start (contents c.in_ok-top.writer) (contents c.put.new.self) c.in_ok-top.top _ c.in_ok-top.ensures.parts c.in_ok-put.ensures.ok
    (c.encode_footer.ensures ∙ ap footer c.footer_handles.ensures)

pub returns-clause-sound : goal.returns-clause-sound
returns-clause-sound g c =
    let s = c.args.self in
    let f = form g.H.BlockHash.hash64 g.H.BlockHash.hash128 s.config in
    let l = returns-clause-layout g c in
    (l.0, c.parted_layout_is_parted.ensures f (s.parts ++ s.current ∷ []) l.0 c.in_ok-top.top l.1, l.2)
