use Rattle.std.proofs.Common.{◌≡◌, Ok, subst, IfSome}
use Rattle.sstable_blocks.specs.RunReading.{hashes, handles_at}
use Rattle.sstable_blocks.specs.KeptLaws.{index_kept}
use Rattle.sstable_blocks.proofs.run.table.Table.index.Goals as goal

pub returns-clause-kept : goal.returns-clause-kept
returns-clause-kept g c =
    let h = hashes g.H.BlockHash.hash64 g.H.BlockHash.hash128 in
    subst (λ w. IfSome (g.S.FrameSource.bytes w.source) (λ all. handles_at h all w.handles.index ≡ Ok w.index)) c.self.view_is (index_kept h _ _ _ _ _ c.self.invariant)
