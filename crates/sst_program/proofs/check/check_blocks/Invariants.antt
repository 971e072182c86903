use Rattle.std.proofs.Common.{◌≡◌, ◌≤◌, IfSome}
use Rattle.sstable_blocks.specs.Prelude.{items_left}
use Rattle.sst_program.specs.TableReads.{blocks_listed}
use Rattle.sst_program.proofs.TableFiles.TableReads.{CountsTo}
use Rattle.sst_program.proofs.check.check_blocks.Given as goal

abbrev pub invariant-loop-item : goal.invariant-loop-item
invariant-loop-item g l = record {
  same : g.S.FrameSource.bytes l.source ≡ g.S.FrameSource.bytes l.initial.source;
  failures_grow : g.S.FrameSource.failures l.initial.source ≤ g.S.FrameSource.failures l.source;
  kept : g.S.FrameSource.is_reliable l.initial.source → g.S.FrameSource.is_reliable l.source;
  grow : g.S.FrameSource.reads l.initial.source ≤ g.S.FrameSource.reads l.source;
  known : IfSome (g.S.FrameSource.bytes l.initial.source) (λ all. CountsTo (blocks_listed all l.index.items) (blocks_listed all (items_left l.item-iterator.window)) l.entries);
}
