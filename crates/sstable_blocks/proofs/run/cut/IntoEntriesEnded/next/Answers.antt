use Rattle.std.proofs.Common.{ap, ◌∙◌}
use Rattle.sst_block_core.specs.Window.{items_left}
use Rattle.sstable_blocks.proofs.Scans.BlockTallies.{made_front, made_once}
use Rattle.sstable_blocks.proofs.Scans.ScanSteps.{next_rest}
use Rattle.sstable_blocks.proofs.run.cut.IntoEntriesEnded.next.Goals as goal

pub returns-clause-taken : goal.returns-clause-taken
returns-clause-taken g c = record {
  first = c.next_entry.ensures.first;
  rest = ap items_left c.next_entry.ensures.window ∙ next_rest c.args.self.now.window;
  lacks = c.next_entry.ensures.memory;
}

pub returns-clause-counts : goal.returns-clause-counts
returns-clause-counts g c = let e = c.next_entry.ensures in made_front c.args.self.now c.next_entry.new.self c.next_entry.result e.interval e.window e.ok e.counts

pub returns-clause-once : goal.returns-clause-once
returns-clause-once g c = let e = c.next_entry.ensures in made_once c.args.self.now c.next_entry.new.self c.next_entry.result e.ok e.counts
