use Rattle.std.proofs.Common.{ap, ◌∙◌}
use Rattle.std.proofs.lemmas.Result.{IfOk-weaker}
use Rattle.sst_block_core.specs.Window.{items_left}
use Rattle.sstable_blocks.proofs.Scans.BlockTallies.{made_back}
use Rattle.sstable_blocks.proofs.Scans.ScanSteps.{back_rest}
use Rattle.sstable_blocks.proofs.Scans.EndReads.{seen_last, seen_rest}
use Rattle.sstable_blocks.proofs.run.cut.IntoEntriesEnded.next_back.Goals as goal

pub returns-clause-taken : goal.returns-clause-taken
returns-clause-taken g c = record {
  first = IfOk-weaker c.next_entry_back.result _ _ (λ x last. seen_last (items_left c.args.self.now.window) (items_left c.next_entry_back.new.self.window) x last) c.next_entry_back.ensures.last;
  rest = seen_rest (items_left c.args.self.now.window) (items_left c.next_entry_back.new.self.window) (ap items_left c.next_entry_back.ensures.window ∙ back_rest c.args.self.now.window c.count_left-count.ensures.within);
  lacks = c.next_entry_back.ensures.memory;
}

pub returns-clause-counts : goal.returns-clause-counts
returns-clause-counts g c = let e = c.next_entry_back.ensures in made_back c.args.self.now c.next_entry_back.new.self c.next_entry_back.result c.count_left-count.ensures.within e.interval e.window e.ok e.counts
