use Rattle.std.proofs.Common.{◌≡◌, ◌+◌, Some, ◌∙◌, ap, sym, arith}
use Rattle.sstable_blocks.specs.Prelude.{Entry, plain, entries, first_match}
use Rattle.sst_examples.proofs.Stored.Places.{all_at, found_here, found_later, found_none}
use Rattle.sst_examples.proofs.store.memory.newest.Goals as goal

pub returns-then-is_version : goal.returns-then-is_version
returns-then-is_version c =
    let memory = c.args.memory.now in
    let at = c.loop-entry.entry-index in
    let held = c.entry-item.result in
    let hit = sym c.is_version.ensures ∙ c.if-is_version.true in
    ap Some (sym (all_at (λ (x : Entry). plain x ≡ x) memory at held c.requires c.loop-entry-test.true c.entry-item.is))
    ∙ sym (found_here c.args.key.now c.args.seqno memory at held (first_match entries c.args.key.now c.args.seqno memory) c.loop-entry.invariant c.loop-entry-test.true c.entry-item.is hit)

pub loop-entry-preserved : goal.loop-entry-preserved
loop-entry-preserved c =
    let memory = c.args.memory.now in
    let at = c.loop-entry.entry-index in
    found_later c.args.key.now c.args.seqno memory at (at + 1) c.entry-item.result (first_match entries c.args.key.now c.args.seqno memory) c.loop-entry.invariant c.loop-entry-test.true c.entry-item.is
    (sym c.is_version.ensures ∙ c.if-is_version.false) (omega arith)

pub returns : goal.returns
returns c =
    let memory = c.args.memory.now in
    sym (found_none c.args.key.now c.args.seqno memory c.loop-entry.entry-index (first_match entries c.args.key.now c.args.seqno memory) c.loop-entry.invariant c.loop-entry-test.false)
