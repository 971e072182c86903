use Rattle.std.proofs.Common.{ap, ◌∙◌, refl, subst, sym}
use Rattle.std.specs.Option.{option_map}
use Rattle.sstable_blocks.specs.Prelude.{items_left}
use Rattle.sstable_blocks.specs.RunReading.{hashes}
use Rattle.std.proofs.Common.{◌≤◌, length}
use Rattle.sst_merge.specs.MovableTables.{IsBackAt, OfBlocks, TableEnd}
use Rattle.sst_merge.specs.MovableBlocks.{entries_before}
use Rattle.sst_merge.proofs.Moving.TableEnds.{back_more_left, back_next, gave_last, gave_none_last}
use Rattle.sst_merge.proofs.Moving.TableFrames.{back_here, back_none_left, back_other}
use Rattle.sst_merge.proofs.movable_table.go_back.Goals as goal

pub returns-in-Some-2-clause-step : goal.returns-in-Some-2-clause-step
returns-in-Some-2-clause-step g c =
    let x = c.in-Some.open in
    let old = x.left.window in
    let new = c.next_entry_back.new.self.window in
    let z = c.in-Some-2.last in
    back_more_left (hashes g.H.BlockHash.hash64 g.H.BlockHash.hash128) g.S.FrameSource.bytes c.args.table.now c.args.back.now x _ c.replace.result z c.in-Some.is c.requires (gave_last (items_left old) (items_left new) c.in_ok-last.field-0 c.in_ok-last.ensures.last z c.in-Some-2.is)
    refl c.count_left-open.ensures.count c.replace.ensures.after c.replace.ensures.value

pub returns-clause-step : goal.returns-clause-step
returns-clause-step g c =
    let x = c.in-Some.open in
    let opened = subst (λ o. OfBlocks (hashes g.H.BlockHash.hash64 g.H.BlockHash.hash128) g.S.FrameSource.bytes c.args.table.now (λ blocks. x.block ≤ length blocks → IsBackAt blocks (entries_before blocks x.block) o)) (sym c.replace-2.ensures.after) c.in_ok-last-2.ensures.back in
    back_next (hashes g.H.BlockHash.hash64 g.H.BlockHash.hash128) g.S.FrameSource.bytes c.args.table.now c.args.back.now c.replace-2.new.dest x c.held_of.result c.in-Some.is c.requires
    (gave_none_last (items_left x.left.window) (items_left c.next_entry_back.new.self.window) c.in_ok-last.field-0 c.in_ok-last.ensures.last c.in_default-2.is) opened
    (c.held_of.ensures ∙ ap (option_map (λ (e : TableEnd). e.held)) c.replace-2.ensures.value)

pub returns-in_default-clause-asks : goal.returns-in_default-clause-asks
returns-in_default-clause-asks g c = back_none_left (hashes g.H.BlockHash.hash64 g.H.BlockHash.hash128) g.S.FrameSource.bytes g.S.FrameSource.reads c.args.table.now c.args.back.now c.in_default.is

pub returns-in-Some-2-clause-asks : goal.returns-in-Some-2-clause-asks
returns-in-Some-2-clause-asks g c = back_here (hashes g.H.BlockHash.hash64 g.H.BlockHash.hash128) g.S.FrameSource.bytes g.S.FrameSource.reads c.args.table.now c.args.back.now c.in-Some.open _ c.replace.result c.in-Some.is refl c.requires (returns-in-Some-2-clause-step g c)

pub returns-clause-asks : goal.returns-clause-asks
returns-clause-asks g c =
    let x = c.in-Some.open in
    let opened = subst (λ o. OfBlocks (hashes g.H.BlockHash.hash64 g.H.BlockHash.hash128) g.S.FrameSource.bytes c.args.table.now (λ blocks. x.block ≤ length blocks → IsBackAt blocks (entries_before blocks x.block) o)) (sym c.replace-2.ensures.after) c.in_ok-last-2.ensures.back in
    back_other (hashes g.H.BlockHash.hash64 g.H.BlockHash.hash128) g.S.FrameSource.bytes g.S.FrameSource.reads c.args.table.now c.open_back.new.table c.args.back.now c.replace-2.new.dest x c.in-Some.is c.requires c.in_ok-last-2.ensures.asks opened
