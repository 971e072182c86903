use Rattle.std.proofs.Common.{Bool, true, false, if◌then◌else◌, ◌+◌, ap, ◌∙◌, arith, length, refl, subst, sym, ◌≡◌, ◌-◌}
use Rattle.std.specs.Option.{option_map}
use Rattle.sstable_blocks.specs.Prelude.{Entry, Window, items_left, next, some_left}
use Rattle.sstable_blocks.specs.RunReading.{hashes}
use Rattle.sst_merge.specs.MovableTables.{IsFrontAt, OfBlocks, TableEnd}
use Rattle.sst_merge.specs.MovableBlocks.{entries_before}
use Rattle.sst_merge.proofs.Moving.TableEnds.{forth_more, forth_next, gave_first, gave_none_first}
use Rattle.sst_merge.proofs.Moving.TableFrames.{forth_here, forth_none, forth_other}
use Rattle.sst_merge.proofs.movable_table.go_forth.Goals as goal

-- a step keeps the list of a window
same_list : (w v : Window Entry) → v ≡ (next w).0 → v.list ≡ w.list
same_list w v is = ap (λ (u : Window Entry). u.list) is ∙ kept (some_left w)
  where
    kept : (t : Bool) → (if t then record w { lo = w.lo + 1 } else w).list ≡ w.list
    kept true = refl
    kept false = refl

pub returns-in-Some-2-clause-step : goal.returns-in-Some-2-clause-step
returns-in-Some-2-clause-step g c =
    let x = c.in-Some.open in
    let old = x.left.window in
    let new = c.next_entry.new.self.window in
    let z = c.in-Some-2.next in
    let at : c.len.result - c.count_left.result - 1 ≡ length new.list - length (items_left new) - 1 = (let a = c.len.ensures.count ∙ ap length c.block.ensures.items in let b = c.count_left.ensures.count in omega (arith, a, b)) in
    forth_more (hashes g.H.BlockHash.hash64 g.H.BlockHash.hash128) g.S.FrameSource.bytes c.args.table.now c.args.front.now x _ c.replace.result z c.in-Some.is c.requires.holds c.requires.whole (gave_first (items_left old) (items_left new) c.in_ok-next.field-0 c.in_ok-next.ensures.first z c.in-Some-2.is)
    (same_list old new c.in_ok-next.ensures.window) refl at c.replace.ensures.after c.replace.ensures.value

pub returns-clause-step : goal.returns-clause-step
returns-clause-step g c =
    let x = c.in-Some.open in
    let opened = subst (λ o. OfBlocks (hashes g.H.BlockHash.hash64 g.H.BlockHash.hash128) g.S.FrameSource.bytes c.args.table.now (λ blocks. IsFrontAt blocks (entries_before blocks (x.block + 1)) o)) (sym c.replace-2.ensures.after) c.in_ok-next-2.ensures.front in
    forth_next (hashes g.H.BlockHash.hash64 g.H.BlockHash.hash128) g.S.FrameSource.bytes c.args.table.now c.args.front.now c.replace-2.new.dest x c.held_of.result c.in-Some.is c.requires.holds
    (gave_none_first (items_left x.left.window) (items_left c.next_entry.new.self.window) c.in_ok-next.field-0 c.in_ok-next.ensures.first c.in_default-2.is) opened
    (c.held_of.ensures ∙ ap (option_map (λ (e : TableEnd). e.held)) c.replace-2.ensures.value)

pub returns-in_default-clause-asks : goal.returns-in_default-clause-asks
returns-in_default-clause-asks g c = forth_none (hashes g.H.BlockHash.hash64 g.H.BlockHash.hash128) g.S.FrameSource.bytes g.S.FrameSource.reads c.args.table.now c.args.front.now c.in_default.is

pub returns-in-Some-2-clause-asks : goal.returns-in-Some-2-clause-asks
returns-in-Some-2-clause-asks g c = forth_here (hashes g.H.BlockHash.hash64 g.H.BlockHash.hash128) g.S.FrameSource.bytes g.S.FrameSource.reads c.args.table.now c.args.front.now c.in-Some.open _ c.replace.result c.in-Some.is refl (returns-in-Some-2-clause-step g c)

pub returns-clause-asks : goal.returns-clause-asks
returns-clause-asks g c =
    let x = c.in-Some.open in
    let opened = subst (λ o. OfBlocks (hashes g.H.BlockHash.hash64 g.H.BlockHash.hash128) g.S.FrameSource.bytes c.args.table.now (λ blocks. IsFrontAt blocks (entries_before blocks (x.block + 1)) o)) (sym c.replace-2.ensures.after) c.in_ok-next-2.ensures.front in
    forth_other (hashes g.H.BlockHash.hash64 g.H.BlockHash.hash128) g.S.FrameSource.bytes g.S.FrameSource.reads c.args.table.now c.open_front.new.table (x.block + 1) c.replace-2.new.dest (omega arith) c.in_ok-next-2.ensures.asks opened
