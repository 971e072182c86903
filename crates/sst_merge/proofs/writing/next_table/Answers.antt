use Rattle.std.proofs.Common.{◌≡◌, ℕ, ◌<◌, ◌≤◌, ◌∙◌, ◌∷◌, ◌++◌, [], refl, ap, sym, subst, arith, length, map, List, append-nil}
use Rattle.std.proofs.lemmas.Result.{err_from_is_err_and}
use Rattle.std.proofs.lemmas.List.{length-map}
use Rattle.std.specs.List.{AllByRecursion}
use Rattle.std.specs.Option.{IfSome}
use Rattle.sstable_blocks.specs.Prelude.{Entry}
use Rattle.sstable_blocks.specs.Blocks.{joined}
use Rattle.sst_merge.specs.SizeLaws.{filled_more, joined_some, len_block, one_shortest, reaches_by, shortest_block, some_first}
use Rattle.sst_sources.specs.Sources.{IsTaken}
use Rattle.sstable_blocks.specs.TableKinds.{SoFar}
use Rattle.sst_merge.specs.TableLaws.{apart_blocks, taken_block, taken_none, some_push, none_left}
use Rattle.sst_merge.specs.WriteLaws.{entries_taken, not_added}
use Rattle.sst_merge.specs.Tables.{IsApart, IsFilled, IsShortest, MayNotAdd, Reaches, block_len, blocks_len, capped, entries_in}
use Rattle.sst_merge.proofs.writing.next_table.Goals as goal

pub returns-then-is_none-clause-done : goal.returns-then-is_none-clause-done
returns-then-is_none-clause-done g c = none_left (λ r. r.now) c.args.source.now.list c.peek.result c.peek.ensures.first c.if-is_none.ensures

pub loop-alloc-preserved : goal.loop-alloc-preserved
loop-alloc-preserved g c =
    let added = c.in_ok-more.ensures in
    let blocks_before = (g.K.TableWriter.so_far c.loop-alloc.table).blocks in
    let before = c.loop-alloc.invariant in
    let entry = g.T.AsEntry.entry in
    let block = map entry c.add_block-in-loop-alloc.new.block.items in
    let left = entries_in entry c.add_block-in-loop-alloc.new.source.list in
    let now = entries_in entry c.loop-alloc.source.list in
    let given = entries_in entry c.args.source.now.list in
    let taken = entries_taken entry c.loop-alloc.source.list c.add_block-in-loop-alloc.new.source.list c.add_block-in-loop-alloc.new.block.items added.taken.taken in
    let some : 1 ≤ length (map entry c.loop-alloc.block.items) = (let n = length-map c.loop-alloc.block.items entry in omega (arith, before.entries, n)) in
    let more : 1 ≤ length block = added.added.some in
    let one : 1 ≤ length c.add_block-in-loop-alloc.new.block.items = (let n = length-map c.add_block-in-loop-alloc.new.block.items entry in omega (arith, more, n)) in
    let r = c.restart_interval-interval.result in
    record {
      form = added.added.form ∙ before.form;
      start = added.added.start ∙ before.start;
      accepts = added.goes_on.0;
      reliable = λ n. added.goes_on.1 (before.reliable n);
      some = subst (λ (bs : List (List Entry)). 1 ≤ length bs) (sym added.added.blocks) (some_push blocks_before block);
      last = (blocks_before, added.added.blocks);
      entries = one;
      len = subst (λ (bs : List (List Entry)). c.saturating_add-len.result ≡ capped (blocks_len r bs)) (sym added.added.blocks)
          (len_block r blocks_before block c.loop-alloc.len c.in_ok-more.added c.saturating_add-len.result before.len added.len c.saturating_add-len.ensures);
      filled = subst (AllByRecursion (IsFilled r c.args.sizes.block left)) (sym added.added.blocks) (filled_more r c.args.sizes.block now left blocks_before block before.filled taken added.taken.filled);
      shortest = subst (λ (bs : List (List Entry)). IfSome given (λ _. IsShortest r c.args.sizes.table bs)) (sym added.added.blocks)
          (shortest_block r c.args.sizes.table blocks_before before.last.0 (map entry c.loop-alloc.block.items) block given now left before.taken taken before.shortest before.last.1 some more
          (subst (λ last. IfSome now (λ rest. IsApart (map entry last) rest → blocks_len r blocks_before < c.args.sizes.table)) c.deref.ensures.value
          (c.goes_on.ensures.goes_on (blocks_len r blocks_before) before.len c.loop-alloc-test.true)));
      taken = subst (λ (bs : List (List Entry)). IsTaken given (joined bs) left) (sym added.added.blocks)
          (taken_block given now left blocks_before block before.taken taken);
      most = (let less = added.taken.most in let e = before.most in omega (arith, less, one, e));
      ended = added.taken.ended ∙ before.ended;
      no_more = λ e met. before.no_more e (added.taken.no_more e met);
    }

pub returns-clause-table : goal.returns-clause-table
returns-clause-table g c =
    let inv = c.loop-alloc.invariant in
    let kind = g.K.TableWriter.kind in
    let now = g.K.TableWriter.so_far c.loop-alloc.table in
    let handles = c.in_ok-handles.handles in
    let bytes = g.K.Writer.Write.contents c.in_ok-handles.writer in
    let blocks = now.blocks in
    let entry = g.T.AsEntry.entry in
    let left = entries_in entry c.loop-alloc.source.list in
    let block = map entry c.loop-alloc.block.items in
    let entries : 1 ≤ length block = (let n = length-map c.loop-alloc.block.items entry in let some = inv.entries in omega (arith, some, n)) in
    let given = entries_in entry c.args.source.now.list in
    let r = c.restart_interval-interval.result in
    let is = c.restart_interval-interval.ensures.interval in
    record {
      blocks = blocks;
      layout = subst (λ form. (kind form).appends blocks (g.K.Writer.Write.contents c.args.writer) bytes handles) inv.form
          (subst (λ start. (kind now.form).appends blocks start bytes handles) inv.start c.in_ok-handles.ensures.table);
      some = joined_some blocks inv.last.0 block inv.last.1 entries;
      taken = inv.taken;
      apart = apart_blocks blocks inv.last.0 block left inv.last.1 entries (subst (λ last. IfSome left (IsApart (map entry last))) c.deref.ensures.value (c.goes_on.ensures.apart c.loop-alloc-test.false));
      filled = subst (λ (n : ℕ). AllByRecursion (IsFilled n c.args.sizes.block left) blocks) is inv.filled;
      reaches = subst (λ (n : ℕ). Reaches c.args.sizes.table (blocks_len n blocks) left) is (reaches_by left (blocks_len r blocks) c.loop-alloc.len c.args.sizes.table inv.len (c.goes_on.ensures.reaches c.loop-alloc-test.false));
      shortest = subst (λ (n : ℕ). IfSome given (λ _. IsShortest n c.args.sizes.table blocks)) is inv.shortest;
    }

pub loop-alloc-init : goal.loop-alloc-init
loop-alloc-init g c =
    let added = c.in_ok-table.ensures in
    let entry = g.T.AsEntry.entry in
    let so_far = g.K.TableWriter.so_far in
    let block = map entry c.add_block.new.block.items in
    let given = entries_in entry c.args.source.now.list in
    let left = entries_in entry c.add_block.new.source.list in
    let r = c.restart_interval-interval.result in
    let begun = c.begin-begun.ensures.so_far in
    let blocks : (so_far c.in_ok-table.table).blocks ≡ block ∷ [] = added.added.blocks ∙ ap (λ (w : SoFar _). w.blocks ++ block ∷ []) begun in
    let one : blocks_len r (block ∷ []) ≡ block_len r block = omega arith in
    let some : 1 ≤ length c.add_block.new.block.items = (let n = length-map c.add_block.new.block.items entry in let e = added.added.some in omega (arith, e, n)) in
    record {
      form = added.added.form ∙ ap (λ (w : SoFar _). w.form) begun;
      start = added.added.start ∙ ap (λ (w : SoFar _). w.start) begun;
      accepts = added.goes_on.0;
      reliable = λ n. added.goes_on.1 (c.begin-begun.ensures.reliable n);
      some = subst (λ (bs : List (List Entry)). 1 ≤ length bs) (sym blocks) (omega arith);
      last = ([], blocks);
      entries = some;
      len = subst (λ (bs : List (List Entry)). c.in_ok-table.len ≡ capped (blocks_len r bs)) (sym blocks) (added.len ∙ ap capped (sym one));
      filled = subst (AllByRecursion (IsFilled r c.args.sizes.block left)) (sym blocks) (added.taken.filled, tt);
      shortest = subst (λ (bs : List (List Entry)). IfSome given (λ _. IsShortest r c.args.sizes.table bs)) (sym blocks) (one_shortest r c.args.sizes.table given block);
      taken = subst (λ (bs : List (List Entry)). IsTaken given (joined bs) left) (sym blocks)
          (subst (λ xs. IsTaken given xs left) (sym (append-nil block)) (entries_taken entry c.args.source.now.list c.add_block.new.source.list c.add_block.new.block.items added.taken.taken));
      most = (let less = added.taken.most in omega (arith, less, some));
      ended = added.taken.ended;
      no_more = added.taken.no_more;
    }

pub returns-in_err-table-clause-cause : goal.returns-in_err-table-clause-cause
returns-in_err-table-clause-cause g c =
    let kind = g.K.TableWriter.kind in
    let entry = g.T.AsEntry.entry in
    let given = c.args.source.now in
    let block = c.add_block.new.block.items in
    let after = c.add_block.new.source in
    let may_fail = g.I.Source.may_fail in
    let fails = g.K.TableWriter.is_reliable c.begin-begun.result → ⊥ in
    let p = err_from_is_err_and c.from_residual.result c.from_residual.ensures.1 in
    let wrong = subst (λ (w : SoFar _). MayNotAdd may_fail fails entry (kind w.form) w.blocks c.args.sizes.block given block after c.in_err-table.field-0.0) c.begin-begun.ensures.so_far c.in_err-table.ensures.cause in
    rw (p.1, p.2) (not_added may_fail (g.K.Writer.Output.never_fails c.args.writer → ⊥) entry (kind c.args.form) c.args.sizes.block given [] fails (λ fails n. fails (c.begin-begun.ensures.reliable n)) given after block c.in_err-table.field-0.0 (taken_none (entries_in entry given.list)) tt (λ e met. met)
    (some_first (λ r. r.now) given.list c.peek.result c.peek.ensures.first c.if-is_none.ensures) wrong)

pub returns-in_err-more-clause-cause : goal.returns-in_err-more-clause-cause
returns-in_err-more-clause-cause g c =
    let kind = g.K.TableWriter.kind in
    let entry = g.T.AsEntry.entry in
    let inv = c.loop-alloc.invariant in
    let blocks = (g.K.TableWriter.so_far c.loop-alloc.table).blocks in
    let now = c.loop-alloc.source in
    let block = c.add_block-in-loop-alloc.new.block.items in
    let after = c.add_block-in-loop-alloc.new.source in
    let may_fail = g.I.Source.may_fail in
    let fails = g.K.TableWriter.is_reliable c.loop-alloc.table → ⊥ in
    let p = err_from_is_err_and c.from_residual-in_err-more.result c.from_residual-in_err-more.ensures.1 in
    let wrong = subst (λ form. MayNotAdd may_fail fails entry (kind form) blocks c.args.sizes.block now block after c.in_err-more.field-0.0) inv.form c.in_err-more.ensures.cause in
    let filled = subst (λ (n : ℕ). AllByRecursion (IsFilled n c.args.sizes.block (entries_in entry now.list)) blocks) c.restart_interval-interval.ensures.interval inv.filled in
    rw (p.1, p.2) (not_added may_fail (g.K.Writer.Output.never_fails c.args.writer → ⊥) entry (kind c.args.form) c.args.sizes.block c.args.source.now blocks fails (λ fails n. fails (inv.reliable n)) now after block c.in_err-more.field-0.0 inv.taken filled inv.no_more (c.goes_on.ensures.some c.loop-alloc-test.true) wrong)
