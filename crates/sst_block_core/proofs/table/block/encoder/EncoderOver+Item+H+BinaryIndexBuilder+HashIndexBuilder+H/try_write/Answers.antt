use Rattle.std.proofs.Common.{refl, ◌∙◌, ◌%◌, ◌≤◌, ◌<◌, ◌^◌, ◌==◌, ◌++◌, ◌∷◌, [], if◌then◌else◌, eqb, arith, ap, subst, sym, length, take}
use Rattle.std.proofs.lemmas.Nat.{mod_below}
use Rattle.sst_block_core.proofs.Writing.Written.{written_push, body_more, pointers_inside, count_room}
use Rattle.std.proofs.lemmas.List.{length-take-le}
use Rattle.sst_block_core.specs.Pointers.{last_pointer}
use Rattle.sst_block_core.specs.PointerLaws.{length-each}
use Rattle.sst_block_core.proofs.Writing.BucketWrites.{table_push, heads_few}
use Rattle.sst_block_core.proofs.Writing.Endings.{opened, opened_table, memory_first, long_first, open_yet}
use Rattle.sst_block_core.proofs.table.block.encoder.EncoderOver+Item+H+BinaryIndexBuilder+HashIndexBuilder+H.try_write.Goals as goal

pub add-requires-clause-pointers : goal.add-requires-clause-pointers
add-requires-clause-pointers g c =
    subst (λ n. last_pointer c.args.self.now.pointers ≤ n) (length-take-le _ _ c.requires.inside) (pointers_inside _ _ c.requires.interval_some _ _ _ _ _ _ (opened _ _ _ _ _ _ _ _ _ c.requires.tied (open_yet _ c.if-is_some.ensures)))

pub add-requires-clause-few : goal.add-requires-clause-few
add-requires-clause-few g c =
    let w = opened _ _ _ _ _ _ _ _ _ c.requires.tied (open_yet _ c.if-is_some.ensures) in
    heads_few _ _ _ c.requires.interval_some _ _ _ _ (ap length w.offsets ∙ length-each _ 0 _) (opened_table _ _ _ _ _ _ _ c.requires.tabled (open_yet _ c.if-is_some.ensures))

pub returns-in_default-clause-cause : goal.returns-in_default-clause-cause
returns-in_default-clause-cause g c = rw c.refuse.ensures.kept (memory_first _ _ (open_yet _ c.if-is_some.ensures))

pub returns-then-end-clause-cause : goal.returns-then-end-clause-cause
returns-then-end-clause-cause g c =
    let w = opened _ _ _ _ _ _ _ _ _ c.requires.tied (open_yet _ c.if-is_some.ensures) in
    let test = ap (λ k. eqb k 0) c.requires.phase in
    let e = ap length (c.in-Ok.ensures.bytes ∙ body_more _ _ c.requires.interval_some _ _ _ _ _ _ _ _ _ _ w test c.key_parts-key.ensures.value c.base_after-base_key.ensures) in
    let long : 2 ^ 32 ≤ length (take c.in-Ok.end c.add.new.writer.items) = omega (arith, length-take-le c.in-Ok.end c.add.new.writer.items c.in-Ok.ensures.inside, c.if-end.true) in
    rw c.refuse-then-end.ensures.kept (long_first _ _ (open_yet _ c.if-is_some.ensures) (subst (λ n. 2 ^ 32 ≤ n) e long))

pub overflow_add-self : goal.overflow_add-self
overflow_add-self g c =
    let w = opened _ _ _ _ _ _ _ _ _ c.requires.tied (open_yet _ c.if-is_some.ensures) in
    let test = ap (λ k. eqb k 0) c.requires.phase in
    let room : length (take c.in-Ok.end c.add.new.writer.items) < 2 ^ 32 = omega (arith, length-take-le c.in-Ok.end c.add.new.writer.items c.in-Ok.ensures.inside, c.if-end.false) in
    let next = written_push _ _ c.requires.interval_some _ _ _ _ _ _ _ _ _ _ _ w c.key_parts-key.ensures.valid test c.key_parts-key.ensures.value c.base_after-base_key.ensures c.in-Ok.ensures.bytes room in
    let small = count_room _ _ c.requires.interval_some _ g.Item.BlockItem.is_kind _ _ _ _ _ next in
    omega (arith, small)

pub returns-clause-sound : goal.returns-clause-sound
returns-clause-sound g c =
    let w = opened _ _ _ _ _ _ _ _ _ c.requires.tied (open_yet _ c.if-is_some.ensures) in
    let test = ap (λ k. eqb k 0) c.requires.phase in
    let room : length (take c.in-Ok.end c.add.new.writer.items) < 2 ^ 32 = omega (arith, length-take-le c.in-Ok.end c.add.new.writer.items c.in-Ok.ensures.inside, c.if-end.false) in
    let next = written_push _ _ c.requires.interval_some _ _ _ _ _ _ _ _ _ _ _ w c.key_parts-key.ensures.valid test c.key_parts-key.ensures.value c.base_after-base_key.ensures c.in-Ok.ensures.bytes room in
    let len = length-take-le c.args.self.now.len c.args.self.now.writer.now.items c.requires.inside in
    let pointers = c.in-Ok.ensures.pointers ∙ ap (λ n. if c.args.self.now.phase == 0 then c.args.self.now.pointers ++ n ∷ [] else c.args.self.now.pointers) (sym len) in
    record {
      interval_some = c.requires.interval_some;
      phase = c.next_phase-self.ensures.phase c.args.self.now.item_count c.requires.phase;
      inside = c.in-Ok.ensures.inside;
      tied = rw ((open_yet _ c.if-is_some.ensures), c.push.ensures, pointers) next;
      tabled = rw ((open_yet _ c.if-is_some.ensures), c.push.ensures, c.in-Ok.ensures.buckets) (table_push _ _ _ c.requires.interval_some _ _ _ _ _ _ _ (test ∙ ap (λ n. eqb (n % c.args.self.now.restart_interval) 0) w.count) refl (ap length w.offsets ∙ length-each _ 0 _) (opened_table _ _ _ _ _ _ _ c.requires.tabled (open_yet _ c.if-is_some.ensures)));
    }

pub next_phase-self-requires : goal.next_phase-self-requires
next_phase-self-requires g c = let b = mod_below c.args.self.now.item_count c.args.self.now.restart_interval c.requires.interval_some in omega (arith, b, c.requires.phase)
