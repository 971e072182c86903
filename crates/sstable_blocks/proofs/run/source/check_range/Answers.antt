use Rattle.std.proofs.Common.{arith, rules, subst, length, IfSome, List, Option, ℕ, ◌≡◌, ◌≤◌, ◌<◌, ◌^◌, ◌+◌}
use Rattle.sstable_blocks.proofs.Reading.FileRanges.{long_range, past_range, some_size, no_size}
use Rattle.sstable_blocks.proofs.run.source.check_range.Goals as goal

pub returns-then-is_none-clause-range : goal.returns-then-is_none-clause-range
returns-then-is_none-clause-range g c =
    let h = c.args.handle.now in
    let far : 2 ^ 64 ≤ h.offset + h.size = search rules in
    let short : c.in_ok-stream_len.field-0 < 2 ^ 64 = search rules in
    long_range (g.F.Input.whole c.args.file.now) h (g.F.Input.is_memory c.args.file.now) c.in_ok-stream_len.field-0 far short c.in_ok-stream_len.ensures.len

pub returns-then-size-gt0-clause-range : goal.returns-then-size-gt0-clause-range
returns-then-size-gt0-clause-range g c = some_size (g.F.Input.whole c.args.file.now) c.args.handle.now (let k = c.size-size.ensures in omega arith)

pub returns-then-branch-offset-clause-range : goal.returns-then-branch-offset-clause-range
returns-then-branch-offset-clause-range g c =
    let h = c.args.handle.now in
    let none : h.size ≡ 0 = (let k = c.size-size.ensures in omega arith) in
    let past : c.in_ok-stream_len-2.field-0 < h.offset = search rules in
    past_range (g.F.Input.whole c.args.file.now) h (g.F.Input.is_memory c.args.file.now) c.in_ok-stream_len-2.field-0 none past
    (subst (λ (o : Option (List ℕ)). IfSome o (λ all. c.in_ok-stream_len-2.field-0 ≡ length all)) c.in_ok-move_to.ensures.whole c.in_ok-stream_len-2.ensures.len)

pub returns-clause-range : goal.returns-clause-range
returns-clause-range g c =
    let h = c.args.handle.now in
    let low : h.offset ≤ c.in_ok-stream_len-2.field-0 = search rules in
    no_size (g.F.Input.whole c.args.file.now) h c.in_ok-stream_len-2.field-0 low
    (subst (λ (o : Option (List ℕ)). IfSome o (λ all. c.in_ok-stream_len-2.field-0 ≡ length all)) c.in_ok-move_to.ensures.whole c.in_ok-stream_len-2.ensures.len)
