use Rattle.std.proofs.Common.{◌≡◌, ◌<◌, arith, false, nat_eq, nat_lt, ◌∙◌}
use Rattle.std.proofs.lemmas.Bool.{lt-ltb}
use Rattle.std.proofs.lemmas.Bool.Decides.{nat_tests}
use Rattle.sstable_blocks.specs.Prelude.{some_left}
use Rattle.sstable_blocks.specs.RunReading.{hashes}
use Rattle.sst_merge.proofs.Moving.TableEnds.{none_at_front, none_before, some_later, table_shown}
use Rattle.sst_merge.proofs.movable_table.MovableTableMovableInternalValue.has_left.Goals as goal

pub returns-then-front-back : goal.returns-then-front-back
returns-then-front-back g c =
    let s = c.self.inside in
    let f = c.in-Some-Some.front in
    let b = c.in-Some-Some.back in
    table_shown (hashes g.H.BlockHash.hash64 g.H.BlockHash.hash128) g.S.FrameSource.bytes g.S.FrameSource.reads s.table s.front s.back s.ended c.args.self.now c.self.view_is c.self.invariant
    (λ w. nat_lt f.block b.block ≡ some_left w)
    (λ blocks are. lt-ltb f.block b.block c.if-front-back.true ∙ some_later s.front s.back blocks are f b c.in-Some-Some.is-0 c.in-Some-Some.is-1 c.if-front-back.true)

pub returns-else-front-back-2 : goal.returns-else-front-back-2
returns-else-front-back-2 g c =
    let s = c.self.inside in
    let f = c.in-Some-Some.front in
    let b = c.in-Some-Some.back in
    let more : b.block < f.block = omega (arith, c.if-front-back.false, c.if-front-back-2.false) in
    let differ : nat_eq f.block b.block ≡ false = grind (arith, nat_tests, more) in
    table_shown (hashes g.H.BlockHash.hash64 g.H.BlockHash.hash128) g.S.FrameSource.bytes g.S.FrameSource.reads s.table s.front s.back s.ended c.args.self.now c.self.view_is c.self.invariant
    (λ w. nat_eq f.block b.block ≡ some_left w)
    (λ blocks are. differ ∙ none_before s.front s.back blocks are f b c.in-Some-Some.is-0 c.in-Some-Some.is-1 more)

pub returns-in_default-2 : goal.returns-in_default-2
returns-in_default-2 g c =
    let s = c.self.inside in
    table_shown (hashes g.H.BlockHash.hash64 g.H.BlockHash.hash128) g.S.FrameSource.bytes g.S.FrameSource.reads s.table s.front s.back s.ended c.args.self.now c.self.view_is c.self.invariant
    (λ w. false ≡ some_left w) (λ blocks are. none_at_front s.front s.back blocks are c.in_default.is-0)
