use Rattle.std.proofs.Common.{◌≡◌, ◌+◌, ◌<◌, ◌≤◌, length, Some, None, arith, ◌∙◌, ap, sym, subst, inl, inr}
use Rattle.std.specs.Prelude.{IfSome}
use Rattle.std.proofs.lemmas.Result.{err_from_is_err_and}
use Rattle.sstable_blocks.specs.Prelude.{CountsBetween, entries, first_match}
use Rattle.sstable_blocks.specs.BlockLaws.{none_from}
use Rattle.sst_merge.specs.CountLaws.{count_next, within_front}
use Rattle.sst_merge.specs.ReaderLaws.{asked_here, asked_least, behind_more, kept_more, known_count, level_found, match_at, missed_more, none_found, later, one_fails, read_is_merge, same_here}
use Rattle.sst_merge.proofs.reader.read_levels.Goals as goal

pub returns-in_err-found-clause-kept : goal.returns-in_err-found-clause-kept
returns-in_err-found-clause-kept g c = kept_more g.R.Reader.list c.args.needle.now c.args.seqno c.loop-i.readers c.loop-i.i c.index-readers-i.result c.get.new.self _ c.loop-i.invariant.kept c.index-readers-i.is
    (c.get.ensures.kept ∙ ap g.R.Reader.list (sym c.index-readers-i.is))

pub returns-in_err-found-clause-stops : goal.returns-in_err-found-clause-stops
returns-in_err-found-clause-stops g c = λ lists known.
    let within : c.loop-i.i < length c.args.readers.now = omega (arith, c.loop-i-test.true, c.loop-i.auto.readers) in
    let here : c.loop-i.i < length c.loop-i.readers = omega (arith, c.loop-i-test.true, c.loop-i.auto.readers) in
    let same = same_here c.loop-i.readers c.args.readers.now c.loop-i.i c.index-readers-i.result here within c.loop-i.invariant.behind c.index-readers-i.is in
    let inside : c.loop-i.i < length lists = omega (arith, within, known_count g.R.Reader.list c.args.readers.now lists known) in
    let more = asked_here c.args.needle.now c.args.seqno lists c.loop-i.i inside (c.loop-i.invariant.missed lists known) in
    behind_more c.loop-i.readers c.args.readers.now c.loop-i.i _ c.get.new.self (omega (arith, more)) c.loop-i.invariant.behind

pub returns-in_err-found-clause-counts : goal.returns-in_err-found-clause-counts
returns-in_err-found-clause-counts g c = λ lists mosts known counted.
    let within : c.loop-i.i < length c.args.readers.now = omega (arith, c.loop-i-test.true, c.loop-i.auto.readers) in
    let here : c.loop-i.i < length c.loop-i.readers = omega (arith, c.loop-i-test.true, c.loop-i.auto.readers) in
    let same = same_here c.loop-i.readers c.args.readers.now c.loop-i.i c.index-readers-i.result here within c.loop-i.invariant.behind c.index-readers-i.is in
    let inside : c.loop-i.i < length lists = omega (arith, within, known_count g.R.Reader.list c.args.readers.now lists known) in
    within_front c.args.steps.now c.get.new.steps mosts (c.loop-i.i + 1) _ (asked_here c.args.needle.now c.args.seqno lists c.loop-i.i inside (c.loop-i.invariant.missed lists known))
    (count_next (λ r. g.R.Reader.most r c.args.needle.now c.args.seqno) c.args.readers.now mosts c.loop-i.i c.index-readers-i.result c.args.steps.now c.loop-i.steps c.get.new.steps counted within same
    (c.loop-i.invariant.counts mosts counted) (subst (λ x. IfSome (g.R.Reader.most x c.args.needle.now c.args.seqno) (CountsBetween c.loop-i.steps c.get.new.steps (0, 0))) (sym c.index-readers-i.is) c.get.ensures.counts))

pub returns-in_err-found-clause-cause : goal.returns-in_err-found-clause-cause
returns-in_err-found-clause-cause g c =
    let within : c.loop-i.i < length c.args.readers.now = omega (arith, c.loop-i-test.true, c.loop-i.auto.readers) in
    let here : c.loop-i.i < length c.loop-i.readers = omega (arith, c.loop-i-test.true, c.loop-i.auto.readers) in
    let same = same_here c.loop-i.readers c.args.readers.now c.loop-i.i c.index-readers-i.result here within c.loop-i.invariant.behind c.index-readers-i.is in
    let p = err_from_is_err_and c.from_residual.result c.from_residual.ensures.1 in
    rw (p.1, p.2) (elim c.in_err-found.ensures.cause [
      | inl memory ↦ inl memory
      | inr fails ↦ inr (one_fails (λ r. g.R.Reader.may_fail r c.args.needle.now c.args.seqno c.in_err-found.field-0.0) c.args.readers.now c.loop-i.i c.index-readers-i.result within same
          (subst (λ x. g.R.Reader.may_fail x c.args.needle.now c.args.seqno c.in_err-found.field-0.0) (sym c.index-readers-i.is) fails))
    ])

pub returns-in-Some-clause-found : goal.returns-in-Some-clause-found
returns-in-Some-clause-found g c = λ lists known.
    let within : c.loop-i.i < length c.args.readers.now = omega (arith, c.loop-i-test.true, c.loop-i.auto.readers) in
    let here : c.loop-i.i < length c.loop-i.readers = omega (arith, c.loop-i-test.true, c.loop-i.auto.readers) in
    let same = same_here c.loop-i.readers c.args.readers.now c.loop-i.i c.index-readers-i.result here within c.loop-i.invariant.behind c.index-readers-i.is in
    let inside : c.loop-i.i < length lists = omega (arith, within, known_count g.R.Reader.list c.args.readers.now lists known) in
    let is = match_at g.R.Reader.list c.args.needle.now c.args.seqno c.args.readers.now lists c.loop-i.i c.index-readers-i.result c.in_ok-found.field-0 known within same
    (subst (λ x. IfSome (g.R.Reader.list x) (λ all. c.in_ok-found.field-0 ≡ first_match entries c.args.needle.now c.args.seqno all)) (sym c.index-readers-i.is) c.in_ok-found.ensures.found) in
    read_is_merge g.R.Reader.list c.args.needle.now c.args.seqno g.R.Reader.ordered c.args.readers.now lists (Some c.in-Some.found) known
    (sym (level_found c.args.needle.now c.args.seqno lists c.loop-i.i c.in-Some.found (c.requires lists known) inside (c.loop-i.invariant.missed lists known) (sym is ∙ c.in-Some.is)))

pub returns-in-Some-clause-kept : goal.returns-in-Some-clause-kept
returns-in-Some-clause-kept g c = kept_more g.R.Reader.list c.args.needle.now c.args.seqno c.loop-i.readers c.loop-i.i c.index-readers-i.result c.get.new.self _ c.loop-i.invariant.kept c.index-readers-i.is
    (c.get.ensures.kept ∙ ap g.R.Reader.list (sym c.index-readers-i.is))

pub returns-in-Some-clause-stops : goal.returns-in-Some-clause-stops
returns-in-Some-clause-stops g c = λ lists known.
    let within : c.loop-i.i < length c.args.readers.now = omega (arith, c.loop-i-test.true, c.loop-i.auto.readers) in
    let here : c.loop-i.i < length c.loop-i.readers = omega (arith, c.loop-i-test.true, c.loop-i.auto.readers) in
    let same = same_here c.loop-i.readers c.args.readers.now c.loop-i.i c.index-readers-i.result here within c.loop-i.invariant.behind c.index-readers-i.is in
    let inside : c.loop-i.i < length lists = omega (arith, within, known_count g.R.Reader.list c.args.readers.now lists known) in
    let more = asked_here c.args.needle.now c.args.seqno lists c.loop-i.i inside (c.loop-i.invariant.missed lists known) in
    behind_more c.loop-i.readers c.args.readers.now c.loop-i.i _ c.get.new.self (omega (arith, more)) c.loop-i.invariant.behind

pub returns-in-Some-clause-counts : goal.returns-in-Some-clause-counts
returns-in-Some-clause-counts g c = λ lists mosts known counted.
    let within : c.loop-i.i < length c.args.readers.now = omega (arith, c.loop-i-test.true, c.loop-i.auto.readers) in
    let here : c.loop-i.i < length c.loop-i.readers = omega (arith, c.loop-i-test.true, c.loop-i.auto.readers) in
    let same = same_here c.loop-i.readers c.args.readers.now c.loop-i.i c.index-readers-i.result here within c.loop-i.invariant.behind c.index-readers-i.is in
    let inside : c.loop-i.i < length lists = omega (arith, within, known_count g.R.Reader.list c.args.readers.now lists known) in
    within_front c.args.steps.now c.get.new.steps mosts (c.loop-i.i + 1) _ (asked_here c.args.needle.now c.args.seqno lists c.loop-i.i inside (c.loop-i.invariant.missed lists known))
    (count_next (λ r. g.R.Reader.most r c.args.needle.now c.args.seqno) c.args.readers.now mosts c.loop-i.i c.index-readers-i.result c.args.steps.now c.loop-i.steps c.get.new.steps counted within same
    (c.loop-i.invariant.counts mosts counted) (subst (λ x. IfSome (g.R.Reader.most x c.args.needle.now c.args.seqno) (CountsBetween c.loop-i.steps c.get.new.steps (0, 0))) (sym c.index-readers-i.is) c.get.ensures.counts))

pub loop-i-preserved : goal.loop-i-preserved
loop-i-preserved g c =
    let within : c.loop-i.i < length c.args.readers.now = omega (arith, c.loop-i-test.true, c.loop-i.auto.readers) in
    let here : c.loop-i.i < length c.loop-i.readers = omega (arith, c.loop-i-test.true, c.loop-i.auto.readers) in
    let same = same_here c.loop-i.readers c.args.readers.now c.loop-i.i c.index-readers-i.result here within c.loop-i.invariant.behind c.index-readers-i.is in
    record {
      kept = kept_more g.R.Reader.list c.args.needle.now c.args.seqno c.loop-i.readers c.loop-i.i c.index-readers-i.result c.get.new.self _ c.loop-i.invariant.kept c.index-readers-i.is
          (c.get.ensures.kept ∙ ap g.R.Reader.list (sym c.index-readers-i.is));
      behind = behind_more c.loop-i.readers c.args.readers.now c.loop-i.i (c.loop-i.i + 1) c.get.new.self (omega arith) c.loop-i.invariant.behind;
      counts = λ mosts counted. count_next (λ r. g.R.Reader.most r c.args.needle.now c.args.seqno) c.args.readers.now mosts c.loop-i.i c.index-readers-i.result c.args.steps.now c.loop-i.steps c.get.new.steps counted within same
          (c.loop-i.invariant.counts mosts counted) (subst (λ x. IfSome (g.R.Reader.most x c.args.needle.now c.args.seqno) (CountsBetween c.loop-i.steps c.get.new.steps (0, 0))) (sym c.index-readers-i.is) c.get.ensures.counts);
      missed = λ lists known.
          let is = match_at g.R.Reader.list c.args.needle.now c.args.seqno c.args.readers.now lists c.loop-i.i c.index-readers-i.result c.in_ok-found.field-0 known within same
          (subst (λ x. IfSome (g.R.Reader.list x) (λ all. c.in_ok-found.field-0 ≡ first_match entries c.args.needle.now c.args.seqno all)) (sym c.index-readers-i.is) c.in_ok-found.ensures.found) in
          missed_more c.args.needle.now c.args.seqno lists c.loop-i.i (c.loop-i.invariant.missed lists known) (sym is ∙ none_from _ c.in_default.not-Some);
    }

pub returns-clause-found : goal.returns-clause-found
returns-clause-found g c = λ lists known.
    let all : length lists ≤ c.loop-i.i = omega (arith, c.loop-i-test.false, c.loop-i.auto.readers, known_count g.R.Reader.list c.args.readers.now lists known) in
    read_is_merge g.R.Reader.list c.args.needle.now c.args.seqno g.R.Reader.ordered c.args.readers.now lists None known
    (sym (none_found c.args.needle.now c.args.seqno lists c.loop-i.i all (c.loop-i.invariant.missed lists known)))

pub returns-clause-stops : goal.returns-clause-stops
returns-clause-stops g c = λ lists known.
    let n = known_count g.R.Reader.list c.args.readers.now lists known in
    let all : c.loop-i.i ≡ length lists = omega (arith, c.loop-i-test.false, c.loop-i.auto.readers, c.loop-i.auto.i-end, n) in
    later c.loop-i.readers c.args.readers.now c.loop-i.i _ (asked_least c.args.needle.now c.args.seqno lists c.loop-i.i (omega (arith, all)) (c.loop-i.invariant.missed lists known)) c.loop-i.invariant.behind

pub returns-clause-counts : goal.returns-clause-counts
returns-clause-counts g c = λ lists mosts known counted.
    let n = known_count g.R.Reader.list c.args.readers.now lists known in
    let all : c.loop-i.i ≡ length lists = omega (arith, c.loop-i-test.false, c.loop-i.auto.readers, c.loop-i.auto.i-end, n) in
    within_front c.args.steps.now c.loop-i.steps mosts c.loop-i.i _ (asked_least c.args.needle.now c.args.seqno lists c.loop-i.i (omega (arith, all)) (c.loop-i.invariant.missed lists known))
    (c.loop-i.invariant.counts mosts counted)
