use Rattle.std.proofs.Common.{◌≡◌, ◌≢◌, ◌<◌, true, false, inr, sym, ◌∙◌, ap}
use Rattle.std.specs.Option.{option_copied}
use Rattle.std.specs.Ordering.{is_eq}
use Rattle.sstable_blocks.specs.Prelude.{Entry}
use Rattle.sstable_blocks.specs.BlockLaws.{keys_equal}
use Rattle.sst_merge.specs.MappedLaws.{none_entries, apart_none, apart_entries, together_entries, keys_alike}
use Rattle.sst_merge.specs.SizeLaws.{none_peeked, some_last}
use Rattle.sst_merge.proofs.writing.goes_on.Goals as goal

pub returns-in-None-default-clause-reaches : goal.returns-in-None-default-clause-reaches
returns-in-None-default-clause-reaches g c = λ no. inr (none_entries g.T.AsEntry.entry c.args.source.now.list (none_peeked (λ r. r.now) c.args.source.now.list c.peek.result c.in-None-default.is-0 c.peek.ensures.first))

pub returns-in-None-default-clause-apart : goal.returns-in-None-default-clause-apart
returns-in-None-default-clause-apart g c = λ no. apart_none g.T.AsEntry.entry c.args.source.now.list c.args.block.now (none_peeked (λ r. r.now) c.args.source.now.list c.peek.result c.in-None-default.is-0 c.peek.ensures.first)

pub returns-in-Some-None-clause-reaches : goal.returns-in-Some-None-clause-reaches
returns-in-Some-None-clause-reaches g c = λ no. absurd (some_last c.args.block.now c.requires (sym (ap option_copied c.in-Some-None.is-1) ∙ c.last.ensures.value))

pub returns-else-len-size-clause-apart : goal.returns-else-len-size-clause-apart
returns-else-len-size-clause-apart g c = λ no.
    let entry = g.T.AsEntry.entry in
    let key = λ (e : Entry). e.key.user_key in
    let last = c.in-Some-Some.last.now in
    let next = c.in-Some-Some.next.now in
    let differ : (entry last).key.user_key ≢ (entry next).key.user_key = λ same.
    let alike = keys_alike c.view.result.key.user_key c.view-else-len-size.result.key.user_key (ap key c.view.ensures ∙ same ∙ sym (ap key c.view-else-len-size.ensures)) in
    let wrong : true ≡ false = sym alike ∙ sym (ap is_eq c.compare_user_key.ensures) ∙ sym c.is_eq.ensures ∙ no in cc
    in apart_entries entry c.args.source.now.list c.args.block.now next last c.in-Some-Some.ensures.first c.in-Some-Some.ensures'.value differ

pub returns-else-len-size-clause-goes_on : goal.returns-else-len-size-clause-goes_on
returns-else-len-size-clause-goes_on g c = λ total is yes.
    let entry = g.T.AsEntry.entry in
    let key = λ (e : Entry). e.key.user_key in
    let last = c.in-Some-Some.last.now in
    let next = c.in-Some-Some.next.now in
    let alike = ap is_eq (sym c.compare_user_key.ensures) ∙ sym c.is_eq.ensures ∙ yes in
    let same = keys_equal c.view.result.key.user_key c.view-else-len-size.result.key.user_key alike in
    together_entries entry (λ _. total < c.args.size) c.args.source.now.list c.args.block.now next last c.in-Some-Some.ensures.first c.in-Some-Some.ensures'.value (sym (ap key c.view.ensures) ∙ same ∙ ap key c.view-else-len-size.ensures)
