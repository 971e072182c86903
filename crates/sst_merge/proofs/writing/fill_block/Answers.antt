use Rattle.sst_sources.specs.ErrorLaws.{gives_more}
use Rattle.std.proofs.Common.{◌≡◌, ◌%◌, ◌∷◌, [], ◌++◌, Some, length, length-append, map, subst, sym, ap, ◌∙◌, inl, inr, arith}
use Rattle.std.specs.Option.{IfSome}
use Rattle.sstable_blocks.specs.Prelude.{item_form, entries}
use Rattle.sst_merge.specs.MappedLaws.{none_entries}
use Rattle.std.proofs.lemmas.List.{length-map, map-append}
use Rattle.std.proofs.lemmas.Bool.Decides.{nat_tests}
use Rattle.std.proofs.lemmas.Grind.{common_steps}
use Rattle.sst_merge.specs.SizeLaws.{below_more, len_more}
use Rattle.sst_sources.specs.SourceLaws.{same_end}
use Rattle.sst_sources.specs.Sources.{IsTaken}
use Rattle.sst_merge.specs.TableLaws.{taken_both}
use Rattle.sst_merge.proofs.writing.fill_block.Goals as goal
use Rattle.sst_merge.proofs.writing.fill_block.Goals.{then-is_empty, else-is_empty+then-len-size}

pub loop-alloc-preserved : goal.loop-alloc-preserved
loop-alloc-preserved g c =
    let r = c.args.interval in
    let entry = g.T.AsEntry.entry in
    let block = c.loop-alloc.block.items in
    let entries_before = map entry block in
    let before = c.loop-alloc.invariant in
    let e = c.in-Ok-Some.entry in
    let more : c.push.new.self.items ≡ block ++ e ∷ [] = c.in_ok-push-in-Ok-Some.ensures.items in
    let grown : map entry c.push.new.self.items ≡ entries_before ++ entry e ∷ [] = ap (map entry) more ∙ map-append entry block (e ∷ []) in
    let first = rw c.in-Ok-Some.field-0-is at c.in-Ok-Some.ensures.first in
    record {
      taken = subst (λ xs. IsTaken c.args.source.now.list xs c.take.new.self.list) (sym more) (taken_both c.args.source.now.list c.loop-alloc.source.list c.take.new.self.list block (e ∷ []) before.taken first.0);
      most = (let l = ap length more in let n = length-append block (e ∷ []) in omega (arith, first.1, before.most, l, n));
      len = len_more r c.requires.interval entries_before (map entry c.push.new.self.items) (entry e) c.loop-alloc.len c.form_len.result c.saturating_add-len.result grown before.len
          (subst (λ n. c.form_len.result ≡ length (item_form entries r (entries_before ++ entry e ∷ []) n (entry e))) (sym (length-map block entry)) (subst (λ xs. c.form_len.result ≡ length (item_form entries r (map entry xs ++ entry e ∷ []) (length xs) (entry e))) c.deref.ensures.value c.form_len.ensures.value)) c.saturating_add-len.ensures;
      below = below_more r c.args.size entries_before (map entry c.push.new.self.items) (entry e) c.loop-alloc.len c.ranges.size.fits grown before.len before.below (elim c.if-is_empty.branch [
        | then-is_empty w ↦ inl (length-map block entry ∙ grind (arith, common_steps, nat_tests, w.if-is_empty.ensures))
        | else-is_empty+then-len-size w ↦ inr w.if-len-size.true
      ]);
      ended = same_end c.loop-alloc.source.ended c.take.new.self.ended (Some e) (rw c.in-Ok-Some.field-0-is at c.in-Ok-Some.ensures.ended) ∙ before.ended;
      phase = (c.next_phase-phase.ensures.phase (length block) before.phase.0 ∙ ap (λ n. n % r) (sym (ap length more ∙ length-append block (e ∷ []))), c.next_phase-phase.ensures.below);
      no_more = λ e met. before.no_more e (c.in-Ok-Some.ensures.no_more e met);
    }

pub returns-in-Err-clause-cause : goal.returns-in-Err-clause-cause
returns-in-Err-clause-cause g c =
    gives_more g.I.Source.may_fail c.args.source.now c.loop-alloc.source c.in-Err.error c.loop-alloc.invariant.no_more c.in-Err.ensures.cause

pub returns-in-Ok-None-clause-taken : goal.returns-in-Ok-None-clause-taken
returns-in-Ok-None-clause-taken g c =
    let first = rw c.in-Ok-None.field-0-is at c.in-Ok-None.ensures.first in
    let inv = c.loop-alloc.invariant in
    let none = subst (λ o. IfSome o (λ xs. xs ≡ [])) (sym first.0) first.1 in
    record {
      taken = subst (λ o. IsTaken c.args.source.now.list c.loop-alloc.block.items o) (sym first.0) inv.taken;
      filled = record { reaches = inr (none_entries g.T.AsEntry.entry c.take.new.self.list none); below = inv.below };
      some = inr none;
      most = omega (arith, inv.most, first.2);
      ended = same_end c.loop-alloc.source.ended c.take.new.self.ended _ c.in-Ok-None.ensures.ended ∙ inv.ended;
      no_more = λ e met. inv.no_more e (c.in-Ok-None.ensures.no_more e met);
    }
