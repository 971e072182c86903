use Rattle.std.proofs.Common.{inl, inr, sym, ◌∙◌}
use Rattle.std.proofs.lemmas.Result.{IfErr-weaker, on_ok_weaker}
use Rattle.sst_parts.proofs.Merged.Steps.{first_of, second_of}
use Rattle.sst_parts.proofs.merging.take_lesser.Goals as goal

pub returns-then-is_first : goal.returns-then-is_first
returns-then-is_first g c = record {
  cause = IfErr-weaker c.take.result _ _ (λ e f. inr f) c.take.ensures.cause;
  no_more = on_ok_weaker c.take.result (λ m. (m, λ e met. met)) c.take.ensures.no_more;
  taken = first_of c.args.newer.now c.take.new.self c.args.part.now c.take.result c.take.ensures.first (λ xs ys a b. sym (c.is_first.ensures xs ys a b) ∙ c.if-is_first.true);
}

pub returns-else-is_first : goal.returns-else-is_first
returns-else-is_first g c = record {
  cause = IfErr-weaker c.take-else-is_first.result _ _ (λ e f. inl f) c.take-else-is_first.ensures.cause;
  no_more = on_ok_weaker c.take-else-is_first.result (λ m. (λ e met. met, m)) c.take-else-is_first.ensures.no_more;
  taken = second_of c.args.newer.now c.args.part.now c.take-else-is_first.new.self c.take-else-is_first.result c.take-else-is_first.ensures.first (λ xs ys a b. sym (c.is_first.ensures xs ys a b) ∙ c.if-is_first.false);
}
