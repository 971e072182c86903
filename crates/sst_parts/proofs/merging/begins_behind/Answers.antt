use Rattle.std.proofs.Common.{sym, ◌∙◌}
use Rattle.sst_parts.proofs.Merged.Steps.{behind_first, behind_none, none_peeked, peeked}
use Rattle.sst_parts.proofs.merging.begins_behind.Goals as goal

pub returns-in-None : goal.returns-in-None
returns-in-None g c = λ xs known. sym (behind_none c.args.end.now xs (none_peeked (λ r. r.now) c.args.newer.now.list c.peek.result c.peek.ensures.first c.in-None.is xs known))

pub returns-in-Some : goal.returns-in-Some
returns-in-Some g c = λ xs known. c.is_behind.ensures ∙ behind_first c.args.end.now xs c.in-Some.first.now (peeked (λ r. r.now) c.args.newer.now.list c.peek.result c.in-Some.first c.peek.ensures.first c.in-Some.is xs known)
