use Rattle.std.proofs.Common.{sym, ◌∙◌, inl, inr, arith}
use Rattle.sst_program.proofs.WordTexts.CommandWords.{within-kept, within-passed, number_within-some, number_within-none}
use Rattle.sst_program.proofs.text.number_within.Goals as goal

pub returns-in-Some-clause-exact : goal.returns-in-Some-clause-exact
returns-in-Some-clause-exact c =
    sym (number_within-some c.args.least c.args.most c.args.digits.now c.in-Some.n (sym c.in-Some.ensures.exact)
    ∙ within-kept c.args.least c.args.most c.in-Some.n c.if-least-n.true c.if-n-most.true)

pub returns-in_default-clause-exact : goal.returns-in_default-clause-exact
returns-in_default-clause-exact c =
    sym (number_within-some c.args.least c.args.most c.args.digits.now c.in-Some.n (sym c.in-Some.ensures.exact)
    ∙ within-passed c.args.least c.args.most c.in-Some.n (inr (omega arith)))

pub returns-in_default-2-clause-exact : goal.returns-in_default-2-clause-exact
returns-in_default-2-clause-exact c =
    sym (number_within-some c.args.least c.args.most c.args.digits.now c.in-Some.n (sym c.in-Some.ensures.exact)
    ∙ within-passed c.args.least c.args.most c.in-Some.n (inl (omega arith)))

pub returns-in_default-3-clause-exact : goal.returns-in_default-3-clause-exact
returns-in_default-3-clause-exact c = sym (number_within-none c.args.least c.args.most c.args.digits.now (sym c.in_default.ensures.exact))
