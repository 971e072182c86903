use Rattle.std.proofs.Common.{cond, subst}
use Rattle.sst_merge.specs.Tournament.{IsFirstOf}
use Rattle.sst_merge.proofs.Merging.Tournaments.{better_is}
use Rattle.sst_merge.proofs.merge.better.Goals as goal

pub returns-then-goes_first : goal.returns-then-goes_first
returns-then-goes_first g c =
    subst (λ t. IsFirstOf g.T.Ranked.cmp c.args.heads.now c.args.i c.args.j (cond t c.args.i c.args.j)) c.if-goes_first.true
    (better_is g.T.Ranked.cmp g.T.Ranked.ordered c.args.heads.now c.args.i c.args.j c.index-heads-i.result c.index-heads-j.result c.goes_first.result c.requires.first c.requires.second c.index-heads-i.is c.index-heads-j.is c.goes_first.ensures)

pub returns-else-goes_first : goal.returns-else-goes_first
returns-else-goes_first g c =
    subst (λ t. IsFirstOf g.T.Ranked.cmp c.args.heads.now c.args.i c.args.j (cond t c.args.i c.args.j)) c.if-goes_first.false
    (better_is g.T.Ranked.cmp g.T.Ranked.ordered c.args.heads.now c.args.i c.args.j c.index-heads-i.result c.index-heads-j.result c.goes_first.result c.requires.first c.requires.second c.index-heads-i.is c.index-heads-j.is c.goes_first.ensures)
