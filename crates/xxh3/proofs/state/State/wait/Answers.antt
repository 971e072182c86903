use Rattle.std.proofs.Common.{refl}
use Rattle.xxh3.proofs.Keeping.{waits_more}
use Rattle.xxh3.proofs.state.State.wait.Goals as goal

pub returns-clause-held : goal.returns-clause-held
returns-clause-held c = λ message n h. waits_more c.args.self.now _ message c.args.bytes.now n h c.put.ensures refl refl refl refl refl
