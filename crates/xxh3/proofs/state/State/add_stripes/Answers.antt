use Rattle.std.proofs.Common.{refl, length, ◌≡◌, ◌-◌, ◌*◌, ◌/◌, arith}
use Rattle.xxh3.proofs.Keeping.{takes_stripes, front_stays}
use Rattle.xxh3.proofs.state.State.add_stripes.Goals as goal

pub returns-clause-held : goal.returns-clause-held
returns-clause-held c = λ message n h.
    let count = (length c.args.bytes.now - 1) / 64 in
    let rest : length c.split_at.result.1.now ≡ length c.args.bytes.now - 64 * count = omega (arith, c.split_at.ensures.back_len) in
    takes_stripes c.args.self.now _ message c.args.bytes.now n h c.put_last.new.window c.split_at.result.1.now count c.requires.empty c.requires.stripes c.requires.some refl
    (rw c.secret.ensures at c.with_stripes.ensures.value)
    (front_stays c.args.self.now c.args.self.now message c.args.bytes.now n h c.put_last.new.window c.split_at.result.0.now count c.requires.empty c.requires.stripes
    c.split_at.ensures.front (omega arith) c.put_last.ensures.stripe c.put_last.ensures.none)
    c.put.ensures c.split_at.ensures.back rest refl refl refl
