use Rattle.std.proofs.Common.{arith, refl}
use Rattle.xxh3.specs.Xxh3.{with_stripes}
use Rattle.xxh3.proofs.state.State.new.Goals as goal

pub returns : goal.returns
unfolding with_stripes
returns c = record {
  stripes = 0;
  at = record {
    length_is = refl;
    total_is = refl;
    place_is = refl;
    some = λ e. cc;
    none = λ e. refl;
    sums_are = c.first_sums.ensures;
    last = λ l. absurd (omega arith);
    behind = record { each = λ k l. absurd (omega arith) };
  };
  waits = λ e. cc;
}
