use Rattle.std.proofs.Common.{Some, length, sym, ap, subst, arith, ◌/◌}
use Rattle.std.proofs.lemmas.Bool.Decides.{Decides-eqb}
use Rattle.std.proofs.lemmas.Slice.Eq.{strip_prefix_is}
use Rattle.sstable_blocks.specs.BlockLaws.{IsBytes-drop}
use Rattle.sstable_blocks.specs.Prelude.{IsBytes}
use Rattle.sst_calls.proofs.fronts.front_behind.Goals as goal

pub returns-in-Some : goal.returns-in-Some
returns-in-Some c =
    let cases = c.in-Some.ensures.cases in
    record {
      rest = c.in-Some.rest.now;
      whole = strip_prefix_is Decides-eqb c.args.key.now c.args.prefix.now (Some c.in-Some.rest) cases;
      bytes = subst IsBytes (sym cases.1) (IsBytes-drop (length c.args.prefix.now) c.args.key.now (λ i. let h = c.type_inv.key i in omega (arith, h)));
      is = ap (λ n. n / 2) c.front_of.ensures;
      small = omega (arith, c.front_of.type_inv);
    }
