use Rattle.std.specs.Prelude.{None, option_map}
use Rattle.std.specs.Option.{option_to_list}
use Rattle.std.proofs.Common.{sym}
use Rattle.sst_base.proofs.Strings.LastItems.{last_or-append}
use Rattle.sst_base.proofs.double_ended_peekable.DoubleEndedPeekable.last_peeked.Goals as goal

pub returns-in-Some : goal.returns-in-Some
returns-in-Some g c =
    let value_of = g.I.ListIterator.value_of c.args.self.now.iter in
    let front = option_to_list (option_map value_of c.args.self.now.front) in
    rw c.in-Some.is (sym (last_or-append None front (g.I.ListIterator.items c.args.self.now.iter) (value_of c.in-Some.item)))
