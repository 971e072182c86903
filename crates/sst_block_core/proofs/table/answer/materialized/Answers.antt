use Rattle.std.proofs.Common.{◌∙◌, Some, ap, sym}
use Rattle.std.specs.Option.{option_map}
use Rattle.sst_block_core.specs.Window.{item}
use Rattle.sst_block_core.proofs.table.answer.materialized.Goals as goal

pub returns-in_ok-materialize-in-Some-clause-ok : goal.returns-in_ok-materialize-in-Some-clause-ok
returns-in_ok-materialize-in-Some-clause-ok g c =
    ap (λ x. item (Some x)) c.in_ok-materialize-in-Some.ensures.ok ∙ ap (λ o. item (option_map (g.Parsed.ParsedItem.item_of c.args.payload.now) o)) (sym c.in-Some.is)

pub returns-in-None-clause-ok : goal.returns-in-None-clause-ok
returns-in-None-clause-ok g c = ap (λ o. item (option_map (g.Parsed.ParsedItem.item_of c.args.payload.now) o)) (sym c.in-None.is)
