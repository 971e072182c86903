use Rattle.std.proofs.Common.{◌∙◌, ap, map}
use Rattle.std.proofs.lemmas.List.{map-append}
use Rattle.sst_block_core.specs.Window.{answers}
use Rattle.sst_block_core.specs.WindowLaws.{answers_append}
use Rattle.sst_block_core.specs.Ops.{step_of}
use Rattle.sst_block_core.proofs.laws.walk_goes_on.Goals as goal

pub returns : goal.returns
returns c first others w =
    ap (λ steps. answers steps w) (map-append step_of first others) ∙ answers_append (map step_of first) (map step_of others) w
