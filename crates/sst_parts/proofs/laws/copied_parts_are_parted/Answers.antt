use Rattle.sst_parts.proofs.Writing.Files.{sources_are_file}
use Rattle.sst_parts.proofs.laws.copied_parts_are_parted.Goals as goal

pub returns : goal.returns
returns c = λ f sources parts bytes top stored ordered layout. sources_are_file f (λ closed ps all h l from o. c.copied_layout_is_parted.ensures f closed ps all h l from o) sources parts bytes top stored ordered layout
