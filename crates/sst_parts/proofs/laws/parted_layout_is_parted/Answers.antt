use Rattle.sst_parts.proofs.Writing.Files.{layout_is_file}
use Rattle.sst_parts.proofs.laws.parted_layout_is_parted.Goals as goal

pub returns : goal.returns
returns c = λ f parts bytes top layout. layout_is_file f (λ blocks text h l. c.layout_is_sound.ensures f blocks text h l) parts bytes top layout
