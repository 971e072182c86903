use Rattle.sst_parts.proofs.Writing.Files.{copies_are_file}
use Rattle.sst_parts.proofs.laws.copied_layout_is_parted.Goals as goal

pub returns : goal.returns
returns c = λ f closed parts bytes top layout from ordered. copies_are_file f (λ blocks text h l. c.layout_is_sound.ensures f blocks text h l) closed parts bytes top layout from ordered
