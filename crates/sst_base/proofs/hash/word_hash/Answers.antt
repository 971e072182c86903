use Rattle.std.proofs.Common.{refl}
use Rattle.sst_base.proofs.Hashes.Lanes.{word_hash_is}
use Rattle.sst_base.proofs.hash.word_hash.Goals as goal

pub returns : goal.returns
returns c = λ bytes small long word. word_hash_is bytes c.args.word _ _ _ small long word refl refl refl
