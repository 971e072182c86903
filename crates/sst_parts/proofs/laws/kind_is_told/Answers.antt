use Rattle.std.proofs.Common.{refl}
use Rattle.sstable_blocks.specs.BlockTypes.{Index, Meta}
use Rattle.sst_parts.proofs.Reading.Kinds.{framed_kind}
use Rattle.sst_parts.proofs.laws.kind_is_told.Goals as goal

pub returns-clause-plain : goal.returns-clause-plain
returns-clause-plain c = λ hs blocks bytes h sound. framed_kind hs Index bytes h.index sound.index.payload sound.index.frame

pub returns-clause-parted : goal.returns-clause-parted
returns-clause-parted c = λ hs parts bytes top parted. framed_kind hs Meta bytes top parted.index.payload parted.index.frame
