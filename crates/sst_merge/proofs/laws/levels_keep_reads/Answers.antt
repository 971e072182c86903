use Rattle.sst_merge.specs.LevelLaws.{levels_above, levels_seen}
use Rattle.sst_merge.proofs.laws.levels_keep_reads.Goals as goal

pub returns-clause-above : goal.returns-clause-above
returns-clause-above c = λ ss bottom needle r newer items older read all h. levels_above needle r ss bottom newer items older read all h

pub returns-clause-reads : goal.returns-clause-reads
returns-clause-reads c = λ ss bottom needle r newer items older read all above none. levels_seen needle r ss bottom newer items older read all above none
