use Rattle.sstable_blocks.specs.Prelude.{Entry}
use Rattle.sst_merge.specs.CompactLaws.{compact-ordered}
use Rattle.sst_merge.specs.ManyLaws.{above_match, seen_match}
use Rattle.sst_merge.proofs.laws.compaction_keeps_reads.Goals as goal

pub returns-clause-above : goal.returns-clause-above
returns-clause-above c = λ ss bottom needle r items read up h. above_match ss bottom needle r items read up h

pub returns-clause-reads : goal.returns-clause-reads
returns-clause-reads c = λ ss bottom needle r items read up. seen_match ss bottom needle r items read up

pub returns-clause-ordered : goal.returns-clause-ordered
returns-clause-ordered c = λ ss bottom items up. compact-ordered (λ (e : Entry). e) ss bottom items up
