use Rattle.sst_parts.proofs.Reading.OpenParts.{fresh}
use Rattle.sstable_blocks.specs.RunReading.{hashes}
use Rattle.sst_parts.proofs.parts_reader.OpenPart.open.Goals as goal

pub returns-clause-opened : goal.returns-clause-opened
returns-clause-opened g c = rw c.new.ensures (fresh (hashes g.H.BlockHash.hash64 g.H.BlockHash.hash128) c.args.range.now _ _ c.in_ok-run.ensures.opened)
