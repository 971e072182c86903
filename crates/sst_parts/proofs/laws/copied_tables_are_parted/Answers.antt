use Rattle.sstable_blocks.specs.RunReading.{hashes}
use Rattle.sst_parts.proofs.Reading.CopiedTables.{tables_stored}
use Rattle.sst_parts.specs.PartCopies.{parts_of_tables, sources_of}
use Rattle.sst_parts.proofs.laws.copied_tables_are_parted.Goals as goal

pub returns : goal.returns
returns c = λ f tables bytes top sums are ordered layout.
    let stored = tables_stored (hashes f.hash64 f.hash128) sums c.index_check_is_by_stages.ensures (λ r p items short is. c.index_block_is_read.ensures r p items short is) tables are in
    c.copied_parts_are_parted.ensures f (sources_of tables) (parts_of_tables tables) bytes top stored ordered layout
