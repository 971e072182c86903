use Rattle.std.proofs.lemmas.Result.{err_from_is_err_and}
use Rattle.sstable_blocks.specs.TableCountLaws.{nothing_counted}
use Rattle.sst_parts.proofs.Scanning.PartSteps.{part_counted, part_fails, part_read}
use Rattle.sstable_blocks.specs.RunReading.{hashes}
use Rattle.sst_parts.proofs.part.read_in_part.Goals as goal

pub returns-in_err-handles-clause-exact : goal.returns-in_err-handles-clause-exact
returns-in_err-handles-clause-exact g c =
    let r = err_from_is_err_and c.from_residual.result c.from_residual.ensures.1 in
    rw (r.1, r.2) (part_fails (hashes g.H.BlockHash.hash64 g.H.BlockHash.hash128) c.args.part.now c.args.needle.now c.args.seqno _ _ _ _ c.in_err-handles.ensures.exact)

pub returns-in_err-handles-clause-counts : goal.returns-in_err-handles-clause-counts
returns-in_err-handles-clause-counts g c = nothing_counted _ _ _

pub returns-clause-exact : goal.returns-clause-exact
returns-clause-exact g c =
    let p = c.in_ok-handles.ensures in
    part_read (hashes g.H.BlockHash.hash64 g.H.BlockHash.hash128) c.args.part.now c.args.needle.now c.args.seqno _ _ _ _ _ _ _ _ _ p.source.same p.source.failures_grow p.source.kept p.exact c.read_entry_at.ensures.exact

pub returns-clause-counts : goal.returns-clause-counts
returns-clause-counts g c =
    let p = c.in_ok-handles.ensures in
    part_counted (hashes g.H.BlockHash.hash64 g.H.BlockHash.hash128) c.args.part.now c.args.needle.now c.args.seqno _ _ _ _ _ p.source.same p.exact c.read_entry_at.ensures.counts
